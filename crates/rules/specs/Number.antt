-- The number of grids that keep a puzzle and marks, the count under a cap, and the verdict. Assumes nothing.
use Rattle.std.specs.Prelude.{ℕ, zero, suc, ◌*◌, min, Bool, ◌&&◌, true, ◌≡◌}
use mathlib.Core.List.{List, ◌∷◌, Memᴰ}
use Rattle.tally.specs.Tally.{all, count, ways}
use Rattle.rules.specs.Grid.{black, digits, Puzzle, keeps}
use Rattle.rules.specs.Mark.{keeps_mark}

-- All ways to put a black or a digit into each of the n * n cells.
unfoldable pub grids : ℕ → List (List ℕ)
grids n = ways (black ∷ digits n) (n * n)

-- A grid keeps the puzzle and every mark.
unfoldable pub solves : Puzzle → List ℕ → List ℕ → Bool
solves p ms g = keeps p g && all (keeps_mark p.size g) ms

-- A solution: one of these ways that keeps the puzzle and every mark.
pub record Solution (p : Puzzle) (ms g : List ℕ) : Type 0 where
  pub among : Memᴰ g (grids p.size)
  pub right : solves p ms g ≡ true

-- THE NUMBER: how many of these ways keep the puzzle and every mark.
unfoldable pub number : Puzzle → List ℕ → ℕ
number p ms = count (solves p ms) (grids p.size)

-- The count under a cap: the smaller of the cap and the number.
unfoldable pub capped : ℕ → Puzzle → List ℕ → ℕ
capped cap p ms = min cap (number p ms)

-- The three verdicts.
pub data Verdict : Type 0 where
  unsolvable unique multiple : Verdict

-- The verdict on a number of grids: none, one, or more.
unfoldable pub verdict_of : ℕ → Verdict
verdict_of zero = unsolvable
verdict_of (suc zero) = unique
verdict_of (suc (suc k)) = multiple
