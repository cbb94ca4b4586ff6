-- The order of grids: by the places that values have in their rows. Assumes nothing.
use Rattle.std.specs.Prelude.{ℕ, Bool, true, cond, List, [], ◌∷◌, ◌++◌, map, reverse, eqb, ltb}
use Rattle.tally.specs.Tally.{span, keep, join, first, sort}
use Rattle.rules.specs.Grid.{digits, Puzzle}
use Rattle.rules.specs.Mark.{left_black, right_black, has}
use Rattle.rules.specs.Number.{grids, solves}

-- A value of a row: one of its blacks, or a digit.
pub record RowValue : Type 0 where
  pub row : ℕ
  pub value : ℕ

abbrev pub row_value : ℕ → ℕ → RowValue
row_value r v = record { row = r; value = v }

-- The blacks of the rows: of each row from the top the right one, then the left one.
unfoldable pub black_sequence : ℕ → List RowValue
black_sequence n = join (map (λ r. row_value r right_black ∷ row_value r left_black ∷ []) (span 0 n))

-- The digits of the rows: from the greatest down, each in the rows from the top.
unfoldable pub digit_sequence : ℕ → List RowValue
digit_sequence n = join (map (λ d. map (λ r. row_value r d) (span 0 n)) (reverse (digits n)))

-- The values of all rows, one after another: the blacks, then the digits.
unfoldable pub sequence : ℕ → List RowValue
sequence n = black_sequence n ++ digit_sequence n

-- The place of a value in its row: the first column whose cell has it, or n.
unfoldable pub place_of : ℕ → List ℕ → RowValue → ℕ
place_of n g s = first (λ c. has n g s.row c s.value) n (span 0 n)

-- Grid g precedes grid h, or all places are the same: at the first of the values that has different places, its place in g is further right.
unfoldable pub precedes : ℕ → List RowValue → List ℕ → List ℕ → Bool
precedes n [] g h = true
precedes n (s ∷ ss) g h = cond (eqb (place_of n g s) (place_of n h s)) (precedes n ss g h) (ltb (place_of n h s) (place_of n g s))

-- Grids in this order.
unfoldable pub in_order : ℕ → List (List ℕ) → List (List ℕ)
in_order n gs = sort (precedes n (sequence n)) gs

-- The grids that keep the puzzle and every mark, in order.
unfoldable pub found : Puzzle → List ℕ → List (List ℕ)
found p ms = in_order p.size (keep (solves p ms) (grids p.size))

-- The first of some grids, or what was there before if there is none.
unfoldable pub first_or : List ℕ → List (List ℕ) → List ℕ
first_or before [] = before
first_or before (g ∷ gs) = g
