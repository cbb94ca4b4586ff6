-- The answer of Candidates, and what the table that it writes owes: where a grid is left, it is determined. Which candidates remain where none is, and whether
-- that is seen, is left open. Assumes nothing.
use Rattle.std.specs.Prelude.{⊤, ℕ, ◌*◌, ◌<◌, ◌≡◌, true, false, ◌≢◌, ◌⊎◌, length, Result, Ok, Err}
use mathlib.Core.List.{List, Memᴰ}
use Rattle.tally.specs.Tally.{any}
use Rattle.refusal.specs.declared.Refusal.{Refusal}
use Rattle.units.specs.declared.Unit.{Unit}
use Rattle.rules.specs.Grid.{Line, Puzzle, cell}
use Rattle.rules.specs.Mark.{rejects, mark_row, mark_column, mark_value}
use Rattle.rules.specs.Check.{checked, solve_checks}
use Rattle.rules.specs.Number.{number, Solution}
use Rattle.table.specs.Table.{Table, first_black, half, every_value, fits, bit_of, has_bit, table_of}
use Rattle.table.specs.Closed.{Closed}
use Rattle.soundness.specs.Greatest.{GreatestAfter}
use Rattle.candidates.specs.declared.Outcome.{Outcome}
use Rattle.candidates.specs.declared.Outcome.TheVariants.{Contradicted, Written}

-- What a table owes a puzzle and marks.
pub record Remaining (p : Puzzle) (ms : List ℕ) (t : Table) : Type 0 where
  -- each grid that keeps the puzzle and the marks fits it
  pub grids : (g : List ℕ) → Solution p ms g → fits p.size t g ≡ true
  -- each cell has a candidate
  pub filled : (r c : ℕ) → r < p.size → c < p.size → any (t r c) (every_value p.size) ≡ true
  -- the four points
  pub closed : Closed p t
  -- a rejected candidate is gone
  pub rejected : (m : ℕ) → Memᴰ m ms → rejects m ≡ true → t (mark_row m) (mark_column m) (mark_value m) ≡ false
  -- a taken one is there, alone in the half of each line that has it: a digit alone in its cell
  pub taken : (m : ℕ) → Memᴰ m ms → rejects m ≡ false → t (mark_row m) (mark_column m) (mark_value m) ≡ true
  pub alone : (m w : ℕ) (ℓ : Line) → Memᴰ m ms → rejects m ≡ false → Memᴰ (mark_value m) (half p.size (first_black ℓ)) →
      Memᴰ w (half p.size (first_black ℓ)) → w ≢ mark_value m → t (mark_row m) (mark_column m) w ≡ false

-- The masks of such a table, row by row, with no bit that is not a value's.
pub record WrittenTable (p : Puzzle) (ms masks : List ℕ) : Type 0 where
  pub size : length masks ≡ p.size * p.size
  pub remaining : Remaining p ms (table_of p.size masks)
  pub plain : (r c b : ℕ) → r < p.size → c < p.size → has_bit (cell p.size masks r c) b ≡ true →
      (v : ℕ) × Memᴰ v (every_value p.size) × (bit_of p.size v ≡ b)
  -- where a grid is left, it is the greatest stable table within what the marks leave of the greatest of all
  pub greatest : 0 < number p ms → GreatestAfter p ms (table_of p.size masks)

-- The answer in a unit and the buffer afterwards. On a refusal and on a contradiction the buffer is as it was; there is a contradiction only where no grid is left.
pub record TableGiven (u : Unit) (p : Puzzle) (ms : List ℕ) (answer : Result Outcome Refusal) (table table' : List ℕ) : Type 0 where
  pub refused : (k : Refusal) → checked (solve_checks u p ms (length table)) ≡ Err k → (answer ≡ Err k) × (table' ≡ table)
  pub answered : checked (solve_checks u p ms (length table)) ≡ Ok tt →
      ((answer ≡ Ok Written) × WrittenTable p ms table') ⊎ ((answer ≡ Ok Contradicted) × (number p ms ≡ 0) × (table' ≡ table))

-- The table is written, or no grid is left and the buffer is as it was.
abbrev pub Tabled : {E : Type 0} → Puzzle → List ℕ → Result ⊤ E → List ℕ → List ℕ → Type 0
Tabled p ms (Ok _) table table' = WrittenTable p ms table'
Tabled p ms (Err _) table table' = (number p ms ≡ 0) × (table' ≡ table)
