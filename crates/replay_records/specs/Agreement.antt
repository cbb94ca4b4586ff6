-- What it means that the engine answers as a record says: the record has what the definitions give. Assumes nothing.
use Rattle.std.specs.Prelude.{ℕ, ◌≤◌, ◌≡◌, true, List, [], ◌∷◌, length, get_or, Option, None, Some}
use Rattle.units.specs.Limits.{hall}
use Rattle.rules.specs.Sums.{target_sums}
use Rattle.rules.specs.CheckParts.{size_fits}
use Rattle.rules.specs.Grid.{puzzle}
use Rattle.sheet_marking.specs.Answer.{mark_sheet}
use Rattle.sheet_marking.specs.declared.LineFault.{LineFault}
use Rattle.sheet_marking.specs.declared.LineFault.TheVariants.{Digits, Blacks, Sum}
use Rattle.sheet_marking.specs.Fault.{line_fault}
use Rattle.host.specs.Number.{sheet_number}
use Rattle.record_fields.specs.Fields.{field, record_size}
use Rattle.record_fields.specs.Recorded.{SumsRecorded}

-- The record has what a definition gives.
abbrev pub SumsAs : ℕ × List ℕ × List ℕ → List ℕ → Type 0
SumsAs given xs = SumsRecorded given.0 given.1 given.2 xs

-- The record has the target sums of its size and cells, where the target slices hold these bytes to begin with.
abbrev pub SumsFrom : List ℕ → List ℕ → List ℕ → Type 0
SumsFrom rows columns xs = SumsAs (target_sums hall (record_size xs) (field xs 1) rows columns) xs

-- A record of target sums is right, and its target slices fit the buffers that it is replayed with.
pub record SumsAgree (xs : List ℕ) : Type 0 where
  pub rows_fit : length (field xs 2) ≤ 256
  pub columns_fit : length (field xs 3) ≤ 256
  pub sums_are : SumsFrom (field xs 2) (field xs 3) xs

-- A record of a marked sheet is right.
abbrev pub SheetAgrees : List ℕ → Type 0
SheetAgrees xs = field xs 4 ≡ sheet_number (mark_sheet hall (puzzle (record_size xs) (field xs 1) (field xs 2)) (field xs 3)) ∷ []

-- The number of the step that a line fails first, 0 for none.
abbrev pub step_number : Option LineFault → ℕ
step_number None = 0
step_number (Some Digits) = 1
step_number (Some Blacks) = 2
step_number (Some Sum) = 3

-- A record of a checked line is right: it has a size, as many cells, and the step that they fail first with its target.
pub record LineAgrees (xs : List ℕ) : Type 0 where
  pub size_ok : size_fits (record_size xs) ≡ true
  pub cells_fit : length (field xs 2) ≡ record_size xs
  pub step_is : field xs 3 ≡ step_number (line_fault (record_size xs) (get_or (field xs 1) 0 0) (field xs 2)) ∷ []
