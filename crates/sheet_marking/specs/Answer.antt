-- The answer of marking. Assumes nothing.
use Rattle.std.specs.Prelude.{Bool, List, ℕ, Result}
use Rattle.refusal.specs.declared.Refusal.{Refusal}
use Rattle.units.specs.declared.Unit.{Unit}
use Rattle.rules.specs.Grid.{Puzzle, keeps}
use Rattle.rules.specs.Check.{checked, answered, sheet_checks}

-- The answer in a unit for a puzzle and a sheet of cells: whether it is right, exactly when the cells keep the puzzle.
unfoldable pub mark_sheet : Unit → Puzzle → List ℕ → Result Bool Refusal
mark_sheet u p cells = answered (checked (sheet_checks u p cells)) (keeps p cells)
