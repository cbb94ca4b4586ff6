-- Marks: what accepted ones say, which grids they leave, and which candidates. Assumes nothing.
use Rattle.std.specs.Prelude.{ℕ, ◌<◌, ◌≡◌, true, List}
use Rattle.rules.specs.Grid.{Puzzle}
use Rattle.rules.specs.Mark.{mark_row, mark_column, mark_value}
use Rattle.table.specs.Table.{Table, fits}
use Rattle.line_laws.specs.Grids.{GridOf}
use Rattle.table.specs.Value.{IsValue}

-- A mark's cell lies in the grid, and its value is one of the cell's.
pub record AcceptedMark (n m : ℕ) : Type 0 where
  pub row_in : mark_row m < n
  pub column_in : mark_column m < n
  pub value_in : IsValue n (mark_value m)

-- Every grid of the puzzle fits the table.
pub record Whole (p : Puzzle) (t : Table) : Type 0 where
  pub whole : (g : List ℕ) → GridOf p g → fits p.size t g ≡ true
