-- Tables that lie within each other, and tables that the same grids fit. Assumes nothing.
use Rattle.std.specs.Prelude.{ℕ, ◌<◌, ◌≡◌, true, List}
use Rattle.rules.specs.Grid.{Puzzle}
use Rattle.table.specs.Table.{Table, fits}
use Rattle.line_laws.specs.Grids.{GridOf}
use Rattle.table.specs.Value.{IsValue}

-- The table u has no candidate that t has not.
pub record Within (n : ℕ) (u t : Table) : Type 0 where
  pub kept : (r c v : ℕ) → r < n → c < n → IsValue n v → u r c v ≡ true → t r c v ≡ true

-- Each grid of the puzzle fits both tables or neither.
pub record SameGrids (p : Puzzle) (t u : Table) : Type 0 where
  pub same : (g : List ℕ) → GridOf p g → fits p.size t g ≡ fits p.size u g
