-- The grids of a puzzle that fit a table, in order. Assumes nothing.
use Rattle.std.specs.Prelude.{◌&&◌, List, ℕ}
use Rattle.tally.specs.Tally.{keep}
use Rattle.rules.specs.Grid.{Puzzle, keeps}
use Rattle.rules.specs.Number.{grids}
use Rattle.rules.specs.Order.{in_order}
use Rattle.table.specs.Table.{Table, fits}

-- The grids that keep the puzzle and fit the table, in order.
unfoldable pub remaining : Puzzle → Table → List (List ℕ)
remaining p t = in_order p.size (keep (λ g. keeps p g && fits p.size t g) (grids p.size))
