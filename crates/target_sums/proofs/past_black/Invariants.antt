-- What holds in the loop of `target_sums::past_black`.
use mathlib.Core.Path.{◌≡◌}
use lib.ListN.{drop}
use Rattle.rules.specs.Grid.{inside}
use Rattle.grid_lines.specs.Cells.{line_cells}
use Rattle.target_sums.proofs.past_black.Given as goal

abbrev pub invariant-loop-j : goal.invariant-loop-j
invariant-loop-j l = inside (line_cells l.line) ≡ inside (drop l.j (line_cells l.line))
