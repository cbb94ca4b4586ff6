-- What holds in the loop of `target_sums::sum_to_black`.
use Prim.Native.Nat.{◌+◌}
use mathlib.Core.Path.{◌≡◌}
use lib.ListN.{drop}
use Rattle.tally.specs.Tally.{sum}
use Rattle.rules.specs.Grid.{until_black}
use Rattle.grid_lines.specs.Cells.{line_cells}
use Rattle.target_sums.proofs.sum_to_black.Given as goal

abbrev pub invariant-loop-j : goal.invariant-loop-j
invariant-loop-j l = sum (until_black (drop l.from (line_cells l.line))) ≡ l.s + sum (until_black (drop l.j (line_cells l.line)))
