-- `lane::Lane::row` meets its contract. Assumes nothing.
use mathlib.Core.Path.{sym}
use native.Mathlib.Omega.{arith}
use Rattle.lane.proofs.LaneLaws.{cell_row, black_row}
use Rattle.lane.proofs.Lane.row.Goals as goal

pub invariant_of-result : goal.invariant_of-result
invariant_of-result c =
    record {
      within = omega (arith, c.requires);
      cells = λ p h. omega (arith, cell_row c.args.r p c.requires);
      black = sym (black_row c.args.r c.requires);
    }
