-- `lane::Lane::column` meets its contract. Assumes nothing.
use Prim.Native.Nat.{◌+◌}
use mathlib.Core.Path.{sym}
use native.Mathlib.Omega.{arith}
use Rattle.lane.proofs.LaneLaws.{cell_column, black_column}
use Rattle.lane.proofs.Lane.column.Goals as goal

pub invariant_of-result : goal.invariant_of-result
invariant_of-result c =
    record {
      within = omega (arith, c.requires);
      cells = λ p h. omega (arith, cell_column (9 + c.args.c) p (omega arith));
      black = sym (black_column (9 + c.args.c) (omega arith));
    }
