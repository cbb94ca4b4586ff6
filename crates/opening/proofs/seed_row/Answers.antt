-- `opening::seed_row` meets its contract. Assumes nothing.
use native.Mathlib.Omega.{arith}
use Rattle.opening.proofs.SeedLaws.{row_start, row_next}
use Rattle.opening.proofs.seed_row.Goals as goal

pub loop-c-init : goal.loop-c-init
loop-c-init c = row_start _ _

pub loop-c-preserved : goal.loop-c-preserved
loop-c-preserved c = row_next _ _ (omega arith) c.loop-c.invariant c.seed_cell.ensures
