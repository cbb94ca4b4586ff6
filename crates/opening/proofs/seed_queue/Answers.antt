-- `opening::seed_queue` meets its contract. Assumes nothing.
use Rattle.opening.proofs.SeedLaws.{queue_start, queue_next}
use Rattle.opening.proofs.seed_queue.Goals as goal

pub loop-r-init : goal.loop-r-init
loop-r-init c = queue_start _ _

pub loop-r-preserved : goal.loop-r-preserved
loop-r-preserved c = queue_next _ _ c.loop-r.invariant c.seed_row.ensures
