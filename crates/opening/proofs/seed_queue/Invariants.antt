-- What holds in the loop of `opening::seed_queue`.
use Rattle.opening.specs.Opening.{BareTo}
use Rattle.queue_state.specs.Slab.{Struck}
use Rattle.opening.proofs.seed_queue.Given as goal

abbrev pub invariant-loop-r : goal.invariant-loop-r
invariant-loop-r l = Struck l.initial.st l.st (BareTo l.initial.st l.size.n l.r)
