-- What holds in the loop of `opening::seed_row`.
use Rattle.opening.specs.Opening.{BareIn}
use Rattle.queue_state.specs.Slab.{Struck}
use Rattle.opening.proofs.seed_row.Given as goal

abbrev pub invariant-loop-c : goal.invariant-loop-c
invariant-loop-c l = Struck l.initial.st l.st (BareIn l.initial.st l.r l.c)
