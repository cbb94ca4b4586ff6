-- What holds in the loop of `queue_state::clear_mask`.
use Rattle.queue_state.proofs.ClearLaws.{Clearing}
use Rattle.queue_state.proofs.clear_mask.Given as goal

abbrev pub invariant-loop-v : goal.invariant-loop-v
invariant-loop-v l = Clearing l.initial.st l.st l.cell l.mask l.v-iterator.rest
