-- `queue_state::clear_mask` meets its contract. Assumes nothing.
use Rattle.queue_state.proofs.ClearLaws.{clearing_start, clearing_next, clearing_end}
use Rattle.queue_state.proofs.clear_mask.Goals as goal

pub loop-v-init : goal.loop-v-init
loop-v-init c = rw c.into_iter-v-iterator.ensures.into_iter_gives (clearing_start _ _ _ c.requires.0 c.requires.1)

pub loop-v-preserved : goal.loop-v-preserved
loop-v-preserved c = clearing_next c.loop-v.invariant c.in-Some.ensures.steps c.strike.ensures

pub returns : goal.returns
returns c = clearing_end c.loop-v.invariant c.in-None.ensures.steps.0
