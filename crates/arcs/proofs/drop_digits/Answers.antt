-- `arcs::drop_digits` meets its contract. Assumes nothing.
use Rattle.arcs.proofs.DigitLaws.{dropping_next, dropping_end}
use Rattle.arcs.proofs.drop_digits.Goals as goal

pub loop-v-preserved : goal.loop-v-preserved
loop-v-preserved c = dropping_next c.loop-v.invariant c.in-Some.ensures.steps c.drop_support.ensures

pub returns : goal.returns
returns c = dropping_end c.loop-v.invariant c.in-None.ensures.steps.0
