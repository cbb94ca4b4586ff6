-- `listing::add_digits` meets its contract. Assumes nothing.
use Rattle.listing.proofs.RaiseLaws.{digits_can, digits_next, digits_end}
use Rattle.listing.proofs.add_digits.Goals as goal

pub raise_support-requires : goal.raise_support-requires
raise_support-requires c = digits_can c.loop-v.invariant c.in-Some.ensures.steps

pub loop-v-preserved : goal.loop-v-preserved
loop-v-preserved c = digits_next c.loop-v.invariant c.in-Some.ensures.steps c.raise_support.ensures

pub returns : goal.returns
returns c = digits_end c.loop-v.invariant c.in-None.ensures.steps.0
