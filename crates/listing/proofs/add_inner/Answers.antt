-- `listing::add_inner` meets its contract. Assumes nothing.
use Rattle.listing.proofs.RaiseLaws.{inner_can, inner_next, inner_end}
use Rattle.listing.proofs.add_inner.Goals as goal

pub add_digits-requires : goal.add_digits-requires
add_digits-requires c = inner_can c.loop-p.invariant c.in-Some.ensures.steps

pub loop-p-preserved : goal.loop-p-preserved
loop-p-preserved c = inner_next c.loop-p.invariant c.in-Some.ensures.steps _ c.set_of-set.ensures c.add_digits.ensures

pub returns : goal.returns
returns c = inner_end c.loop-p.invariant c.in-None.ensures.steps.0
