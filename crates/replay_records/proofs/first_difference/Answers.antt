-- `replay_records::first_difference` meets its contract: the first difference from a place on is the first of all. Assumes nothing.
use Rattle.std.proofs.Common.{refl}
use borrow.Author.Tests.{not-true, not-false}
use Rattle.replay_records.proofs.ReplayLaws.{leads_begin, leads_end, step_here, step_later}
use Rattle.replay_records.proofs.first_difference.Goals as goal

pub loop-at-init : goal.loop-at-init
loop-at-init c = rw c.into_iter-at-iterator.ensures.into_iter_gives (refl, leads_begin _)

pub returns-then-not-outcome : goal.returns-then-not-outcome
returns-then-not-outcome c =
    step_here c.loop-at.invariant.0 c.in-Some.ensures.steps c.loop-at.invariant.1 (not-true _ c.if-not-outcome.true)

pub loop-at-preserved : goal.loop-at-preserved
loop-at-preserved c =
    step_later c.loop-at.invariant.0 c.in-Some.ensures.steps c.loop-at.invariant.1 (not-false _ c.if-not-outcome.false)

pub returns : goal.returns
returns c = leads_end _ _ (rw c.loop-at.invariant.0 at c.in-None.ensures.steps.0) c.loop-at.invariant.1
