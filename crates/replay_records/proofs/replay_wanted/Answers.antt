-- `replay_records::replay_wanted` meets its contract: what is counted from here on completes the tally. Assumes nothing.
use Rattle.std.proofs.Common.{arith, refl}
use Rattle.replay_records.proofs.ReplayLaws.{tallied_begin, tallied_end, step_fits, step_tallied}
use Rattle.replay_records.proofs.replay_wanted.Goals as goal

pub loop-outcome-init : goal.loop-outcome-init
loop-outcome-init g c = rw c.into_iter-outcome-iterator.ensures.into_iter_gives (refl, tallied_begin _ _ _ c.default-tally.ensures)

pub add-requires : goal.add-requires
add-requires g c =
    let f = step_fits c.loop-outcome.invariant.0 c.in-Some.ensures.steps c.loop-outcome.invariant.1 in (omega (arith, f.0), omega (arith, f.1))

pub loop-outcome-preserved-then-wanted : goal.loop-outcome-preserved-then-wanted
loop-outcome-preserved-then-wanted g c =
    step_tallied c.loop-outcome.invariant.0 c.in-Some.ensures.steps _ c.loop-outcome.tally c.add.new.self c.loop-outcome.invariant.1
    c.wanted.result c.wanted.ensures (rw c.if-wanted.true c.add.ensures.0) (rw c.if-wanted.true c.add.ensures.1)

pub loop-outcome-preserved : goal.loop-outcome-preserved
loop-outcome-preserved g c =
    step_tallied c.loop-outcome.invariant.0 c.in-Some.ensures.steps _ c.loop-outcome.tally c.loop-outcome.tally c.loop-outcome.invariant.1
    c.wanted.result c.wanted.ensures (rw c.if-wanted.false (omega arith)) (rw c.if-wanted.false (omega arith))

pub returns : goal.returns
returns g c = tallied_end _ _ _ _ (rw c.loop-outcome.invariant.0 at c.in-None.ensures.steps.0) c.loop-outcome.invariant.1
