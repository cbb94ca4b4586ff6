-- `set_cell::clear_places` meets its contract. Assumes nothing.
use Rattle.lane.proofs.LaneLaws.{lane_in}
use Rattle.queue_state.proofs.StruckLaws.{grown_sized}
use Rattle.set_cell.proofs.PlaceLaws.{running_start, running_place, running_next, running_end}
use Rattle.set_cell.proofs.clear_places.Goals as goal

pub loop-p-init : goal.loop-p-init
loop-p-init c = rw c.into_iter-p-iterator.ensures.into_iter_gives (running_start _ _ _ _)

pub returns : goal.returns
returns c = running_end c.requires c.loop-p.invariant c.in-None.ensures.steps.0

pub cell-requires : goal.cell-requires
cell-requires c = lane_in c.args.lane c.in-Some.p (running_place c.requires _ c.loop-p.invariant c.in-Some.ensures.steps.here)

pub clear_value-requires : goal.clear_value-requires
clear_value-requires c =
    let small = lane_in c.args.lane c.in-Some.p (running_place c.requires _ c.loop-p.invariant c.in-Some.ensures.steps.here) in
    (grown_sized c.loop-p.invariant.struck.grown c.requires.sized, rw c.cell.ensures small, c.requires.value)

pub loop-p-preserved : goal.loop-p-preserved
loop-p-preserved c =
    running_next c.loop-p.invariant (running_place c.requires _ c.loop-p.invariant c.in-Some.ensures.steps.here) c.in-Some.ensures.steps
    (rw c.cell.ensures at c.clear_value.ensures)
