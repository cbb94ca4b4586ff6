-- `arcs::drop_support` meets its contract. Assumes nothing.
use Rattle.lane.proofs.LaneLaws.{lane_in}
use Rattle.arcs.proofs.SunkLaws.{drop_clear, drop_stays, drop_strikes}
use Rattle.arcs.proofs.drop_support.Goals as goal

pub strike_unsupported-requires : goal.strike_unsupported-requires
strike_unsupported-requires c = rw c.cell.ensures (drop_clear c.requires c.lower.ensures)

pub returns-then-lower-eq0 : goal.returns-then-lower-eq0
returns-then-lower-eq0 c =
    drop_strikes c.requires c.lower.ensures c.if-lower-eq0.true (rw c.cell.ensures at c.strike_unsupported.ensures)

pub returns-else-lower-eq0 : goal.returns-else-lower-eq0
returns-else-lower-eq0 c = drop_stays c.requires c.lower.ensures c.if-lower-eq0.false

pub cell-requires : goal.cell-requires
cell-requires c = lane_in c.args.lane c.args.p c.requires.place
