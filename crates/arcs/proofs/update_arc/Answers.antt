-- `arcs::update_arc` meets its contract. Assumes nothing.
use Rattle.arcs.proofs.ArcLaws.{row_ask, arc_column, arc_done}
use Rattle.arcs.proofs.update_arc.Goals as goal

pub update_supported-requires : goal.update_supported-requires
update_supported-requires c = row_ask c.requires c.row.ensures

pub update_supported-requires-2 : goal.update_supported-requires-2
update_supported-requires-2 c = arc_column c.row.result.lane c.column.result.lane c.requires c.row.ensures c.update_supported.ensures c.column.ensures

pub returns : goal.returns
returns c =
    arc_done c.row.result.lane c.column.result.lane c.requires c.row.ensures c.update_supported.ensures c.column.ensures c.update_supported-2.ensures
