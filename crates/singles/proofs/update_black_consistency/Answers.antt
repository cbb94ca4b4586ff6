-- `singles::update_black_consistency` meets its contract. Assumes nothing.
use native.Mathlib.Omega.{arith}
use Rattle.singles.proofs.ConsistencyLaws.{row_blacks_ask, column_blacks_ask, consistency_done}
use Rattle.singles.proofs.update_black_consistency.Goals as goal

pub update_blacks-requires : goal.update_blacks-requires
update_blacks-requires c = let e = c.row-row.ensures in rw (e.3, e.4) (row_blacks_ask c.requires, omega arith, omega arith)

pub update_blacks-requires-2 : goal.update_blacks-requires-2
update_blacks-requires-2 c =
    let e = c.row-row.ensures in
    let f = c.column-column.ensures in
    rw (f.3, f.4)
    (column_blacks_ask c.requires (rw (e.3, e.4) at c.update_blacks.ensures), omega arith, omega arith)

pub returns : goal.returns
returns c =
    let e = c.row-row.ensures in
    let f = c.column-column.ensures in
    consistency_done c.requires (rw (e.3, e.4) at c.update_blacks.ensures)
    (rw (f.3, f.4) at c.update_blacks-2.ensures)
