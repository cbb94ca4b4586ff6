-- `singles::update_singleton` meets its contract. Assumes nothing.
use native.Mathlib.Omega.{arith}
use Rattle.singles.proofs.SingletonLaws.{row_half_ask, column_half_ask, singleton_done}
use Rattle.singles.proofs.update_singleton.Goals as goal

pub update_half-requires : goal.update_half-requires
update_half-requires c = let e = c.row-row.ensures in rw (e.3, e.4) (row_half_ask c.requires, omega arith, omega arith)

pub update_half-requires-2 : goal.update_half-requires-2
update_half-requires-2 c =
    let e = c.row-row.ensures in
    let f = c.column-column.ensures in
    rw (f.3, f.4)
    (column_half_ask c.requires (rw (e.3, e.4) at c.update_half.ensures), omega arith, omega arith)

pub returns : goal.returns
returns c =
    let e = c.row-row.ensures in
    let f = c.column-column.ensures in
    singleton_done c.requires (rw (e.3, e.4) at c.update_half.ensures) (rw (f.3, f.4) at c.update_half-2.ensures)
