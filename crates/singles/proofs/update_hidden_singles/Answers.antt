-- `singles::update_hidden_singles` meets its contract. Assumes nothing.
use Rattle.singles.proofs.HiddenLaws.{row_places_ask, column_places_ask, hidden_done}
use Rattle.singles.proofs.update_hidden_singles.Goals as goal

pub update_places-requires : goal.update_places-requires
update_places-requires c = let e = c.row.ensures in rw (e.0, e.1, e.2, e.3, e.4) (row_places_ask c.requires)

pub update_places-requires-2 : goal.update_places-requires-2
update_places-requires-2 c =
    let e = c.row.ensures in
    let f = c.column.ensures in
    rw (f.0, f.1, f.2, f.3, f.4) (column_places_ask c.requires (rw (e.0, e.1, e.2, e.3, e.4) at c.update_places.ensures))

pub returns : goal.returns
returns c =
    let e = c.row.ensures in
    let f = c.column.ensures in
    hidden_done c.requires (rw (e.0, e.1, e.2, e.3, e.4) at c.update_places.ensures) (rw (f.0, f.1, f.2, f.3, f.4) at c.update_places-2.ensures)
