-- `singles::update_places` meets its contract. Assumes nothing.
use native.Mathlib.Omega.{arith}
use mathlib.Core.Path.{sym}
use Rattle.lane.proofs.LaneLaws.{lane_in}
use Rattle.singles.proofs.PlaceLaws.{places_passed, places_lower, places_more, find_ask, places_empty, place_low, place_set_ask, place_settled}
use Rattle.singles.proofs.update_places.Goals as goal
use Rattle.singles.proofs.update_places.Goals.{else-has-via-then-has+else-lower-eq1, else-has-via-else-has}

pub overflow_mul-lane : goal.overflow_mul-lane
overflow_mul-lane c = let a = places_lower c.requires (sym c.if-has.ensures) in omega (arith, a.to)

pub lower-requires : goal.lower-requires
lower-requires c = places_lower c.requires (sym c.if-has.ensures)

pub find_place-requires : goal.find_place-requires
find_place-requires c = find_ask c.requires (sym c.if-has.ensures) c.lower.ensures

pub cell-requires : goal.cell-requires
cell-requires c = lane_in c.args.lane _ (place_low c.requires (sym c.if-has.ensures) c.lower.ensures c.in-Some.ensures)

pub set_cell-requires : goal.set_cell-requires
set_cell-requires c = rw (c.at.ensures, c.cell.ensures) (place_set_ask c.requires (sym c.if-has.ensures) c.lower.ensures c.in-Some.ensures)

pub returns-in-Some : goal.returns-in-Some
returns-in-Some c =
    place_settled c.requires (sym c.if-has.ensures) c.lower.ensures c.in-Some.ensures c.if-lower-eq1.true (rw (c.at.ensures, c.cell.ensures) at c.set_cell.ensures)

pub returns-in_default : goal.returns-in_default
returns-in_default c = places_empty c.requires (sym c.if-has.ensures) c.lower.ensures (c.in_default.ensures)

pub returns-else-has : goal.returns-else-has
returns-else-has c =
    elim c.else-has.branch [
      | else-has-via-then-has+else-lower-eq1 w ↦ rw w.st-is (places_more c.requires (sym w.if-has.ensures) w.lower.ensures w.if-lower-eq1.false)
      | else-has-via-else-has w ↦ rw w.st-is (places_passed c.requires (sym w.if-has.ensures))
    ]
