-- `set_cell::clear_around` meets its contract. Assumes nothing.
use Rattle.set_cell.proofs.PlaceLaws.{behind_enough, around_struck}
use Rattle.set_cell.proofs.clear_around.Goals as goal

pub returns : goal.returns
returns c = around_struck c.requires.place c.clear_places.ensures c.clear_places-2.ensures

pub overflow_sub-i-2 : goal.overflow_sub-i-2
overflow_sub-i-2 c = behind_enough c.requires.place
