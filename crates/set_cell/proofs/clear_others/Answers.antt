-- `set_cell::clear_others` meets its contract. Assumes nothing.
use mathlib.Core.Path.{sym}
use Rattle.set_cell.proofs.PlaceLaws.{others_struck}
use Rattle.set_cell.proofs.clear_others.Goals as goal

pub returns-then-has : goal.returns-then-has
returns-then-has c = others_struck c.requires.place (sym c.if-has.ensures) c.clear_places.ensures
