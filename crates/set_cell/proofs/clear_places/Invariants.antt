-- What holds in the loop of `set_cell::clear_places`.
use lib.Bits.{bit_and}
use Rattle.queue_state.specs.Slab.{line_mask}
use Rattle.set_cell.specs.Places.{Running}
use Rattle.set_cell.proofs.clear_places.Given as goal

abbrev pub invariant-loop-p : goal.invariant-loop-p
invariant-loop-p l = Running l.initial.st l.st l.lane (bit_and (line_mask l.initial.st l.lane.number l.v) l.places) l.p-iterator.rest l.v
