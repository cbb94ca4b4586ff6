-- `queue_state::strike` meets its contract. Assumes nothing.
use native.Mathlib.Omega.{arith}
use lib.ListN.{length-set}
use Rattle.queue_state.proofs.SlabLaws.{strike_enough, strike_room, first_ask, second_ask, strike_done}
use Rattle.queue_state.proofs.strike.Goals as goal

pub overflow_sub-st : goal.overflow_sub-st
overflow_sub-st c = strike_enough _ _ _ _ c.requires c.from-t.ensures

pub bounds-st-t : goal.bounds-st-t
bounds-st-t c =
    simp length-set (omega (arith, strike_room _ _ _ _ c.requires c.from-t.ensures, c.requires.sized.size))

pub returns : goal.returns
returns c = strike_done _ _ _ _ c.requires c.from-t.ensures c.unmask.ensures c.unmask-2.ensures

pub unmask-requires : goal.unmask-requires
unmask-requires c = first_ask _ _ _ _ c.requires c.from-t.ensures

pub unmask-requires-2 : goal.unmask-requires-2
unmask-requires-2 c = second_ask _ _ _ _ c.requires c.from-t.ensures c.unmask.ensures
