-- `queue_state::clear_value` meets its contract. Assumes nothing.
use Rattle.bits.specs.Bit.{bit}
use Rattle.queue_state.proofs.SlabLaws.{strike_absent}
use Rattle.queue_state.proofs.clear_value.Goals as goal

pub strike-requires : goal.strike-requires
strike-requires c =
    record { sized = c.requires.0; place = c.requires.1; value = c.requires.2; has = unfold bit in c.if-st-cell-eq1.true }

pub returns-else-st-cell-eq1 : goal.returns-else-st-cell-eq1
returns-else-st-cell-eq1 c = strike_absent _ _ _ c.requires.1 c.if-st-cell-eq1.false
