-- `queue_state::unmask` meets its contract. Assumes nothing.
use native.Mathlib.Omega.{arith}
use mathlib.Core.Path.{refl}
use Rattle.bits.proofs.BitLaws.{bit_le, shl_one}
use Rattle.queue_state.proofs.unmask.Goals as goal

pub overflow_sub-st : goal.overflow_sub-st
overflow_sub-st c = rw (shl_one c.args.p (omega (arith, c.requires.place))) (bit_le _ _ c.requires.has)

pub returns : goal.returns
returns c = rw (shl_one c.args.p (omega (arith, c.requires.place))) refl
