-- `value::Value::full_cell` meets its contract. Assumes nothing.
use native.Mathlib.Omega.{arith}
use Rattle.value.proofs.MaskLaws.{digits_most, every_mask}
use Rattle.value.proofs.Value.full_cell.Goals as goal

pub overflow_add-result : goal.overflow_add-result
overflow_add-result c = omega (arith, digits_most _ c.args.size.fits)

pub overflow_add-result-2 : goal.overflow_add-result-2
overflow_add-result-2 c = omega (arith, digits_most _ c.args.size.fits)

pub returns : goal.returns
returns c = rw c.all_digits.ensures (every_mask _ c.args.size.fits)
