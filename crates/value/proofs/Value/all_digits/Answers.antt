-- `value::Value::all_digits` meets its contract. Assumes nothing.
use native.Mathlib.Omega.{arith}
use Rattle.value.proofs.MaskLaws.{digits_mask, digits_small, digits_two}
use Rattle.value.proofs.Value.all_digits.Goals as goal

pub overflow_sub-result-2 : goal.overflow_sub-result-2
overflow_sub-result-2 c = omega (arith, digits_two _ c.args.size.fits, digits_small _ c.args.size.fits)

pub returns : goal.returns
returns c = omega (arith, digits_mask _ c.args.size.fits, digits_small _ c.args.size.fits)
