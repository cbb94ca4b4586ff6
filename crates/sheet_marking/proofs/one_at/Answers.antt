-- `sheet_marking::one_at` meets its contract. Assumes nothing.
use native.Mathlib.Omega.{arith}
use borrow.Author.Rules.{rules}
use Rattle.sheet_marking.proofs.CountLaws.{place_most, place_shift}
use Rattle.sheet_marking.proofs.one_at.Goals as goal

pub overflow_mul-result : goal.overflow_mul-result
overflow_mul-result c = omega (arith, place_most c.args.c)

pub overflow_shl-result : goal.overflow_shl-result
overflow_shl-result c = omega (arith, place_most c.args.c)

pub returns : goal.returns
returns c = place_shift _ _ (search rules)
