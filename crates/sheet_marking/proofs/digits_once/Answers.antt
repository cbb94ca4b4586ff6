-- `sheet_marking::digits_once` meets its contract. Assumes nothing.
use native.Mathlib.Omega.{arith}
use borrow.Author.Rules.{rules}
use Rattle.sheet_marking.proofs.CountLaws.{shift_some, digits_told}
use Rattle.sheet_marking.proofs.digits_once.Goals as goal

pub nonzero_rem-result : goal.nonzero_rem-result
nonzero_rem-result c = omega (arith, shift_some c.args.size.n c.args.size.fits)

pub nonzero_rem-result-2 : goal.nonzero_rem-result-2
nonzero_rem-result-2 c = omega (arith, shift_some c.args.size.n c.args.size.fits)

pub returns : goal.returns
returns c = search (rules, digits_told)
