-- `value::BitsIterator::next` meets its contract. Assumes nothing.
use native.Mathlib.Omega.{arith}
use Rattle.value.proofs.LowestLaws.{lowest_enough, lowest_taken}
use Rattle.value.proofs.BitsIterator.next.Goals as goal

pub overflow_sub-self : goal.overflow_sub-self
overflow_sub-self c = lowest_enough _ (omega arith) c.if-self-eq0.false

pub returns-clause-steps : goal.returns-clause-steps
returns-clause-steps c = lowest_taken _ (omega arith) c.if-self-eq0.false
