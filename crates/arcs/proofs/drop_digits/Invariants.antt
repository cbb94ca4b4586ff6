-- What holds in the loop of `arcs::drop_digits`.
use Rattle.arcs.proofs.DigitLaws.{Dropping}
use Rattle.arcs.proofs.drop_digits.Given as goal

abbrev pub invariant-loop-v : goal.invariant-loop-v
invariant-loop-v l = Dropping l.lane l.p l.set l.v-iterator.rest l.initial.st l.st
