-- What holds in the loop of `listing::add_digits`.
use Rattle.listing.proofs.RaiseLaws.{Digits}
use Rattle.listing.proofs.add_digits.Given as goal

abbrev pub invariant-loop-v : goal.invariant-loop-v
invariant-loop-v l = Digits l.lane.number l.p l.set l.v-iterator.rest l.initial.st l.st
