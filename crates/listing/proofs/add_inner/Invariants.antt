-- What holds in the loop of `listing::add_inner`.
use Rattle.listing.proofs.RaiseLaws.{Inner}
use Rattle.listing.proofs.add_inner.Given as goal

abbrev pub invariant-loop-p : goal.invariant-loop-p
invariant-loop-p l = Inner l.a.lane.number l.a.word l.p-iterator.rest l.initial.st l.st
