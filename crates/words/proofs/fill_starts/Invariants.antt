-- What holds in the loops of `words::fill_starts`, and why they end.
use Rattle.words.specs.Fill.{Filling}
use Rattle.words.proofs.fill_starts.Given as goal

abbrev pub invariant-loop-start : goal.invariant-loop-start
invariant-loop-start l = Filling l.size.n l.s l.start l.initial.words l.words
