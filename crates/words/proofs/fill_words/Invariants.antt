-- What holds in the loops of `words::fill_words`, and why they end.
use Rattle.words.proofs.FillLaws.{FilledTo}
use Rattle.words.proofs.fill_words.Given as goal

abbrev pub invariant-loop-s : goal.invariant-loop-s
invariant-loop-s l = FilledTo l.size.n l.s l.words
