-- What holds in the loop of `apply_marks::apply_marks`.
use Rattle.apply_marks.proofs.AppliedLaws.{Halfway}
use Rattle.apply_marks.proofs.apply_marks.Given as goal

abbrev pub invariant-loop-i : goal.invariant-loop-i
invariant-loop-i l = Halfway l.n l.initial.st l.st l.bytes l.i
