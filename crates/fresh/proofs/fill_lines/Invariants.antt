-- What holds in the loop of `fresh::fill_lines`.
use Rattle.fresh.specs.Fresh.{MasksFull}
use Rattle.fresh.proofs.fill_lines.Given as goal

abbrev pub invariant-loop-i : goal.invariant-loop-i
invariant-loop-i l = MasksFull l.initial.st l.st l.size.n l.i
