-- What holds in the loops of `fresh::fill_cells`, and why they end.
use Rattle.fresh.specs.Fresh.{RowsFull}
use Rattle.fresh.proofs.fill_cells.Given as goal

abbrev pub invariant-loop-r : goal.invariant-loop-r
invariant-loop-r l = RowsFull l.st l.n l.r l.full
