-- What holds in the loop of `text_answer::write_grid`: the first r rows are written.
use Rattle.text_answer.proofs.RowLaws.{RowsPut}
use Rattle.text_answer.proofs.write_grid.Given as goal

abbrev pub invariant-loop-r : goal.invariant-loop-r
invariant-loop-r g l = RowsPut l.grid.n l.grid.cells.now l.initial.out.items l.out.items l.r
