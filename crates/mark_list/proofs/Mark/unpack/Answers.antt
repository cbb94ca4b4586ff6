-- `mark_list::Mark::unpack` meets its contract. Assumes nothing.
use Rattle.rules.specs.Mark.{rejects}
use Rattle.mark_list.proofs.Mark.unpack.Goals as goal

pub returns : goal.returns
unfolding rejects
returns c = rw (c.from-row.ensures, c.from-column.ensures, c.from-value.ensures)
