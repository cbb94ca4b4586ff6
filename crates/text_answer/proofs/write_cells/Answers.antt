-- `text_answer::write_cells` meets its contract. Assumes nothing.
use Rattle.std.proofs.Common.{rules}
use Rattle.text_answer.proofs.RowLaws.{cell_shown}
use Rattle.text_answer.proofs.write_cells.Goals as goal

pub cell_byte-requires : goal.cell_byte-requires
cell_byte-requires g c = search (rules, cell_shown)
