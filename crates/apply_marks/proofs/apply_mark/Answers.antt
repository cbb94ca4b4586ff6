-- `apply_marks::apply_mark` meets its contract. Assumes nothing.
use borrow.Author.Rules.{rules}
use Rattle.apply_marks.proofs.AppliedLaws.{mark_row_lem, mark_column_lem, mark_clears, mark_sets, mark_rejected, mark_taken}
use Rattle.apply_marks.proofs.apply_mark.Goals as goal

pub cell-requires : goal.cell-requires
cell-requires c = (mark_row_lem c.unpack-m.ensures c.requires, mark_column_lem c.unpack-m.ensures c.requires)

pub clear_value-requires : goal.clear_value-requires
clear_value-requires c = rw c.cell.ensures (mark_clears c.unpack-m.ensures c.requires)

pub set_cell-requires : goal.set_cell-requires
set_cell-requires c = search (rules, mark_sets)

pub returns-then-m : goal.returns-then-m
returns-then-m c = mark_rejected c.unpack-m.ensures c.requires c.if-m.true (rw c.cell.ensures at c.clear_value.ensures)

pub returns-else-m : goal.returns-else-m
returns-else-m c = search (rules, mark_taken)
