-- `set_cell::set_cell` meets its contract. Assumes nothing.
use native.Mathlib.Omega.{arith}
use Rattle.queue_state.proofs.StruckLaws.{struck_both}
use Rattle.set_cell.proofs.SetLaws.{ask_grown, ask_narrow, ask_row, ask_column, ask_value, some_struck, none_struck, set_struck}
use Rattle.set_cell.proofs.set_cell.Goals as goal

pub clear_others-requires : goal.clear_others-requires
clear_others-requires c = ask_row c.requires (ask_narrow c.requires)

pub clear_others-requires-2 : goal.clear_others-requires-2
clear_others-requires-2 c =
    ask_column (ask_grown c.clear_others.ensures.grown c.requires) (ask_narrow c.requires)

pub rest_of_half-requires : goal.rest_of_half-requires
rest_of_half-requires c = ask_value c.requires

pub returns-then-x-ge-BLACK1_ROW : goal.returns-then-x-ge-BLACK1_ROW
returns-then-x-ge-BLACK1_ROW c =
    set_struck _ _ c.requires c.row-row.ensures c.column-column.ensures c.rest_of_half.ensures
    c.clear_others.ensures c.clear_others-2.ensures (rw c.cell.ensures at c.clear_mask.ensures)
    (some_struck c.if-x-ge-BLACK1_ROW.true (struck_both c.clear_around.ensures c.clear_around-then-x-ge-BLACK1_ROW.ensures))

pub returns-else-x-ge-BLACK1_ROW : goal.returns-else-x-ge-BLACK1_ROW
returns-else-x-ge-BLACK1_ROW c =
    set_struck _ _ c.requires c.row-row.ensures c.column-column.ensures c.rest_of_half.ensures
    c.clear_others.ensures c.clear_others-2.ensures (rw c.cell.ensures at c.clear_mask.ensures)
    (none_struck _ _ _ (λ h. omega (arith, h)))
