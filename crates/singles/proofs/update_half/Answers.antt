-- `singles::update_half` meets its contract. Assumes nothing.
use borrow.Author.Rules.{rules}
use mathlib.Core.Path.{sym}
use Rattle.singles.proofs.HandlingLaws.{row_back, column_back}
use Rattle.singles.proofs.HalfLaws.{half_passed, half_lower, half_more, half_empty, half_set_ask, half_settled}
use Rattle.singles.proofs.update_half.Goals as goal
use Rattle.singles.proofs.update_half.Goals.{else-has-via-then-has+else-lower-eq1, else-has-via-else-has}

pub lower-requires : goal.lower-requires
lower-requires c = rw c.cell-cell.ensures (half_lower c.requires.0 (sym c.if-has.ensures))

pub set_cell-requires : goal.set_cell-requires
set_cell-requires c =
    let x = c.args.x in
    rw c.cell-cell.ensures
    (rw (row_back x.row x.column c.requires.2, column_back x.row x.column c.requires.2) at
    (half_set_ask c.requires.0 (sym c.if-has.ensures) (rw c.cell-cell.ensures at c.lower.ensures) (search rules) (rw c.cell-cell.ensures at c.if-left-eq1.true)))

pub returns-then-left-eq1 : goal.returns-then-left-eq1
returns-then-left-eq1 c =
    let x = c.args.x in
    half_settled c.requires.0 (sym c.if-has.ensures) (rw c.cell-cell.ensures at c.lower.ensures) (search rules) (rw c.cell-cell.ensures at c.if-left-eq1.true)
    (rw (row_back x.row x.column c.requires.2, column_back x.row x.column c.requires.2) (rw c.cell-cell.ensures at c.set_cell.ensures))

pub returns-else-left-eq1 : goal.returns-else-left-eq1
returns-else-left-eq1 c =
    half_empty c.requires.0 (sym c.if-has.ensures) (rw c.cell-cell.ensures at c.lower.ensures) (search rules) (rw c.cell-cell.ensures at c.if-left-eq1.false)

pub returns-else-has : goal.returns-else-has
returns-else-has c =
    elim c.else-has.branch [
      | else-has-via-then-has+else-lower-eq1 w ↦ rw w.st-is (half_more c.requires.0 (sym w.if-has.ensures) (rw c.cell-cell.ensures at w.lower.ensures) w.if-lower-eq1.false)
      | else-has-via-else-has w ↦ rw w.st-is (half_passed c.requires.0 (sym w.if-has.ensures))
    ]
