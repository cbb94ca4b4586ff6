-- `singles::update_blacks` meets its contract. Assumes nothing.
use mathlib.Core.Path.{sym}
use Rattle.singles.proofs.BlackLaws.{blacks_passed, blacks_lower, blacks_more, blacks_sized, blacks_cell, blacks_struck}
use Rattle.singles.proofs.update_blacks.Goals as goal
use Rattle.singles.proofs.update_blacks.Goals.{else-has_black-via-then-has_black+else-lower-eq0, else-has_black-via-else-has_black}

pub lower-requires : goal.lower-requires
lower-requires c = rw c.cell-cell.ensures (blacks_lower c.requires.0 (sym c.if-has_black.ensures))

pub clear_mask-requires : goal.clear_mask-requires
clear_mask-requires c =
    rw c.cell-cell.ensures (blacks_sized c.requires.0 (sym c.if-has_black.ensures) (rw c.cell-cell.ensures at c.lower.ensures), blacks_cell c.requires.0)

pub returns-then-lower-eq0 : goal.returns-then-lower-eq0
returns-then-lower-eq0 c =
    blacks_struck c.requires.0 (sym c.if-has_black.ensures) (rw c.cell-cell.ensures at c.lower.ensures) c.if-lower-eq0.true (rw c.cell-cell.ensures at c.clear_mask.ensures)

pub returns-else-has_black : goal.returns-else-has_black
returns-else-has_black c =
    elim c.else-has_black.branch [
      | else-has_black-via-then-has_black+else-lower-eq0 w ↦ rw w.st-is (blacks_more c.requires.0 (sym w.if-has_black.ensures) (rw c.cell-cell.ensures at w.lower.ensures) w.if-lower-eq0.false)
      | else-has_black-via-else-has_black w ↦ rw w.st-is (blacks_passed c.requires.0 (sym w.if-has_black.ensures))
    ]
