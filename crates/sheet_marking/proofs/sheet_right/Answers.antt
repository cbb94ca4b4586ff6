-- `sheet_marking::sheet_right` meets its contract. Assumes nothing.
use mathlib.Core.Path.{sym, ◌∙◌}
use Rattle.sheet_marking.proofs.MarkingLaws.{row_fails, by_columns}
use Rattle.sheet_marking.proofs.sheet_right.Goals as goal

pub returns-then-lines_keep : goal.returns-then-lines_keep
returns-then-lines_keep c =
    by_columns _ _ _ _ c.rows-across.result c.columns-down.result c.rows-across.ensures c.columns-down.ensures (sym c.if-lines_keep.true ∙ c.lines_keep.ensures) _
    c.lines_keep-then-lines_keep.ensures

pub returns-else-lines_keep : goal.returns-else-lines_keep
returns-else-lines_keep c =
    c.if-lines_keep.false
    ∙ row_fails _ _ _ _ c.rows-across.result c.columns-down.result c.rows-across.ensures c.columns-down.ensures (sym c.if-lines_keep.false ∙ c.lines_keep.ensures)
