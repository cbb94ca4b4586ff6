-- `sheet_marking::mark_sheet` meets its contract. Assumes nothing.
use mathlib.Core.Path.{ap, ◌∙◌}
use Rattle.std.proofs.lemmas.Result.{err_from_is_err_and}
use Rattle.rules.specs.Grid.{Puzzle, keeps}
use Rattle.sheet_marking.proofs.MarkingLaws.{fit, marked_refused, marked}
use Rattle.sheet_marking.proofs.mark_sheet.Goals as goal

pub returns-in_err-puzzle : goal.returns-in_err-puzzle
returns-in_err-puzzle c =
    let p = err_from_is_err_and c.from_residual.result c.from_residual.ensures.1 in
    rw (p.1, p.2) (marked_refused _ _ _ _ c.in_err-puzzle.ensures)

pub sheet_right-requires : goal.sheet_right-requires
sheet_right-requires c = let e = c.in_ok-puzzle.ensures in rw (ap (λ (p : Puzzle). p.size) e.1) (fit _ _ _ e.0)

pub returns : goal.returns
returns c = let e = c.in_ok-puzzle.ensures in marked _ _ _ e.0 _ (c.sheet_right.ensures ∙ ap (λ p. keeps p c.args.cells.now) e.1)
