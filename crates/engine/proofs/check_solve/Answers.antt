-- `engine::check_solve` meets its contract. Assumes nothing.
use Prim.Native.Nat.{◌*◌}
use mathlib.Core.Path.{sym, ap, ◌∙◌}
use Rattle.std.proofs.lemmas.Result.{err_from_is_err_and}
use Rattle.rules.specs.Grid.{Puzzle}
use Rattle.engine.proofs.SolveLaws.{refused_count, refused_7, refused_0}
use Rattle.engine.proofs.check_solve.Goals as goal

pub returns-in_err-question : goal.returns-in_err-question
returns-in_err-question c =
    let p = err_from_is_err_and c.from_residual.result c.from_residual.ensures.1 in
    rw (p.1, p.2) (refused_count _ _ _ _ _ c.in_err-question.ensures)

pub returns-then-len-size : goal.returns-then-len-size
returns-then-len-size c =
    let e = c.in_ok-question.ensures in
    (refused_0 _ _ _ _ e.0 (c.if-len-size.true ∙ ap (λ (p : Puzzle). p.size * p.size) e.1.0), (e.1, c.if-len-size.true))

pub returns-else-len-size : goal.returns-else-len-size
returns-else-len-size c =
    let e = c.in_ok-question.ensures in
    refused_7 _ _ _ _ e.0 (λ h. c.if-len-size.false (h ∙ sym (ap (λ (p : Puzzle). p.size * p.size) e.1.0)))
