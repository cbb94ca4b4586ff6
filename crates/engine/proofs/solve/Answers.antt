-- `engine::solve` meets its contract. Assumes nothing.
use Rattle.std.proofs.lemmas.Result.{err_from_is_err_and}
use Rattle.engine.proofs.SolveLaws.{solve_refused, solve_done}
use Rattle.engine.proofs.solve.Goals as goal

pub returns-in_err-question : goal.returns-in_err-question
returns-in_err-question c =
    let p = err_from_is_err_and c.from_residual.result c.from_residual.ensures.1 in
    rw (p.1, p.2) (solve_refused _ _ _ _ _ c.in_err-question.ensures)

pub find_grids-requires : goal.find_grids-requires
find_grids-requires c _ = c.in_ok-question.ensures.1.1

pub returns : goal.returns
returns c =
    let e = c.in_ok-question.ensures in
    solve_done _ _ _ _ _ e.0 (rw (e.1.0.0, e.1.0.1) at c.find_grids.ensures) c.verdict_of.ensures
