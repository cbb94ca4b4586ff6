-- `engine::count` meets its contract. Assumes nothing.
use Rattle.std.proofs.lemmas.Result.{err_from_is_err_and}
use Rattle.engine.proofs.CountLaws.{count_refused, count_done, given_capped}
use Rattle.engine.proofs.count.Goals as goal

pub returns-in_err-question : goal.returns-in_err-question
returns-in_err-question c =
    let p = err_from_is_err_and c.from_residual.result c.from_residual.ensures.1 in
    rw (p.1, p.2) (count_refused _ _ _ _ _ c.in_err-question.ensures)

pub returns : goal.returns
returns c =
    let e = c.in_ok-question.ensures in
    count_done _ _ _ _ _ e.0 (given_capped _ _ (rw (e.1.0, e.1.1) at c.find_grids.ensures))
