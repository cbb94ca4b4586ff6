-- `candidates::candidates` meets its contract. Assumes nothing.
use Rattle.std.proofs.lemmas.Result.{err_from_is_err_and}
use Rattle.candidates.proofs.RemainingLaws.{table_refused, table_given, table_none}
use Rattle.candidates.proofs.candidates.Goals as goal

pub returns-in_err-question : goal.returns-in_err-question
returns-in_err-question c =
    let p = err_from_is_err_and c.from_residual.result c.from_residual.ensures.1 in
    rw (p.1, p.2) (table_refused _ c.in_err-question.ensures)

pub write_table-requires : goal.write_table-requires
write_table-requires c = c.in_ok-question.ensures.1.1

pub returns-in-Ok : goal.returns-in-Ok
returns-in-Ok c =
    let e = c.in_ok-question.ensures in
    table_given e.0 (rw (e.1.0.0, e.1.0.1) at c.in-Ok.ensures)

pub returns-in-Err : goal.returns-in-Err
returns-in-Err c =
    let e = c.in_ok-question.ensures in
    table_none e.0 (rw (e.1.0.0, e.1.0.1) at c.in-Err.ensures)
