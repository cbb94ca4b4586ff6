-- `text_line::answer_puzzle` meets its contract. Assumes nothing.
use Rattle.std.proofs.Common.{rules, refl}
use Rattle.std.proofs.lemmas.Result.{err_from_is_err_and}
use Rattle.text_line.proofs.LineLaws.{form_ask, line_some, line_11, line_refused, line_text}
use Rattle.text_line.proofs.answer_puzzle.Goals as goal

pub returns-in_default : goal.returns-in_default
returns-in_default g c = (line_11 _ c.in_default.ensures, refl)

pub check_numbers-requires : goal.check_numbers-requires
check_numbers-requires g c = line_some c.args.line.now _ c.in-Some.ensures.1

pub returns-in_err-size : goal.returns-in_err-size
returns-in_err-size g c =
    let p = err_from_is_err_and c.from_residual.result c.from_residual.ensures.1 in
    rw (p.1, p.2) (line_refused _ _ c.in-Some.ensures _ c.in_err-size.ensures, refl)

pub answer_targets-requires : goal.answer_targets-requires
answer_targets-requires g c = (search rules, form_ask _ c.in_ok-size.ensures.0 c.in_ok-size.ensures.1 c.requires)

pub returns : goal.returns
returns g c = line_text _ _ c.in-Some.ensures c.in_ok-size.ensures c.answer_targets.ensures
