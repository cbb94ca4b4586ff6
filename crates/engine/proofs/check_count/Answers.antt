-- `engine::check_count` meets its contract. Assumes nothing.
use mathlib.Core.Path.{refl, ap, ◌∙◌}
use Rattle.std.proofs.lemmas.Result.{err_from_is_err_and}
use Rattle.rules.specs.Grid.{Puzzle}
use Rattle.rules.specs.Mark.{marks_of}
use Rattle.rules.specs.Check.{checked}
use Rattle.rules.specs.CheckParts.{list_checks}
use Rattle.engine.proofs.CountLaws.{refused_puzzle, refused_list, list_passed}
use Rattle.engine.proofs.check_count.Goals as goal

pub returns-in_err-puzzle : goal.returns-in_err-puzzle
returns-in_err-puzzle c =
    let p = err_from_is_err_and c.from_residual.result c.from_residual.ensures.1 in
    rw (p.1, p.2) (refused_puzzle _ _ _ _ c.in_err-puzzle.ensures)

pub returns-in_err-check_list : goal.returns-in_err-check_list
returns-in_err-check_list c =
    let e = c.in_ok-puzzle.ensures in
    let n = ap (λ (p : Puzzle). checked (list_checks c.args.unit p.size (marks_of c.args.marks.now))) e.1 in
    let p = err_from_is_err_and c.from_residual-in_err-check_list.result c.from_residual-in_err-check_list.ensures.1 in
    rw (p.1, p.2) (c.in_err-check_list.ensures ∙ n ∙ refused_list _ _ _ e.0)

pub invariant_of-result : goal.invariant_of-result
invariant_of-result c = record { marks_pass = list_passed c.args.unit _ _ c.in_ok-check_list.ensures }

pub returns : goal.returns
returns c =
    let e = c.in_ok-puzzle.ensures in
    let n = ap (λ (p : Puzzle). checked (list_checks c.args.unit p.size (marks_of c.args.marks.now))) e.1 in
    (c.in_ok-check_list.ensures ∙ n ∙ refused_list _ _ _ e.0, (e.1, refl))
