-- `target_sums::checked_size` meets its contract: the checks' laws, in their order. Assumes nothing.
use borrow.Author.Rules.{rules}
use Rattle.std.proofs.lemmas.Result.{err_from_is_err_and}
use Rattle.rules.proofs.CheckLaws.{said_yes, said_no}
use Rattle.puzzle.proofs.PuzzleLaws.{size_passed}
use Rattle.target_sums.proofs.SumsLaws.{front_size, front_7, front_2, front_0}
use Rattle.target_sums.proofs.checked_size.Goals as goal

pub returns-in_err-size : goal.returns-in_err-size
returns-in_err-size c =
    let p = err_from_is_err_and c.from_residual.result c.from_residual.ensures.1 in
    rw (p.1, p.2) (front_size c.args.unit _ _ _ _ _ c.in_err-size.ensures)

pub returns-then-cells-n : goal.returns-then-cells-n
returns-then-cells-n c =
    let w = size_passed c.args.unit c.args.n c.in_ok-size.ensures.0 in
    front_7 _ _ _ _ _ w.0 w.1 (search rules)

pub returns-then-not-targets_fit : goal.returns-then-not-targets_fit
returns-then-not-targets_fit c =
    let w = size_passed c.args.unit c.args.n c.in_ok-size.ensures.0 in
    front_2 _ _ _ _ _ w.0 w.1 (search rules) (search (rules, said_no))

pub returns : goal.returns
returns c =
    let w = size_passed c.args.unit c.args.n c.in_ok-size.ensures.0 in
    (front_0 _ _ _ _ _ w.0 w.1 (search rules) (search (rules, said_yes)), c.in_ok-size.ensures.1)
