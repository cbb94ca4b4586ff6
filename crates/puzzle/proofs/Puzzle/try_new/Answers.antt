-- `puzzle::Puzzle::try_new` meets its contract: the checks' laws, in their order. Assumes nothing.
use mathlib.Core.Path.{ap, ◌∙◌}
use borrow.Author.Rules.{rules}
use Rattle.std.proofs.lemmas.Result.{err_from_is_err_and}
use Rattle.rules.specs.Check.{max_target}
use Rattle.rules.specs.Grid.{puzzle}
use Rattle.rules.proofs.CheckLaws.{said_yes, said_no}
use Rattle.puzzle.proofs.PuzzleLaws.{size_passed, puzzle_size, puzzle_2, puzzle_3_rows, puzzle_3_columns, puzzle_0}
use Rattle.puzzle.proofs.Puzzle.try_new.Goals as goal

pub returns-in_err-size : goal.returns-in_err-size
returns-in_err-size c =
    let p = err_from_is_err_and c.from_residual.result c.from_residual.ensures.1 in
    let a = c.args in
    rw (p.1, p.2) (puzzle_size a.unit (puzzle a.n a.rows.now a.columns.now) _ c.in_err-size.ensures)

pub returns-then-not-targets_fit : goal.returns-then-not-targets_fit
returns-then-not-targets_fit c =
    let a = c.args in
    let w = size_passed a.unit a.n c.in_ok-size.ensures.0 in
    puzzle_2 a.unit (puzzle a.n a.rows.now a.columns.now) w.0 w.1 (search (rules, said_no))

pub returns-then-not-all_within : goal.returns-then-not-all_within
returns-then-not-all_within c =
    let a = c.args in
    let e = c.max_target-limit.ensures ∙ ap max_target c.in_ok-size.ensures.1 in
    let w = size_passed a.unit a.n c.in_ok-size.ensures.0 in
    puzzle_3_rows a.unit (puzzle a.n a.rows.now a.columns.now) w.0 w.1 (search (rules, said_yes)) _ e (search (rules, said_no))

pub returns-then-not-all_within-2 : goal.returns-then-not-all_within-2
returns-then-not-all_within-2 c =
    let a = c.args in
    let e = c.max_target-limit.ensures ∙ ap max_target c.in_ok-size.ensures.1 in
    let w = size_passed a.unit a.n c.in_ok-size.ensures.0 in
    puzzle_3_columns a.unit (puzzle a.n a.rows.now a.columns.now) w.0 w.1 (search (rules, said_yes)) _ e
    (search (rules, said_yes)) (search (rules, said_no))

pub returns : goal.returns
returns c =
    let a = c.args in
    let e = c.max_target-limit.ensures ∙ ap max_target c.in_ok-size.ensures.1 in
    let w = size_passed a.unit a.n c.in_ok-size.ensures.0 in (
      puzzle_0 a.unit (puzzle a.n a.rows.now a.columns.now) w.0 w.1 (search (rules, said_yes)) _ e
          (search (rules, said_yes)) (search (rules, said_yes)),
      search rules,
    )
