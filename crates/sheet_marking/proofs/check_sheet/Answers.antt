-- `sheet_marking::check_sheet` meets its contract: the checks' laws, in their order. Assumes nothing.
use mathlib.Core.Path.{ap}
use native.Mathlib.Omega.{arith}
use borrow.Author.Rules.{rules}
use Rattle.std.proofs.lemmas.Result.{err_from_is_err_and}
use Rattle.rules.specs.Grid.{Puzzle}
use Rattle.rules.specs.Size.{Size}
use Rattle.sheet_marking.proofs.MarkingLaws.{sheet_puzzle, sheet_7, sheet_0}
use Rattle.sheet_marking.proofs.check_sheet.Goals as goal

pub returns-in_err-puzzle : goal.returns-in_err-puzzle
returns-in_err-puzzle c =
    let p = err_from_is_err_and c.from_residual.result c.from_residual.ensures.1 in
    rw (p.1, p.2) (sheet_puzzle _ _ _ _ c.in_err-puzzle.ensures)

pub overflow_mul-n : goal.overflow_mul-n
overflow_mul-n c =
    let p = c.in_ok-puzzle in
    let s : Size c.args.n = rw (ap (λ (q : Puzzle). q.size) p.ensures.1) at p.puzzle.size.fits in omega arith

pub returns-then-cells-n : goal.returns-then-cells-n
returns-then-cells-n c = sheet_7 _ _ _ c.in_ok-puzzle.ensures.0 (search rules)

pub returns : goal.returns
returns c = (sheet_0 _ _ _ c.in_ok-puzzle.ensures.0 (search rules), c.in_ok-puzzle.ensures.1)
