-- `puzzle::check_size` meets its contract: the checks' laws, in their order. Assumes nothing.
use mathlib.Core.Path.{sym}
use borrow.Author.Rules.{rules}
use Rattle.rules.proofs.CheckLaws.{said_yes, said_no}
use Rattle.puzzle.proofs.PuzzleLaws.{size_1, size_18, size_0}
use Rattle.puzzle.proofs.check_size.Goals as goal

pub returns-in_default : goal.returns-in_default
returns-in_default c = size_1 c.args.unit c.args.n (sym c.in_default.ensures.made)

pub returns-then-not-takes_size : goal.returns-then-not-takes_size
returns-then-not-takes_size c = size_18 c.args.unit c.args.n (sym c.in-Some.ensures.made) (search (rules, said_no))

pub returns : goal.returns
returns c = (size_0 c.args.unit c.args.n (sym c.in-Some.ensures.made) (search (rules, said_yes)), c.in-Some.ensures.is)
