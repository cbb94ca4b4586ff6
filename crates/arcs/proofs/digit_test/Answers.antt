-- `arcs::digit_test` meets its contract. Assumes nothing.
use borrow.Author.Rules.{rules}
use Rattle.arcs.proofs.TestLaws.{test_code}
use Rattle.arcs.proofs.digit_test.Goals as goal

pub returns : goal.returns
returns c = search (rules, test_code)
