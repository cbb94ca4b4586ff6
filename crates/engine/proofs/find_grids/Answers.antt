-- `engine::find_grids` meets its contract. Assumes nothing.
use borrow.Author.Rules.{rules}
use Rattle.fresh.proofs.FillLaws.{blank_zeros}
use Rattle.engine.proofs.CountLaws.{question_asks}
use Rattle.engine.proofs.SolveLaws.{found_none, found_grids}
use Rattle.engine.proofs.find_grids.Goals as goal

pub prepare-requires : goal.prepare-requires
prepare-requires c = (search rules, blank_zeros)

pub returns-then-is_err : goal.returns-then-is_err
returns-then-is_err c = found_none (question_asks c.args.q) c.prepare.ensures.state c.if-is_err.ensures.negation

pub returns : goal.returns
returns c = found_grids (question_asks c.args.q) (c.prepare.ensures.state.marked c.if-is_err.ensures.negation) c.search.ensures
