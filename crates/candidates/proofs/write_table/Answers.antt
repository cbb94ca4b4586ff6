-- `candidates::write_table` meets its contract. Assumes nothing.
use mathlib.Core.Path.{refl}
use borrow.Author.Rules.{rules}
use Rattle.std.proofs.lemmas.Result.{err_from_is_err_and}
use Rattle.fresh.proofs.FillLaws.{blank_zeros}
use Rattle.engine.proofs.SolveLaws.{question_solves}
use Rattle.candidates.proofs.RemainingLaws.{left_none, written_table}
use Rattle.candidates.proofs.write_table.Goals as goal

pub prepare-requires : goal.prepare-requires
prepare-requires c = (search rules, blank_zeros)

pub returns-in_err-propagate : goal.returns-in_err-propagate
returns-in_err-propagate c =
    let p = err_from_is_err_and c.from_residual-in_err-propagate.result c.from_residual-in_err-propagate.ensures.1 in
    rw p.1 (left_none (question_solves c.args.q c.requires) (c.in_ok-prepare.ensures.state.marked refl) c.in_err-propagate.ensures refl, refl)

pub invariant_of-view : goal.invariant_of-view
invariant_of-view c = record { ready = (c.in_ok-propagate.ensures.lagging refl).ready }

pub returns : goal.returns
returns c =
    written_table (question_solves c.args.q c.requires) (c.in_ok-prepare.ensures.state.marked refl)
    c.in_ok-propagate.ensures c.write_candidates.ensures (search rules)
