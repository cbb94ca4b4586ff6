-- `prepare::prepare` meets its contract. Assumes nothing.
use mathlib.Core.Path.{refl}
use Rattle.std.proofs.lemmas.Result.{err_from_is_err_and}
use Rattle.prepare.proofs.PrepareLaws.{asked, prepare_lagging, prepare_none, prepare_marks, prepare_done}
use Rattle.prepare.proofs.prepare.Goals as goal

pub fresh-requires : goal.fresh-requires
fresh-requires c = (asked c.args.q c.requires.1).blank

pub open-requires : goal.open-requires
open-requires c = (c.fresh.ensures, refl)

pub propagate-requires : goal.propagate-requires
propagate-requires c = prepare_lagging (asked c.args.q c.requires.1) c.fresh.ensures c.open.ensures

pub returns-in_err-propagate-clause-state : goal.returns-in_err-propagate-clause-state
returns-in_err-propagate-clause-state c =
    let p = err_from_is_err_and c.from_residual.result c.from_residual.ensures.1 in
    rw p.1 (prepare_none (asked c.args.q c.requires.1) c.fresh.ensures c.open.ensures c.in_err-propagate.ensures refl)

pub apply_marks-requires : goal.apply_marks-requires
apply_marks-requires c =
    record {
      lagging = prepare_marks (asked c.args.q c.requires.1) c.fresh.ensures c.open.ensures c.in_ok-propagate.ensures refl;
      accepted = c.args.q.marks_pass;
    }

pub returns-clause-state : goal.returns-clause-state
returns-clause-state c = prepare_done (asked c.args.q c.requires.1) c.fresh.ensures c.open.ensures c.in_ok-propagate.ensures refl c.apply_marks.ensures
