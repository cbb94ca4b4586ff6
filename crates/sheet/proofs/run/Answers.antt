-- `sheet::run` meets its contract. Assumes nothing.
use Rattle.std.proofs.KnownBytes.{Consumes-nil}
use Rattle.output.proofs.ErrLaws.{on_err}
use Rattle.sheet.proofs.RunLaws.{ok_told, err_told, was_err, was_ok, lines_cut, lines_then, block_cut, all_answered, end_cut}
use Rattle.sheet.proofs.run.Goals as goal

pub returns-in_err-n-clause-part : goal.returns-in_err-n-clause-part
returns-in_err-n-clause-part g c =
    on_err c.from_residual.result (lines_cut c.loop.invariant c.in_err-n.ensures.kept)

pub returns-then-n-eq0-clause-all : goal.returns-then-n-eq0-clause-all
returns-then-n-eq0-clause-all g c =
    ok_told c.write_out.result c.map_err.result c.map_err.ensures.variant (rw c.deref.ensures.0 at c.write_out.ensures.all)
    (all_answered c.loop.invariant (rw c.if-n-eq0.true at c.in_ok-n.ensures.bytes) c.clear.ensures c.append_last.ensures (c.in_ok-n.ensures.end c.if-n-eq0.true))

pub returns-then-n-eq0-clause-part : goal.returns-then-n-eq0-clause-part
returns-then-n-eq0-clause-part g c =
    err_told c.write_out.result c.map_err.result c.map_err.ensures.variant (rw c.deref.ensures.0 at c.write_out.ensures.cut)
    (end_cut c.loop.invariant (rw c.if-n-eq0.true at c.in_ok-n.ensures.bytes) c.clear.ensures c.append_last.ensures)

pub returns-in_err-map_err-clause-part : goal.returns-in_err-map_err-clause-part
returns-in_err-map_err-clause-part g c =
    let told = c.map_err-in-loop in
    let cut = was_err c.write_out-in-loop.result told.result told.ensures.variant c.in_err-map_err.was c.write_out-in-loop.ensures.cut in
    on_err c.from_residual-in_err-map_err.result
    (block_cut c.loop.invariant c.in_ok-n.ensures.bytes c.clear.ensures c.append_answers.ensures (rw c.deref-in-loop.ensures.0 at cut))

pub loop-preserved : goal.loop-preserved
loop-preserved g c =
    let told = c.map_err-in-loop in
    let all = was_ok c.write_out-in-loop.result told.result told.ensures.variant c.in_ok-map_err.was c.write_out-in-loop.ensures.all in
    lines_then c.loop.invariant c.in_ok-n.ensures.bytes c.clear.ensures c.append_answers.ensures (rw c.deref-in-loop.ensures.0 at all)

pub returns-clause-part : goal.returns-clause-part
returns-clause-part g c = lines_cut c.loop.invariant (Consumes-nil _)
