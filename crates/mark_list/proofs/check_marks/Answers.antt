-- `mark_list::check_marks` meets its contract. Assumes nothing.
use Prim.Native.Nat.{◌<◌, ◌*◌}
use mathlib.Core.Path.{sym, ap, ◌∙◌}
use native.Mathlib.Omega.{arith}
use lib.ListN.{length}
use Rattle.std.proofs.lemmas.Result.{err_from_is_err_and}
use Rattle.rules.specs.Check.{checked, check_mark}
use Rattle.mark_list.proofs.MarkLaws.{list_stop, list_skip, list_end}
use Rattle.mark_list.proofs.check_marks.Goals as goal

pub returns-in_err-check_mark : goal.returns-in_err-check_mark
returns-in_err-check_mark c =
    let n = c.args.size.n in
    let h : 2 * c.loop-i.i < length c.args.bytes.now = omega arith in
    let d = c.in_err-check_mark.ensures ∙ ap (λ x. checked (check_mark n x)) c.mark_at.ensures in
    let p = err_from_is_err_and c.from_residual.result c.from_residual.ensures.1 in
    rw (p.1, p.2) (sym (c.loop-i.invariant ∙ list_stop n c.args.bytes.now c.loop-i.i h _ d))

pub loop-i-preserved : goal.loop-i-preserved
loop-i-preserved c =
    let n = c.args.size.n in
    let h : 2 * c.loop-i.i < length c.args.bytes.now = omega arith in
    let d = c.in_ok-check_mark.ensures ∙ ap (λ x. checked (check_mark n x)) c.mark_at.ensures in
    c.loop-i.invariant ∙ list_skip n c.args.bytes.now c.loop-i.i h d

pub returns : goal.returns
returns c = sym (c.loop-i.invariant ∙ list_end c.args.size.n c.args.bytes.now c.loop-i.i (omega arith))
