-- `apply_marks::apply_marks` meets its contract. Assumes nothing.
use Prim.Native.Nat.{◌<◌, ◌*◌}
use native.Mathlib.Omega.{arith}
use lib.ListN.{length}
use borrow.Author.Rules.{rules}
use Rattle.apply_marks.proofs.AppliedLaws.{marks_begin, mark_asks, marks_step, marks_done}
use Rattle.apply_marks.proofs.apply_marks.Goals as goal

pub loop-i-init : goal.loop-i-init
loop-i-init c = search (rules, marks_begin)

pub apply_mark-requires : goal.apply_mark-requires
apply_mark-requires c =
    let a = c.args in
    let h : 2 * c.loop-i.i < length a.bytes.now = omega arith in
    mark_asks c.loop-i.i c.loop-i.invariant c.mark_at.ensures h

pub loop-i-preserved : goal.loop-i-preserved
loop-i-preserved c =
    let a = c.args in
    let h : 2 * c.loop-i.i < length a.bytes.now = omega arith in
    marks_step c.loop-i.i c.loop-i.invariant c.mark_at.ensures h c.apply_mark.ensures

pub returns : goal.returns
returns c = marks_done c.loop-i.i c.loop-i.invariant (omega arith)
