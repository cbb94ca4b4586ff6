-- `sheet_marking::lines_keep` meets its contract: the lines from i on decide. Assumes nothing.
use Prim.Native.Nat.{◌-◌}
use mathlib.Core.Path.{◌≡◌, sym, ◌∙◌}
use native.Mathlib.Omega.{arith}
use Rattle.rules.proofs.EachLaws.{below_yes, below_no, below_end}
use Rattle.sheet_marking.proofs.FaultLaws.{line_breaks, line_kept}
use Rattle.sheet_marking.proofs.lines_keep.Goals as goal

pub loop-i-init : goal.loop-i-init
loop-i-init c = let n = c.args.lines.count in let e : n - 0 ≡ n = omega arith in rw e

pub returns-then-is_some : goal.returns-then-is_some
returns-then-is_some c =
    let k = line_breaks c.line.result _ c.line.ensures c.line_fault.result c.line_fault.ensures (sym c.is_some.ensures ∙ c.if-is_some.true) in
    sym (c.loop-i.invariant ∙ below_no _ c.loop-i.i _ c.loop-i-test.true k)

pub loop-i-preserved : goal.loop-i-preserved
loop-i-preserved c =
    let k = line_kept c.line.result _ c.line.ensures c.line_fault.result c.line_fault.ensures (sym c.is_some.ensures ∙ c.if-is_some.false) in
    c.loop-i.invariant ∙ below_yes _ c.loop-i.i _ c.loop-i-test.true k

pub returns : goal.returns
returns c = sym (c.loop-i.invariant ∙ below_end _ c.loop-i.i _ c.loop-i-test.false)
