-- `pick::pick_value` meets its contract. Assumes nothing.
use mathlib.Core.Path.{◌≡◌, subst}
use native.Mathlib.Omega.{arith}
use Rattle.pick.specs.Scanning.{Led}
use Rattle.pick.proofs.LeadLaws.{led_same, lead_black, lead_digit, lead_done}
use Rattle.pick.proofs.pick_value.Goals as goal
use Rattle.pick.proofs.pick_value.Goals.{then-values-ne0+else-value-ge-BLACK1_ROW, else-values-ne0}

pub returns-then-value-ge-BLACK1_ROW : goal.returns-then-value-ge-BLACK1_ROW
returns-then-value-ge-BLACK1_ROW c =
    let i = c.ilog2-value.ensures in
    lead_black c.open_values-values.ensures i.power_le i.next_power_gt i.bound c.loop-row-test.true (omega (arith, c.if-value-ge-BLACK1_ROW.true)) _ c.loop-row.invariant

pub loop-row-preserved : goal.loop-row-preserved
loop-row-preserved c =
    elim c.if-values-ne0.branch [
      | then-values-ne0+else-value-ge-BLACK1_ROW w ↦
          let i = w.ilog2-value.ensures in
          rw (w.best-is, w.greater-best.ensures)
          (lead_digit c.open_values-values.ensures i.power_le i.next_power_gt i.bound c.loop-row-test.true (omega (arith, w.if-value-ge-BLACK1_ROW.false)) _ c.loop-row.invariant)
      | else-values-ne0 w ↦ rw w.best-is (led_same c.open_values-values.ensures w.if-values-ne0.false _ c.loop-row.invariant)
    ]

pub returns : goal.returns
returns c =
    let e : c.loop-row.row ≡ c.args.view.n = omega (arith, c.loop-row-test.false, c.loop-row.auto.row-end) in
    lead_done c.args.view.ready _ (subst (λ k. Led c.args.view.n c.args.view.st.now k c.loop-row.best) e c.loop-row.invariant)
