-- `pick::pick_column` meets its contract. Assumes nothing.
use native.Mathlib.Omega.{arith}
use Rattle.bits.specs.Bit.{bit}
use Rattle.pick.proofs.LeadLaws.{last_here, last_there}
use Rattle.pick.proofs.pick_column.Goals as goal
use Rattle.pick.proofs.pick_column.Goals.{then-open_half-at-eq1, else-open_half-at-eq1}

pub loop-c-preserved : goal.loop-c-preserved
unfolding bit
loop-c-preserved c =
    let s = c.loop-c.invariant in
    let o = c.open_half.ensures in
    elim c.if-open_half-at-eq1.branch [
      | then-open_half-at-eq1 w ↦ rw w.column-is (last_here s (o.has c.args.at.value (omega (arith, c.requires.open_here.candidate.high)) w.if-open_half-at-eq1.true))
      | else-open_half-at-eq1 w ↦ rw w.column-is (last_there s (λ h. w.if-open_half-at-eq1.false (o.all c.args.at.value h)))
    ]
