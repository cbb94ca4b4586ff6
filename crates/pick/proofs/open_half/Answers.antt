-- `pick::open_half` meets its contract. Assumes nothing.
use native.Mathlib.Omega.{arith}
use Rattle.pick.proofs.OpenLaws.{half_open, half_settled}
use Rattle.pick.proofs.open_half.Goals as goal

pub returns-then-half-ge2 : goal.returns-then-half-ge2
returns-then-half-ge2 c =
    let e = c.candidates-half.ensures in
    rw e (half_open c.args.view.st.now c.args.cell c.requires (omega (arith, e)) (let t = rw e at c.if-half-ge2.true in omega (arith, t)))

pub returns-else-half-ge2 : goal.returns-else-half-ge2
returns-else-half-ge2 c =
    let e = c.candidates-half.ensures in
    half_settled c.args.view.st.now c.args.cell c.requires (omega (arith, e)) (λ h. omega (arith, h, rw e at c.if-half-ge2.false))
