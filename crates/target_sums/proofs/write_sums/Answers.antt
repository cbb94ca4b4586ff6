-- `target_sums::write_sums` meets its contract. Assumes nothing.
use mathlib.Core.Path.{◌≡◌, refl, sym, ◌∙◌}
use native.Mathlib.Omega.{arith}
use lib.ListN.{length, get_or}
use lib.Seq.{take_all}
use Rattle.tally.specs.Tally.{span}
use Rattle.target_sums.specs.Tally.{tallied_sum}
use Rattle.target_sums.specs.Tallies.{tallied_sums}
use Rattle.target_sums.proofs.LineLaws.{fill_next}
use Rattle.target_sums.proofs.write_sums.Goals as goal

pub loop-i-init : goal.loop-i-init
unfolding tallied_sums span
loop-i-init c = (refl, refl)

pub loop-i-preserved : goal.loop-i-preserved
unfolding tallied_sums
loop-i-preserved c =
    let v = c.loop-i.invariant in
    let r = c.requires in
    let a = c.loop-i.auto in
    let t = c.loop-i-test.true in (
      fill_next (λ j. tallied_sum (get_or c.args.across.now j 0)) _ _ _ (omega (arith, a.rows, t)) v.0 c.tallied_sum.ensures,
      fill_next (λ j. tallied_sum (get_or c.args.down.now j 0)) _ _ _ (omega (arith, a.columns, r.equal, t)) v.1 c.tallied_sum-in-loop-i.ensures,
    )

pub returns : goal.returns
returns c =
    let v = c.loop-i.invariant in
    let a = c.loop-i.auto in
    let e : c.loop-i.i ≡ length c.args.rows.now = omega (arith, c.loop-i-test.false, a.i-end) in
    (sym (take_all _ _ (omega (arith, a.rows))) ∙ rw e at v.0, sym (take_all _ _ (omega (arith, a.columns, c.requires.equal))) ∙ rw e at v.1)
