-- `target_sums::check_tallies` meets its contract: the answer is that of the lines from i on. Assumes nothing.
use Prim.Native.Nat.{◌-◌}
use mathlib.Core.Path.{◌≡◌, refl, sym, ◌∙◌}
use native.Mathlib.Omega.{arith}
use Rattle.std.proofs.lemmas.Result.{err_from_is_err_and}
use Rattle.tally.specs.Tally.{span}
use Rattle.rules.specs.Strided.{each}
use Rattle.target_sums.specs.Tallies.{tallied_sums}
use Rattle.target_sums.proofs.LineLaws.{line_from, ahead, ahead_skip, ahead_stop, ahead_end, sums_next}
use Rattle.target_sums.proofs.check_tallies.Goals as goal

pub loop-i-init : goal.loop-i-init
unfolding each tallied_sums span
loop-i-init c = let n = c.args.lines.count in let e : n - 0 ≡ n = omega arith in (rw e, refl)

pub returns-in_err-check_tally : goal.returns-in_err-check_tally
unfolding each ahead
returns-in_err-check_tally c =
    let a = c.args.lines in
    let h = c.loop-i-test.true in
    let d = c.in_err-check_tally.ensures.told _ _ a.short (c.requires.seen _ h) in
    let p = err_from_is_err_and c.from_residual.result c.from_residual.ensures.1 in
    rw (p.1, p.2) (sym (c.loop-i.invariant.0 ∙ ahead_stop (line_from a.step a.stride a.cells.now a.count) c.loop-i.i a.count h _ (sym d)))

pub loop-i-preserved : goal.loop-i-preserved
unfolding each
loop-i-preserved c =
    let a = c.args.lines in
    let h = c.loop-i-test.true in
    let v = c.loop-i.invariant in
    let d = c.in_ok-check_tally.ensures.told _ _ a.short (c.requires.seen _ h) in
    (v.0 ∙ ahead_skip (line_from a.step a.stride a.cells.now a.count) c.loop-i.i a.count h (sym d.0), sums_next _ _ _ v.1 d.1)

pub returns : goal.returns
unfolding each ahead
returns c =
    let a = c.args.lines in
    let v = c.loop-i.invariant in
    let e : c.loop-i.i ≡ a.count = omega (arith, c.loop-i-test.false, c.loop-i.auto.i-end) in
    (sym (v.0 ∙ ahead_end (line_from a.step a.stride a.cells.now a.count) c.loop-i.i a.count c.loop-i-test.false), rw e at v.1)
