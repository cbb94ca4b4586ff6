-- `target_sums::tally_grid` meets its contract: the answer is that of the rows from i on. Assumes nothing.
use Prim.Native.Nat.{◌-◌, ◌<◌}
use mathlib.Core.Path.{◌≡◌, refl, sym, ◌∙◌}
use native.Mathlib.Omega.{arith}
use lib.ListN.{length}
use Rattle.std.proofs.lemmas.Result.{err_from_is_err_and}
use Rattle.tally.specs.Tally.{span}
use Rattle.rules.specs.Grid.{line_sum}
use Rattle.rules.specs.Strided.{strided, each}
use Rattle.target_sums.specs.Tally.{Seen, tallied_sum}
use Rattle.target_sums.proofs.CellLaws.{seen_none, seen_small, front_next, row_of, added_of, column_next}
use Rattle.target_sums.proofs.LineLaws.{line_from, ahead, ahead_skip, ahead_stop, ahead_end, sums_each}
use Rattle.target_sums.proofs.tally_grid.Goals as goal

pub loop-i-init : goal.loop-i-init
unfolding strided span
loop-i-init c =
    let n = c.args.rows.count in
    let e : n - 0 ≡ n = omega arith in
    (λ k h. absurd (omega (arith, h)), λ j h. seen_none _ _ refl (c.requires.clear j h), rw e)

pub add_row-t-requires : goal.add_row-t-requires
add_row-t-requires c =
    let a = c.args.rows in
    let e = c.line.ensures.3 in
    record {
      room = omega (arith, e, c.loop-i.auto.down, c.requires.room_down);
      small = λ j h. seen_small _ _ _ (omega (arith, c.loop-i-test.true, a.short)) (c.loop-i.invariant.1 j (omega (arith, e, h)));
    }

pub returns-in_err-check_tally : goal.returns-in_err-check_tally
unfolding each ahead
returns-in_err-check_tally c =
    let a = c.args.rows in
    let h = c.loop-i-test.true in
    let d = c.in_err-check_tally.ensures.told _ _ a.short (row_of c.line.result c.line.ensures c.add_row-t.ensures.row_seen) in
    let p = err_from_is_err_and c.from_residual.result c.from_residual.ensures.1 in
    rw (p.1, p.2) (sym (c.loop-i.invariant.2 ∙ ahead_stop (line_from a.step a.stride a.cells.now a.count) c.loop-i.i a.count h _ (sym d)))

pub loop-i-preserved : goal.loop-i-preserved
loop-i-preserved c =
    let a = c.args.rows in
    let v = c.loop-i.invariant in
    let t = c.loop-i-test.true in
    let f = line_from a.step a.stride a.cells.now a.count in
    let h : c.loop-i.i < length c.loop-i.across = omega (arith, c.loop-i.auto.across, c.requires.room_across, t) in
    let r = c.add_row-t.ensures in
    let s = row_of c.line.result c.line.ensures r.row_seen in
    let d = c.in_ok-check_tally.ensures.told _ _ a.short s in (
      front_next (λ k x. Seen x a.count (f k) × (tallied_sum x ≡ line_sum (f k))) _ _ _ h (s, d.1) v.0,
      λ j k. column_next _ _ _ _ _ _ _ (added_of c.line.result c.line.ensures r j k) (omega (arith, t, a.short)) (v.1 j k),
      v.2 ∙ ahead_skip f c.loop-i.i a.count t (sym d.0),
    )

pub returns : goal.returns
unfolding each ahead
returns c =
    let a = c.args.rows in
    let v = c.loop-i.invariant in
    let f = line_from a.step a.stride a.cells.now a.count in
    let e : c.loop-i.i ≡ a.count = omega (arith, c.loop-i-test.false, c.loop-i.auto.i-end) in
    let s = sums_each (λ k. line_sum (f k)) c.loop-i.across a.count (λ k h. (v.0 k (omega (arith, e, h))).1) in
    let d = v.2 ∙ ahead_end f c.loop-i.i a.count c.loop-i-test.false in
    (sym d, (record { rows_seen = λ k h. (v.0 k (omega (arith, e, h))).0; columns_seen = rw e at v.1 }, s))
