-- `target_sums::add_row` meets its contract. Assumes nothing.
use Prim.Native.Nat.{◌+◌, ◌*◌, ◌<◌}
use mathlib.Core.Path.{◌≡◌, refl}
use native.Mathlib.Omega.{arith}
use lib.ListN.{length, get_or}
use Rattle.tally.specs.Tally.{span}
use Rattle.rules.specs.Strided.{strided}
use Rattle.rules.proofs.StridedLaws.{strided_next}
use Rattle.target_sums.specs.Tally.{OneMore}
use Rattle.target_sums.proofs.CellLaws.{seen_none, seen_small, front_next, rest_next}
use Rattle.target_sums.proofs.add_row.Goals as goal

pub loop-j-init : goal.loop-j-init
unfolding strided span
loop-j-init c = (seen_none _ _ refl refl, λ i h. absurd (omega (arith, h)), λ i h. refl)

pub add_cell-added-requires : goal.add_cell-added-requires
add_cell-added-requires c =
    let v = c.loop-j.invariant in
    let h = c.loop-j-test.true in
    (seen_small _ _ _ (omega (arith, h, c.args.row.short)) v.0, omega (arith, v.2 c.loop-j.j (omega arith), c.requires.small c.loop-j.j h))

pub loop-j-preserved : goal.loop-j-preserved
loop-j-preserved c =
    let v = c.loop-j.invariant in
    let h = c.loop-j-test.true in
    let o = c.add_cell-added.ensures in
    let room : c.loop-j.j < length c.loop-j.down = omega (arith, h, c.loop-j.auto.down, c.requires.room) in (
      rw (strided_next, ← c.byte.ensures) (o.0.seen _ _ (omega (arith, h, c.args.row.short)) v.0),
      front_next (λ i x. OneMore (get_or c.args.down.now i 0) (get_or c.args.row.cells.now (c.args.row.start + i * c.args.row.stride) 0) x) _ _ _ room
          (rw (← c.byte.ensures, ← v.2 c.loop-j.j (omega arith)) o.1) v.1,
      rest_next _ _ _ _ v.2,
    )

pub returns : goal.returns
returns c =
    let v = c.loop-j.invariant in
    let e : c.loop-j.j ≡ c.args.row.len = omega (arith, c.loop-j-test.false, c.loop-j.auto.j-end) in
    record { row_seen = rw e at v.0; columns_more = λ j h. v.1 j (omega (arith, e, h)) }
