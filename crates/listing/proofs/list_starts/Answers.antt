-- `listing::list_starts` meets its contract. Assumes nothing.
use mathlib.Core.Path.{refl, ap, ◌∙◌}
use native.Mathlib.Omega.{arith}
use Rattle.listing.proofs.AddLaws.{starts_start, starts_ask, starts_next, starts_end}
use Rattle.listing.proofs.list_starts.Goals as goal

pub starts-start-items-requires : goal.starts-start-items-requires
starts-start-items-requires c = omega (arith, c.requires.1.few, c.from-len.ensures ∙ ap (λ y. y.size) c.numbered.ensures)

pub loop-start-init : goal.loop-start-init
loop-start-init c =
    rw c.into_iter-start-iterator.ensures.into_iter_gives
    (omega arith, refl, starts_start c.args.arranged.lane _ c.starts-start-items.ensures c.numbered.ensures c.from-len.ensures c.requires.0)

pub add_arrangement-requires : goal.add_arrangement-requires
add_arrangement-requires c =
    let v = c.loop-start.invariant in
    let e = c.in-Some.ensures.steps in
    let r = rw (← c.into_iter-start-iterator.ensures.into_iter_gives) at c.starts-start-items.ensures in
    rw e.1.1 (starts_ask c.args.arranged.lane _ r c.numbered.ensures c.from-len.ensures v.2 c.args.arranged.fits v.0 (omega arith) c.requires.1)

pub loop-start-preserved : goal.loop-start-preserved
loop-start-preserved c =
    let v = c.loop-start.invariant in
    let e = c.in-Some.ensures.steps in
    let r = rw (← c.into_iter-start-iterator.ensures.into_iter_gives) at c.starts-start-items.ensures in
    let t = rw e.1.1 at c.add_arrangement.ensures in
    (omega arith, e.0 ∙ v.1, rw e.1.2 (starts_next c.args.arranged.lane _ r c.numbered.ensures c.from-len.ensures v.2 v.0 (omega arith) t))

pub returns : goal.returns
returns c =
    let r = rw (← c.into_iter-start-iterator.ensures.into_iter_gives) at c.starts-start-items.ensures in
    starts_end c.args.arranged.lane _ r c.numbered.ensures c.from-len.ensures c.loop-start.invariant.2 (omega (arith, c.loop-start.invariant.1, c.in-None.ensures.steps.1.0))
