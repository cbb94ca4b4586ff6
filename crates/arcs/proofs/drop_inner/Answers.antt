-- `arcs::drop_inner` meets its contract. Assumes nothing.
use Rattle.arcs.proofs.WalkLaws.{walking_start, walking_ask, walking_next, walking_less, walking_end}
use Rattle.arcs.proofs.drop_inner.Goals as goal

pub loop-p-init : goal.loop-p-init
loop-p-init c = walking_start c.args.a c.requires _ _ c.from_of.ensures c.next_place-p.ensures

pub drop_digits-requires : goal.drop_digits-requires
drop_digits-requires c =
    walking_ask c.args.a c.requires c.loop-p.invariant _ c.to_of-to.ensures c.loop-p-test.true _
    c.set_of-set.ensures

pub loop-p-smaller : goal.loop-p-smaller
loop-p-smaller c =
    walking_less c.args.a c.requires c.loop-p.invariant _ c.to_of-to.ensures c.loop-p-test.true _ c.next_place-p-in-loop-p.ensures

pub loop-p-preserved : goal.loop-p-preserved
loop-p-preserved c =
    walking_next c.args.a c.requires c.loop-p.invariant _ c.to_of-to.ensures c.loop-p-test.true _ _
    c.set_of-set.ensures c.next_place-p-in-loop-p.ensures c.drop_digits.ensures

pub returns : goal.returns
returns c =
    walking_end c.args.a c.requires c.loop-p.invariant _ c.to_of-to.ensures c.loop-p-test.false
