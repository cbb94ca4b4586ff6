-- `arcs::kill` meets its contract. Assumes nothing.
use Rattle.arcs.proofs.KillLaws.{kill_black, kill_first, kill_inner, kill_last, kill_end}
use Rattle.arcs.proofs.kill.Goals as goal

pub head_of-requires : goal.head_of-requires
head_of-requires c = kill_black c.args.a c.requires

pub drop_support-requires : goal.drop_support-requires
drop_support-requires c =
    kill_first c.args.a c.requires _ _ c.from_of.ensures c.head_of.ensures

pub drop_inner-requires : goal.drop_inner-requires
drop_inner-requires c =
    kill_inner c.args.a c.requires _ _ c.from_of.ensures c.drop_support.ensures

pub last_of-requires : goal.last_of-requires
last_of-requires c =
    kill_black c.args.a c.requires

pub drop_support-requires-2 : goal.drop_support-requires-2
drop_support-requires-2 c =
    kill_last c.args.a c.requires _ _ c.from_of.ensures c.drop_support.ensures
    c.drop_inner.ensures _ _
    c.to_of.ensures c.last_of.ensures

pub returns : goal.returns
returns c =
    kill_end c.args.a c.requires _ _ c.from_of.ensures c.drop_support.ensures
    c.drop_inner.ensures _ _ c.to_of.ensures c.head_of.ensures
    c.last_of.ensures c.drop_support-2.ensures
