-- `backtrack::advance` meets its contract. Assumes nothing.
use Rattle.backtrack.proofs.AdvanceLaws.{advance_ready, advance_none, advance_one, advance_branch}
use Rattle.backtrack.proofs.advance.Goals as goal

pub returns-then-is_err : goal.returns-then-is_err
returns-then-is_err c =
    advance_none c.requires.ready.size
    c.if-is_err.ensures.negation c.propagate.ensures

pub invariant_of-pick_branch : goal.invariant_of-pick_branch
invariant_of-pick_branch c =
    record { ready = advance_ready c.requires.ready.size c.if-is_err.ensures.negation c.propagate.ensures }

pub returns-in-Some : goal.returns-in-Some
returns-in-Some c =
    let pre = c.requires in
    let b = c.in-Some.ensures in
    advance_branch pre.ready.size c.if-is_err.ensures.negation c.propagate.ensures b

pub returns-in-None : goal.returns-in-None
returns-in-None c =
    let pre = c.requires in
    advance_one pre.ready.size c.if-is_err.ensures.negation
    c.propagate.ensures c.in-None.ensures
