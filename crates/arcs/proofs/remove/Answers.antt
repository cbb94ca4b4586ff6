-- `arcs::remove` meets its contract. Assumes nothing.
use borrow.Author.Rules.{rules}
use Rattle.arcs.proofs.RemoveLaws.{remove_shaped, remove_kill, remove_done}
use Rattle.arcs.proofs.remove.Goals as goal

pub invariant_of-kill-clause-fits : goal.invariant_of-kill-clause-fits
invariant_of-kill-clause-fits c = c.requires.ready.size

pub invariant_of-kill-clause-shaped : goal.invariant_of-kill-clause-shaped
invariant_of-kill-clause-shaped c = remove_shaped c.requires

pub kill-requires : goal.kill-requires
kill-requires c = search (rules, remove_kill)

pub returns : goal.returns
returns c = search (rules, remove_done)
