-- `backtrack::settle` meets its contract. Assumes nothing.
use Rattle.rules.specs.Order.{first_or}
use Rattle.backtrack.proofs.settle.Goals as goal

pub write_grid-requires : goal.write_grid-requires
write_grid-requires c = c.requires.fits c.if-wanted.true

pub returns-then-wanted : goal.returns-then-wanted
unfolding first_or
returns-then-wanted c = rw c.if-wanted.true c.write_grid.ensures

pub returns-else-wanted : goal.returns-else-wanted
returns-else-wanted c = rw c.if-wanted.false
