-- `target_sums::check_tally` meets its contract. Assumes nothing.
use Rattle.target_sums.proofs.LineLaws.{told_8, told_0, told_9, told_10}
use Rattle.target_sums.proofs.check_tally.Goals as goal

pub returns-then-t-ne2 : goal.returns-then-t-ne2
returns-then-t-ne2 c = told_8 _ c.if-t-ne2.true

pub returns-then-t-lt-ABOVE_SUMS : goal.returns-then-t-lt-ABOVE_SUMS
returns-then-t-lt-ABOVE_SUMS c = told_0 _ c.if-t-ne2.false c.if-t-lt-ABOVE_SUMS.true

pub returns-then-t-ge-EMPTY : goal.returns-then-t-ge-EMPTY
returns-then-t-ge-EMPTY c = told_9 _ c.if-t-ne2.false c.if-t-ge-EMPTY.true

pub returns : goal.returns
returns c = told_10 _ c.if-t-ne2.false c.if-t-lt-ABOVE_SUMS.false c.if-t-ge-EMPTY.false
