-- What holds in the loop of `listing::list_arrangements`.
use Rattle.listing.proofs.LineLaws.{ListedTo}
use Rattle.listing.proofs.list_arrangements.Given as goal

abbrev pub invariant-loop-i : goal.invariant-loop-i
invariant-loop-i l = ListedTo l.p.size.n l.i l.p.rows.now l.p.columns.now l.initial.st l.st
