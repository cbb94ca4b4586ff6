-- What holds in the loops of `backtrack::search`, and why they end.
use Rattle.table.specs.Reading.{open_cells, total}
use Rattle.queue_state.specs.Slab.{table_in}
use Rattle.backtrack.proofs.SearchLaws.{Turn}
use Rattle.backtrack.proofs.+search.Given as goal

abbrev pub decreases-search : goal.decreases-search
decreases-search l = open_cells l.arrangements.size.n (table_in l.st.now)

abbrev pub invariant-loop-found : goal.invariant-loop-found
invariant-loop-found l = Turn l.arrangements.size.n l.initial.st l.max l.wanted l.initial.cells l.st l.found l.cells

abbrev pub decreases-loop-found : goal.decreases-loop-found
decreases-loop-found l = total l.arrangements.size.n (table_in l.st)
