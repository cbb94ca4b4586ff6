-- What holds in the loop of `pick::pick_value`.
use Rattle.pick.specs.Scanning.{Led}
use Rattle.pick.proofs.pick_value.Given as goal

abbrev pub invariant-loop-row : goal.invariant-loop-row
invariant-loop-row l = Led l.view.n l.view.st.now l.row l.best
