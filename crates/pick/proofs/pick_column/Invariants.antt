-- What holds in the loop of `pick::pick_column`.
use Rattle.pick.specs.Scanning.{LastColumn}
use Rattle.pick.proofs.pick_column.Given as goal

abbrev pub invariant-loop-c : goal.invariant-loop-c
invariant-loop-c l = LastColumn l.view.st.now l.at l.c l.column
