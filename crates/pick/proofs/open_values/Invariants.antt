-- What holds in the loop of `pick::open_values`.
use Rattle.pick.specs.Scanning.{OpenValues}
use Rattle.pick.proofs.open_values.Given as goal

abbrev pub invariant-loop-c : goal.invariant-loop-c
invariant-loop-c l = OpenValues l.view.st.now l.r l.c l.values
