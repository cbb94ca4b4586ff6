-- What holds in the loops of `arcs::sweep_digit`, and why they end.
use Prim.Native.Nat.{◌-◌}
use Rattle.arcs.specs.Sweep.{Sweeping}
use Rattle.arcs.proofs.sweep_digit.Given as goal

abbrev pub invariant-loop-i : goal.invariant-loop-i
invariant-loop-i l = Sweeping l.arranged.lane.len l.arranged.lane.number l.p l.v l.initial.st l.st l.i l.len

abbrev pub decreases-loop-i : goal.decreases-loop-i
decreases-loop-i l = l.len - l.i
