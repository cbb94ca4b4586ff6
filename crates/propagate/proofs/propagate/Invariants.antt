-- What holds in the loops of `propagate::propagate`, and why they end.
use Prim.Native.Nat.{◌-◌}
use Rattle.queue_state.specs.Layout.{queue_room}
use Rattle.propagate.proofs.Loop.{Propagating}
use Rattle.propagate.proofs.propagate.Given as goal

abbrev pub invariant-loop-head : goal.invariant-loop-head
invariant-loop-head l = Propagating l.arrangements.size.n l.initial.st l.st l.head

abbrev pub decreases-loop-head : goal.decreases-loop-head
decreases-loop-head l = queue_room - l.head
