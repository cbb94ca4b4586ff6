-- What holds in the loop of `opening::unsupported`.
use Rattle.opening.specs.Opening.{Lacks}
use Prim.Native.Nat.{◌+◌, ◌*◌}
use Rattle.opening.proofs.unsupported.Given as goal

abbrev pub invariant-loop-v : goal.invariant-loop-v
invariant-loop-v l = Lacks l.st (l.line * 9 + l.p) l.v l.m
