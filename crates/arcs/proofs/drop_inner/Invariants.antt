-- What holds in the loops of `arcs::drop_inner`, and why they end.
use Prim.Native.Nat.{◌-◌}
use Rattle.words.specs.Word.{from_of, to_of, steps}
use Rattle.arcs.proofs.WalkLaws.{Walking}
use Rattle.arcs.proofs.drop_inner.Given as goal

abbrev pub invariant-loop-p : goal.invariant-loop-p
invariant-loop-p l = Walking l.fn.a.lane.len l.fn.a.lane.number l.fn.a.word l.initial.st l.st l.p

abbrev pub decreases-loop-p : goal.decreases-loop-p
decreases-loop-p l = steps l.fn.a.lane.len (from_of l.fn.a.word) (to_of l.fn.a.word) - steps l.fn.a.lane.len (from_of l.fn.a.word) l.p
