use Rattle.replay.proofs.ReadLaws.{Filled}
use Rattle.replay.proofs.read_full.Given as goal

abbrev pub invariant-loop : goal.invariant-loop
invariant-loop g l = Filled (g.R.Read.remaining l.initial.reader) (g.R.Read.remaining l.reader) l.done l.room
