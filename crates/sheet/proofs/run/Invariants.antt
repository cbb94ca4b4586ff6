-- What holds in the loop of `sheet::run`.
use Rattle.sheet.specs.Run.{LinesAnswered}
use Rattle.sheet.proofs.run.Given as goal

abbrev pub invariant-loop : goal.invariant-loop
invariant-loop g l = LinesAnswered (g.R.Read.remaining l.initial.reader) (g.R.Read.remaining l.reader)
    (g.W.Write.contents l.initial.writer) (g.W.Write.contents l.writer) l.stream
