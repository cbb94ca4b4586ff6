-- What holds in the loop of `sheet_marking::byte_counts`.
use mathlib.Core.Path.{◌≡◌}
use Rattle.rules.specs.Strided.{strided}
use Rattle.sheet_marking.specs.Counts.{byte_counts}
use Rattle.sheet_marking.proofs.byte_counts.Given as goal

abbrev pub invariant-loop-j : goal.invariant-loop-j
invariant-loop-j l = l.m ≡ byte_counts (strided l.line.start l.line.stride l.line.cells.now l.j)
