-- What holds in the loop of `written::write_row`: the first c entries are written.
use Rattle.std.proofs.Common.{ℕ, ◌<◌, get_or}
use Rattle.written.proofs.write_row.Given as goal

abbrev pub invariant-loop-c : goal.invariant-loop-c
invariant-loop-c g l = (c : ℕ) (d : _) → c < l.c → goal.F-post g l.entry l.r c (get_or l.row c d)
