-- What holds in the loop of `written::write_rows`: the first r rows are written.
use Rattle.std.proofs.Common.{ℕ, ◌+◌, ◌*◌, ◌<◌, get_or}
use Rattle.written.proofs.write_rows.Given as goal

abbrev pub invariant-loop-r : goal.invariant-loop-r
invariant-loop-r g l = (r c : ℕ) (d : _) → r < l.r → c < l.n → goal.F-post g l.entry r c (get_or l.table (r * l.n + c) d)
