-- What holds in the loop of `table_bytes::write_entries`: the first i entries are written.
use Rattle.std.proofs.Common.{◌≡◌, ℕ, ◌+◌, ◌*◌, ◌<◌, get_or}
use Rattle.table_bytes.proofs.write_entries.Given as goal

abbrev pub invariant-loop-i : goal.invariant-loop-i
invariant-loop-i l = (j : ℕ) → j < l.i → get_or l.bytes (2 * j) 0 * 256 + get_or l.bytes (2 * j + 1) 0 ≡ get_or l.entries j 0
