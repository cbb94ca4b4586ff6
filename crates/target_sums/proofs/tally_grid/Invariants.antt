-- What holds in the loop of `target_sums::tally_grid`: the tallies of the rows in front are there with their sums, and what these rows add to those of the
-- columns; the rows in front passed.
use Prim.Native.Nat.{◌*◌, ◌-◌, ◌<◌, ℕ}
use mathlib.Core.Path.{◌≡◌}
use lib.ListN.{get_or}
use Rattle.rules.specs.Check.{checked}
use Rattle.rules.specs.Grid.{line_sum}
use Rattle.rules.specs.Strided.{strided}
use Rattle.target_sums.specs.Tally.{Seen, tallied_sum}
use Rattle.target_sums.proofs.LineLaws.{line_from, ahead}
use Rattle.target_sums.proofs.tally_grid.Given as goal

abbrev pub invariant-loop-i : goal.invariant-loop-i
invariant-loop-i l =
    ((k : ℕ) → k < l.i → Seen (get_or l.across k 0) l.rows.count (line_from l.rows.step l.rows.stride l.rows.cells.now l.rows.count k)
    × (tallied_sum (get_or l.across k 0) ≡ line_sum (line_from l.rows.step l.rows.stride l.rows.cells.now l.rows.count k)))
    × ((j : ℕ) → j < l.rows.count → Seen (get_or l.down j 0) l.i (strided (j * l.rows.stride) l.rows.step l.rows.cells.now l.i))
    × (checked (ahead (line_from l.rows.step l.rows.stride l.rows.cells.now l.rows.count) 0 l.rows.count)
    ≡ checked (ahead (line_from l.rows.step l.rows.stride l.rows.cells.now l.rows.count) l.i (l.rows.count - l.i)))
