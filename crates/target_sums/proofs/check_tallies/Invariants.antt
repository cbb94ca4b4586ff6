-- What holds in the loop of `target_sums::check_tallies`: the lines in front passed, and their sums stand in their tallies.
use Prim.Native.Nat.{◌-◌}
use mathlib.Core.Path.{◌≡◌}
use Rattle.rules.specs.Check.{checked}
use Rattle.rules.specs.Grid.{line_sum}
use Rattle.rules.specs.Strided.{each}
use Rattle.target_sums.specs.Tallies.{tallied_sums}
use Rattle.target_sums.proofs.LineLaws.{line_from, ahead}
use Rattle.target_sums.proofs.check_tallies.Given as goal

abbrev pub invariant-loop-i : goal.invariant-loop-i
invariant-loop-i l =
    (checked (ahead (line_from l.lines.step l.lines.stride l.lines.cells.now l.lines.count) 0 l.lines.count)
    ≡ checked (ahead (line_from l.lines.step l.lines.stride l.lines.cells.now l.lines.count) l.i (l.lines.count - l.i)))
    × (tallied_sums l.tallies l.i ≡ each line_sum l.lines.step l.lines.stride l.lines.cells.now l.lines.count l.i)
