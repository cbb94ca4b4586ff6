-- What holds in the loop of `sheet_marking::lines_keep`.
use Prim.Native.Nat.{◌-◌}
use mathlib.Core.Path.{◌≡◌}
use Rattle.tally.specs.Tally.{all, span}
use Rattle.sheet_marking.proofs.MarkingLaws.{keeps_at, lines_kept}
use Rattle.sheet_marking.proofs.lines_keep.Given as goal

abbrev pub invariant-loop-i : goal.invariant-loop-i
invariant-loop-i l =
    lines_kept l.lines l.targets
    ≡ all (keeps_at l.lines.step l.lines.stride l.lines.cells.now l.lines.count l.targets) (span l.i (l.lines.count - l.i))
