-- What holds in the loops of `mark_list::check_marks`, and why they end.
use Prim.Native.Nat.{◌*◌}
use mathlib.Core.Path.{◌≡◌}
use lib.ListN.{drop}
use Rattle.rules.specs.Mark.{marks_of}
use Rattle.rules.specs.Check.{checked}
use Rattle.rules.specs.CheckParts.{mark_checks}
use Rattle.mark_list.proofs.check_marks.Given as goal

abbrev pub invariant-loop-i : goal.invariant-loop-i
invariant-loop-i l = checked (mark_checks l.size.n (marks_of l.bytes)) ≡ checked (mark_checks l.size.n (marks_of (drop (2 * l.i) l.bytes)))
