-- What holds in the loop of `target_sums::write_sums`: the first i sums of both are written.
use mathlib.Core.Path.{◌≡◌}
use lib.ListN.{take}
use Rattle.target_sums.specs.Tallies.{tallied_sums}
use Rattle.target_sums.proofs.write_sums.Given as goal

abbrev pub invariant-loop-i : goal.invariant-loop-i
invariant-loop-i l = (take l.i l.rows ≡ tallied_sums l.across l.i) × (take l.i l.columns ≡ tallied_sums l.down l.i)
