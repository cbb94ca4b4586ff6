-- What holds in the loop of `listing::list_starts`.
use Prim.Native.Nat.{◌≤◌}
use mathlib.Core.Path.{◌≡◌}
use Rattle.subset_table.specs.Subsets.{size_in}
use Rattle.listing.specs.Sides.{is_outside}
use Rattle.listing.specs.Listing.{Adding}
use Rattle.listing.specs.Numbers.{starts_from}
use Rattle.listing.proofs.list_starts.Given as goal

abbrev pub invariant-loop-start : goal.invariant-loop-start
invariant-loop-start l =
    (l.initial.start-iterator.start ≤ l.start-iterator.start)
    × (l.start-iterator.end ≡ l.initial.start-iterator.end)
    × Adding l.arranged.lane l.initial.st l.st
    (starts_from l.arranged.lane.len (is_outside l.fn.side) l.s (size_in l.s) l.start-iterator.start)
    (starts_from l.arranged.lane.len (is_outside l.fn.side) l.s (size_in l.s) 0)
