-- What holds in the loop of `listing::list_side`.
use Prim.Native.Nat.{◌+◌}
use Rattle.subset_table.specs.Subsets.{from_sum}
use Rattle.listing.specs.Sides.{is_outside}
use Rattle.listing.specs.Listing.{Adding}
use Rattle.listing.specs.Numbers.{side_from, side_of}
use Rattle.listing.proofs.list_side.Given as goal

abbrev pub invariant-loop-s : goal.invariant-loop-s
invariant-loop-s l =
    Adding l.arranged.lane l.initial.st l.st
    (side_from l.arranged.lane.len (is_outside l.side) l.s (from_sum (l.want + 1)))
    (side_of l.arranged.lane.len (is_outside l.side) l.want)
