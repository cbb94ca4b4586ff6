-- `listing::list_side` meets its contract. Assumes nothing.
use Rattle.words.proofs.FillLaws.{of_size_told}
use Rattle.listing.proofs.AddLaws.{sum_start, sum_low, sum_ask, sum_next, sum_skip, sum_end}
use Rattle.listing.proofs.list_side.Goals as goal
use Rattle.listing.proofs.list_side.Goals.{then-is_of_size, else-is_of_size}

pub loop-s-init : goal.loop-s-init
loop-s-init c = sum_start _ _ _ c.from_sum-s.ensures c.requires.0

pub numbered-requires : goal.numbered-requires
numbered-requires c = sum_low c.args.arranged.fits _ _ _ _ c.loop-s.invariant c.from_sum-s-end.ensures c.loop-s-test.true c.requires.1

pub list_starts-requires : goal.list_starts-requires
list_starts-requires c =
    sum_ask c.args.arranged.fits _ _ _ _ c.loop-s.invariant c.from_sum-s-end.ensures c.loop-s-test.true c.requires.1
    (of_size_told _ c.size.ensures c.numbered.ensures c.is_of_size.ensures c.if-is_of_size.true)

pub loop-s-preserved : goal.loop-s-preserved
loop-s-preserved c =
    let g = c.loop-s.invariant in
    let e = c.from_sum-s-end.ensures in
    let h = c.loop-s-test.true in
    elim c.if-is_of_size.branch [
      | then-is_of_size w ↦ rw w.st-is (sum_next c.args.arranged.fits _ _ _ _ g e h (of_size_told _ c.size.ensures c.numbered.ensures c.is_of_size.ensures w.if-is_of_size.true) w.list_starts.ensures)
      | else-is_of_size w ↦ rw w.st-is (sum_skip c.args.arranged.fits _ _ _ _ g e h (of_size_told _ c.size.ensures c.numbered.ensures c.is_of_size.ensures w.if-is_of_size.false))
    ]

pub returns : goal.returns
returns c = sum_end c.args.arranged.fits _ _ _ _ c.loop-s.invariant c.from_sum-s-end.ensures c.loop-s-test.false
