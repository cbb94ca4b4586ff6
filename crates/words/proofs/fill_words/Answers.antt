-- `words::fill_words` meets its contract. Assumes nothing.
use Prim.Native.Nat.{◌<◌}
use mathlib.Core.Path.{refl}
use native.Mathlib.Omega.{arith}
use Rattle.words.proofs.FillLaws.{of_size_told, filled_ask, filled_next, filled_skip, end_asked, end_within, filled_all}
use Rattle.words.proofs.fill_words.Goals as goal
use Rattle.words.proofs.fill_words.Goals.{then-is_of_size, else-is_of_size}

pub from_sum-s-end-requires : goal.from_sum-s-end-requires
from_sum-s-end-requires c = end_asked c.args.size.fits c.max_target.ensures

pub numbered-requires : goal.numbered-requires
numbered-requires c = omega (arith, c.loop-s-test.true, end_within c.args.size.fits c.max_target.ensures c.from_sum-s-end.ensures)

pub fill_starts-requires : goal.fill_starts-requires
fill_starts-requires c =
    let h : c.loop-s.s < 128 = omega (arith, c.loop-s-test.true, end_within c.args.size.fits c.max_target.ensures c.from_sum-s-end.ensures) in
    filled_ask c.args.size.fits c.loop-s.invariant h (of_size_told c.loop-s.s refl c.numbered.ensures c.is_of_size.ensures c.if-is_of_size.true)

pub loop-s-preserved : goal.loop-s-preserved
loop-s-preserved c =
    let z = c.args.size.fits in
    let g = c.loop-s.invariant in
    let h : c.loop-s.s < 128 = omega (arith, c.loop-s-test.true, end_within z c.max_target.ensures c.from_sum-s-end.ensures) in
    elim c.if-is_of_size.branch [
      | then-is_of_size w ↦ rw w.words-is (filled_next z g h w.fill_starts.ensures)
      | else-is_of_size w ↦ rw w.words-is (filled_skip z g h (of_size_told c.loop-s.s refl c.numbered.ensures c.is_of_size.ensures w.if-is_of_size.false))
    ]

pub returns : goal.returns
returns c = filled_all c.args.size.fits c.max_target.ensures c.from_sum-s-end.ensures c.loop-s-test.false c.loop-s.invariant

pub overflow_add-max_target : goal.overflow_add-max_target
overflow_add-max_target c = omega (arith, end_asked c.args.size.fits c.max_target.ensures)
