-- `words::fill_starts` meets its contract. Assumes nothing.
use native.Mathlib.Omega.{arith}
use Rattle.words.proofs.FillLaws.{fill_room, filling_next}
use Rattle.words.proofs.fill_starts.Goals as goal

pub word-requires : goal.word-requires
word-requires c =
    let a = c.requires in
    (omega arith, omega (arith, fill_room c.args.size.fits a c.numbered-subset.ensures), c.loop-start-test.true)

pub loop-start-preserved : goal.loop-start-preserved
loop-start-preserved c =
    filling_next c.args.size.fits c.requires c.numbered-subset.ensures _ _ _ _ _ c.from-set.ensures c.from-len.ensures c.loop-start-test.true c.word.ensures c.loop-start.invariant
