-- `arcs::sweep_black` meets its contract. Assumes nothing.
use mathlib.Core.Path.{refl}
use Rattle.arcs.proofs.SweepSteps.{black_keep, black_drop}
use Rattle.words.proofs.SideLaws.{shift_small}
use Rattle.arcs.proofs.SweepLaws.{sweep_start}
use Rattle.arcs.proofs.sweep_black.Goals as goal

pub loop-i-init : goal.loop-i-init
loop-i-init c = sweep_start c.args.arranged c.requires.0 _ c.from-len.ensures

pub overflow_shr-w : goal.overflow_shr-w
overflow_shr-w c = shift_small _ _ _ c.black_shift-shift.ensures

pub loop-i-preserved-then-w-shift : goal.loop-i-preserved-then-w-shift
loop-i-preserved-then-w-shift c =
    black_drop c.args.arranged c.requires.0 c.loop-i.invariant c.loop-i-test.true _ _ _ c.requires.1
    c.word_at-w.ensures c.black_shift-shift.ensures refl _ refl c.if-w-shift.true c.remove.ensures

pub loop-i-preserved : goal.loop-i-preserved
loop-i-preserved c =
    black_keep c.args.arranged c.requires.0 c.loop-i.invariant c.loop-i-test.true _ _ _ c.requires.1
    c.word_at-w.ensures c.black_shift-shift.ensures refl c.if-w-shift.false
