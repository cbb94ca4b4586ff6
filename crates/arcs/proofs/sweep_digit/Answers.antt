-- `arcs::sweep_digit` meets its contract. Assumes nothing.
use mathlib.Core.Path.{refl}
use native.Mathlib.Omega.{arith}
use Rattle.arcs.proofs.SweepSteps.{sweep_small, sweep_having, digit_keep, digit_drop}
use Rattle.arcs.proofs.SweepLaws.{sweep_start, sweep_bounds}
use Rattle.arcs.proofs.sweep_digit.Goals as goal

pub cell-cell-requires : goal.cell-cell-requires
cell-cell-requires c = sweep_small c.args.arranged c.requires.0

pub loop-i-init : goal.loop-i-init
loop-i-init c = sweep_start c.args.arranged c.requires.0 _ c.from-len.ensures

pub having-requires : goal.having-requires
having-requires c = sweep_having c.args.arranged c.requires.0 c.loop-i.invariant

pub offset_bounds-st-cell : goal.offset_bounds-st-cell
offset_bounds-st-cell c =
    omega (arith, c.cell-cell.ensures, sweep_small c.args.arranged c.requires.0)

pub bounds-st-cell : goal.bounds-st-cell
bounds-st-cell c =
    omega (arith, c.cell-cell.ensures, sweep_small c.args.arranged c.requires.0, sweep_bounds c.args.arranged c.requires.0 c.loop-i.invariant)

pub loop-i-preserved-then-keeps : goal.loop-i-preserved-then-keeps
loop-i-preserved-then-keeps c =
    digit_keep c.args.arranged c.requires.0 c.loop-i.invariant c.loop-i-test.true _ _ _ _ _ c.requires.1
    c.word_at-w.ensures c.digit_test-test.ensures c.cell-cell.ensures c.keeps.ensures
    c.having.ensures (omega arith) (c.slice_known-in-loop-i-1.given _).fits c.if-keeps.true

pub loop-i-preserved : goal.loop-i-preserved
loop-i-preserved c =
    digit_drop c.args.arranged c.requires.0 c.loop-i.invariant c.loop-i-test.true _ _ _ _ _ c.requires.1
    c.word_at-w.ensures c.digit_test-test.ensures c.cell-cell.ensures c.keeps.ensures _ refl
    c.if-keeps.false c.having.ensures c.remove.ensures
