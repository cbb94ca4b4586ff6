-- `propagate::propagate` meets its contract. Assumes nothing.
use native.Mathlib.Omega.{arith}
use Prim.Native.Nat.{◌<◌, ◌/◌}
use mathlib.Core.Path.{refl}
use Rattle.queue_state.specs.Slab.{tail}
use Rattle.propagate.proofs.Loop.{loop_start, loop_size, loop_cell, loop_ask, loop_empty, loop_next}
use Rattle.propagate.proofs.Rest.{loop_end}
use Rattle.propagate.proofs.propagate.Goals as goal

pub loop-head-init : goal.loop-head-init
loop-head-init c = loop_start c.requires

pub bounds-st-972 : goal.bounds-st-972
bounds-st-972 c = omega (arith, loop_size c.loop-head.invariant)

pub bounds-st-cell : goal.bounds-st-cell
bounds-st-cell c =
    let h : c.loop-head.head < tail c.loop-head.st = rw c.from.ensures at c.loop-head-test.true in
    omega (arith, loop_size c.loop-head.invariant, loop_cell c.loop-head.invariant h _ c.from-strike.ensures)

pub returns-then-st-cell-eq0 : goal.returns-then-st-cell-eq0
returns-then-st-cell-eq0 c =
    let h : c.loop-head.head < tail c.loop-head.st = rw c.from.ensures at c.loop-head-test.true in
    loop_empty c.loop-head.invariant h _ c.from-strike.ensures c.if-st-cell-eq0.true

pub update-requires : goal.update-requires
update-requires c =
    let h : c.loop-head.head < tail c.loop-head.st = rw c.from.ensures at c.loop-head-test.true in
    rw c.at.ensures (loop_ask c.loop-head.invariant h _ c.from-strike.ensures)

pub loop-head-preserved : goal.loop-head-preserved
loop-head-preserved c =
    let h : c.loop-head.head < tail c.loop-head.st = rw c.from.ensures at c.loop-head-test.true in
    loop_next c.loop-head.invariant h _ c.from-strike.ensures c.if-st-cell-eq0.false
    (c.slice_known-in-loop-head-3-1.given (c.from-strike.result / 16)).fits (rw c.at.ensures at c.update.ensures)

pub returns : goal.returns
returns c = loop_end c.loop-head.invariant (omega (arith, c.from.ensures, c.loop-head-test.false)) refl
