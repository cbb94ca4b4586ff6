-- `sheet_marking::byte_counts` meets its contract: the walk has counted the first j cells. Assumes nothing.
use mathlib.Core.Path.{◌≡◌, refl}
use native.Mathlib.Omega.{arith}
use Rattle.tally.specs.Tally.{span}
use Rattle.rules.proofs.StridedLaws.{strided_next, strided_length}
use Rattle.rules.specs.Strided.{strided}
use Rattle.sheet_marking.proofs.CountLaws.{counts_none, counts_next, counts_most, one_at_most}
use Rattle.sheet_marking.proofs.byte_counts.Goals as goal

pub loop-j-init : goal.loop-j-init
unfolding strided span
loop-j-init c = counts_none _ refl

pub overflow_add-m : goal.overflow_add-m
overflow_add-m c =
    let l = c.args.line in
    omega (
      arith,
      c.loop-j.invariant,
      counts_most (strided l.start l.stride l.cells.now c.loop-j.j),
      strided_length l.start l.stride l.cells.now c.loop-j.j,
      c.one_at-m.ensures,
      one_at_most c.byte.result,
    )

pub loop-j-preserved : goal.loop-j-preserved
loop-j-preserved c =
    let l = c.args.line in
    rw (strided_next l.start l.stride l.cells.now c.loop-j.j, counts_next, ← c.loop-j.invariant, ← c.byte.ensures, ← c.one_at-m.ensures)

pub returns : goal.returns
returns c =
    let l = c.args.line in
    let e : c.loop-j.j ≡ l.len = omega arith in
    record { counts_are = rw e at c.loop-j.invariant; short = omega (arith, strided_length l.start l.stride l.cells.now l.len) }
