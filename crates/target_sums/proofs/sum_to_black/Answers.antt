-- `target_sums::sum_to_black` meets its contract: what has been added and what lies ahead is the whole. Assumes nothing.
use mathlib.Core.Path.{sym, ◌∙◌}
use native.Mathlib.Omega.{arith}
use Rattle.target_sums.proofs.BetweenLaws.{until_found, until_skip, until_end}
use Rattle.target_sums.proofs.sum_to_black.Goals as goal

pub returns-then-c : goal.returns-then-c
returns-then-c c =
    let l = c.args.line in
    omega (arith, c.loop-j.invariant, until_found l.start l.stride l.cells.now l.len c.loop-j.j c.loop-j-test.true (sym c.byte-c.ensures ∙ c.if-c.true))

pub overflow_add-s : goal.overflow_add-s
overflow_add-s c =
    let l = c.args.line in
    omega (arith, c.byte-c.ensures, c.loop-j.invariant, c.requires.fits, until_skip l.start l.stride l.cells.now l.len c.loop-j.j c.loop-j-test.true (λ e. c.if-c.false (c.byte-c.ensures ∙ e)))

pub loop-j-preserved : goal.loop-j-preserved
loop-j-preserved c =
    let l = c.args.line in
    omega (arith, c.byte-c.ensures, c.loop-j.invariant, until_skip l.start l.stride l.cells.now l.len c.loop-j.j c.loop-j-test.true (λ e. c.if-c.false (c.byte-c.ensures ∙ e)))

pub returns : goal.returns
returns c =
    let l = c.args.line in
    omega (arith, c.loop-j.invariant, until_end l.start l.stride l.cells.now l.len c.loop-j.j c.loop-j-test.false)
