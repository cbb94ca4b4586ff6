-- `fresh::fill_cells` meets its contract: the first r rows are full. Assumes nothing.
use native.Mathlib.Omega.{arith}
use borrow.Author.Rules.{rules}
use Rattle.fresh.proofs.FillLaws.{rows_start, rows_next, filled}
use Rattle.fresh.proofs.fill_cells.Goals as goal

pub loop-r-init : goal.loop-r-init
loop-r-init c = rows_start _ _ c.requires

pub loop-r-preserved : goal.loop-r-preserved
loop-r-preserved c =
    let before = c.loop-r.invariant in
    let row = filled _ _ _ _ _ (omega arith) (omega (arith, before.size, c.args.size.fits.high)) (c.fill.ensures.after (search rules)) in
    rows_next _ _ c.args.size.fits.high c.loop-r-test.true before row
