-- `fresh::fill_lines` meets its contract. Assumes nothing.
use Rattle.fresh.proofs.LineMasks.{masks_start, row_unmasked, column_unmasked, masks_next}
use Rattle.fresh.proofs.fill_lines.Goals as goal

pub loop-i-init : goal.loop-i-init
loop-i-init c = masks_start c.args.size.n c.requires

pub fill_line-requires : goal.fill_line-requires
fill_line-requires c = row_unmasked c.requires c.loop-i.invariant c.loop-i-test.true c.args.size.fits.high

pub fill_line-requires-in-loop-i : goal.fill_line-requires-in-loop-i
fill_line-requires-in-loop-i c = column_unmasked c.requires c.loop-i.invariant c.loop-i-test.true c.args.size.fits.high c.fill_line.ensures

pub loop-i-preserved : goal.loop-i-preserved
loop-i-preserved c = masks_next c.requires c.loop-i.invariant c.loop-i-test.true c.args.size.fits.high c.fill_line.ensures c.fill_line-in-loop-i.ensures
