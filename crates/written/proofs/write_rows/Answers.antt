-- `written::write_rows` meets its contract: the first r rows are written. Assumes nothing.
use mathlib.Core.Path.{◌∙◌}
use Rattle.written.proofs.RowLaws.{rows_next}
use Rattle.written.proofs.write_rows.Goals as goal

pub loop-r-preserved : goal.loop-r-preserved
loop-r-preserved g c =
    let size = c.loop-r.auto.table ∙ c.requires.size in
    rows_next (goal.F-post g c.args.entry) _ _ _ _ c.loop-r-test.true size c.write_row.auto.row c.loop-r.invariant c.write_row.ensures
