-- `fresh::fresh` meets its contract. Assumes nothing.
use native.Mathlib.Omega.{arith}
use borrow.Author.Rules.{rules}
use Rattle.queue_state.specs.Layout.{row_half_at, row_blacks_at, lengths_at}
use Rattle.fresh.proofs.FillLaws.{Filled, filled, fresh_done}
use Rattle.fresh.proofs.LineMasks.{rows_unmasked}
use Rattle.fresh.proofs.fresh.Goals as goal

pub fill_lines-requires : goal.fill_lines-requires
fill_lines-requires c = rows_unmasked c.fill_cells.ensures

pub returns : goal.returns
returns c =
    let cells = rw c.full_cell.ensures at c.fill_cells.ensures in
    let lines = c.fill_lines.ensures in
    let counters : Filled c.fill_lines.new.st _ row_half_at row_blacks_at c.args.size.n =
    filled _ c.fill.new.self _ _ _ (omega arith) (omega (arith, lines.size, cells.size)) (c.fill.ensures.after (search rules)) in
    fresh_done cells lines counters
    (filled _ _ row_blacks_at lengths_at _ (omega arith) (omega (arith, counters.size, lines.size, cells.size)) (c.fill-2.ensures.after (search rules)))
