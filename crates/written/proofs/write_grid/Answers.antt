-- `written::write_grid` meets its contract. Assumes nothing.
use mathlib.Core.Path.{◌∙◌}
use borrow.Author.Rules.{rules}
use Rattle.table.specs.Reading.{read_off}
use Rattle.written.specs.Published.{cell_byte}
use Rattle.written.proofs.RowLaws.{rows_are}
use Rattle.written.proofs.write_grid.Goals as goal

pub returns : goal.returns
unfolding read_off
returns c =
    rows_are c.args.view.n (cell_byte c.args.view.n c.args.view.st.now) _ (c.write_rows.auto.table ∙ c.requires)
    (λ row column h k. let e = c.write_rows.ensures row column 0 h k in search rules)
