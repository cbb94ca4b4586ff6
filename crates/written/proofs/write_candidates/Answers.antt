-- `written::write_candidates` meets its contract. Assumes nothing.
use mathlib.Core.Path.{◌∙◌}
use borrow.Author.Rules.{rules}
use Rattle.written.specs.Published.{published, mask_at}
use Rattle.written.proofs.MaskLaws.{published_whole}
use Rattle.written.proofs.RowLaws.{rows_are}
use Rattle.written.proofs.write_candidates.Goals as goal

pub returns : goal.returns
unfolding published
returns c =
    published_whole c.args.view.ready (λ row column h k. let e = c.write_rows.ensures row column 0 h k in search rules)
    (rows_are c.args.view.n (mask_at c.args.view.n c.args.view.st.now) _ (c.write_rows.auto.table ∙ c.requires)
    (λ row column h k. let e = c.write_rows.ensures row column 0 h k in search rules))
