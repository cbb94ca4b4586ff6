-- `host::target_sums` meets its contract. Assumes nothing.
use mathlib.Core.Path.{◌∙◌}
use Rattle.host.proofs.NumberLaws.{sums_given}
use Rattle.host.proofs.target_sums.Goals as goal

pub returns : goal.returns
returns c =
    let t = c.compute_targets.ensures in
    sums_given (c.number_of.ensures ∙ t.answer_is) t.rows_are t.columns_are
