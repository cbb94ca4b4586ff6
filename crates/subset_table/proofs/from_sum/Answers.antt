-- `subset_table::from_sum` meets its contract. Assumes nothing.
use mathlib.Core.Path.{◌∙◌}
use Rattle.subset_table.proofs.SubsetFacts.{sum_begins}
use Rattle.subset_table.proofs.from_sum.Goals as goal

pub returns : goal.returns
returns c = c.from.ensures ∙ sum_begins c.args.k c.requires
