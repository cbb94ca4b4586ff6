-- `target_sums::line_sum` meets its contract. Assumes nothing.
use mathlib.Core.Path.{sym, ap, ◌∙◌}
use native.Mathlib.Omega.{arith}
use Rattle.tally.specs.Tally.{sum}
use Rattle.rules.specs.Grid.{line_sum}
use Rattle.target_sums.proofs.line_sum.Goals as goal

pub sum_to_black-requires : goal.sum_to_black-requires
unfolding line_sum
sum_to_black-requires c = record { in_line = c.past_black-from.ensures.in_line; fits = omega (arith, ap sum c.past_black-from.ensures.between) }

pub returns : goal.returns
unfolding line_sum
returns c = c.sum_to_black.ensures ∙ sym (ap sum c.past_black-from.ensures.between)
