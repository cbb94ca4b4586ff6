-- `text_numbers::decimal` meets its contract. Assumes nothing.
use Rattle.std.proofs.Common.{rules, ◌∙◌}
use Rattle.text_numbers.proofs.ValueLaws.{decimal_none, decimal_zero, decimal_one, decimal_more}
use Rattle.text_numbers.proofs.decimal.Goals as goal
use Rattle.text_numbers.proofs.decimal.Goals.{in_default-via-then-field-lt2, in_default-via-else-field-lt2+in_default-1}

pub returns-in-empty : goal.returns-in-empty
returns-in-empty c = search (rules, decimal_none)

pub returns-in-48 : goal.returns-in-48
returns-in-48 c = search (rules, decimal_zero)

pub returns-in_default : goal.returns-in_default
returns-in_default c =
    c.value.ensures ∙ elim c.in_default.branch [
      | in_default-via-then-field-lt2 w ↦ search (rules, decimal_one)
      | in_default-via-else-field-lt2+in_default-1 w ↦ search (rules, decimal_more)
    ]
