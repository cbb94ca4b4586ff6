-- What the steps of reading give. Assumes nothing.
use Rattle.std.specs.Prelude.{ℕ, ◌&&◌, List, leb, Option}
use Rattle.std.specs.Bool.{then_some}
use Rattle.tally.specs.Tally.{all}
use Rattle.text_rules.specs.Fields.{is_digit, value_from}

-- The value of digits behind those that have the value v, if there is no other byte and the value is at most 255.
unfoldable pub value_if : ℕ → List ℕ → Option ℕ
value_if v f = then_some (all is_digit f && leb (value_from v f) 255) (value_from v f)
