-- What holds in the loop of `text_numbers::value`: the digits passed have the value v.
use Rattle.text_numbers.proofs.ValueLaws.{Valued}
use Rattle.text_numbers.proofs.value.Given as goal

abbrev pub invariant-loop-b : goal.invariant-loop-b
invariant-loop-b l = Valued l.field l.v l.b-index
