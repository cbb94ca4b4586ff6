-- `text_numbers::value` meets its contract: the digits passed have the value v. Assumes nothing.
use Rattle.std.proofs.Common.{arith, ◌∙◌}
use Rattle.text_numbers.proofs.ValueLaws.{valued_other, valued_above, valued_next, valued_end, byte_ok}
use Rattle.text_numbers.proofs.value.Goals as goal

pub returns-then-not-is_ascii_digit : goal.returns-then-not-is_ascii_digit
returns-then-not-is_ascii_digit c = valued_other c.loop-b.invariant c.loop-b-test.true c.if-not-is_ascii_digit.ensures.cases

pub returns-then-v-gt255 : goal.returns-then-v-gt255
returns-then-v-gt255 c =
    let h = c.if-v-gt255.true in
    valued_above c.loop-b.invariant c.loop-b-test.true c.if-not-is_ascii_digit.ensures.cases (omega (arith, h, c.from.ensures))

pub loop-b-preserved : goal.loop-b-preserved
loop-b-preserved c =
    let h = c.if-v-gt255.false in
    valued_next c.loop-b.invariant c.loop-b-test.true c.if-not-is_ascii_digit.ensures.cases _ (omega (arith, c.from.ensures)) (omega (arith, h))

pub returns : goal.returns
returns c = c.ok.ensures.value ∙ byte_ok _ _ c.try_from.ensures c.loop-b.invariant.small ∙ valued_end c.loop-b.invariant c.loop-b-test.false
