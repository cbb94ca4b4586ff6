-- `text_numbers::read_numbers` meets its contract: the fields passed are read. Assumes nothing.
use Rattle.std.proofs.Common.{rules, arith}
use Rattle.std.proofs.lemmas.Fn.{always_returns_same}
use Rattle.text_numbers.proofs.FieldLaws.{line_long, reading_start, reading_room, reading_none, reading_next, reading_end}
use Rattle.text_numbers.proofs.read_numbers.Goals as goal

pub returns-then-line-gt-LONGEST : goal.returns-then-line-gt-LONGEST
returns-then-line-gt-LONGEST c = search (rules, line_long)

pub loop-field-init : goal.loop-field-init
loop-field-init c =
    rw (c.into_iter-field-iterator.ensures.into_iter_gives, c.split-field-items.ensures.rest, c.split-field-items.ensures.done, c.clear.ensures)
    (reading_start c.args.line.now)

pub returns-in_err-decimal : goal.returns-in_err-decimal
returns-in_err-decimal c =
    rw c.from_residual.ensures
    (reading_none _ c.loop-field.field-iterator c.next.new.self c.in-Some.field (always_returns_same _ _ _ (λ a r q k. search rules)) c.in-Some.ensures.steps
    c.loop-field.invariant c.in_err-decimal.ensures c.if-line-gt-LONGEST.false)

pub push-requires : goal.push-requires
push-requires c =
    let room =
    reading_room _ c.loop-field.field-iterator c.next.new.self c.in-Some.field (always_returns_same _ _ _ (λ a r q k. search rules)) c.in-Some.ensures.steps
    c.loop-field.invariant in
    (search rules, omega (arith, room, c.if-line-gt-LONGEST.false))

pub loop-field-preserved : goal.loop-field-preserved
loop-field-preserved c =
    rw c.push.ensures.items
    (reading_next _ c.loop-field.field-iterator c.next.new.self c.in-Some.field (always_returns_same _ _ _ (λ a r q k. search rules)) c.in-Some.ensures.steps
    c.loop-field.invariant c.in_ok-decimal.ensures)

pub returns : goal.returns
returns c = rw c.deref.ensures.0 (reading_end c.loop-field.invariant c.in-None.ensures.steps.0 c.if-line-gt-LONGEST.false)
