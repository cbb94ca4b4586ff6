-- `text_line::answer_line` meets its contract. Assumes nothing.
use Rattle.std.proofs.Common.{arith}
use Rattle.refusal.specs.declared.Refusal.TheVariants.{TextLine}
use Rattle.text_line.proofs.LineLaws.{refused_text, given, text_11}
use Rattle.text_line.proofs.answer_line.Goals as goal

pub returns-in-Err-TextLine : goal.returns-in-Err-TextLine
returns-in-Err-TextLine g c =
    given (omega (arith, c.remaining_capacity.ensures))
    (refused_text TextLine (rw c.in-Err-TextLine.field-0-is at c.in-Err-TextLine.ensures.0) (text_11 c.args.out.now.items (rw c.in-Err-TextLine.ensures.1 at c.write_text.ensures)))

pub returns-in-Err : goal.returns-in-Err
returns-in-Err g c =
    given (omega (arith, c.remaining_capacity.ensures))
    (refused_text _ c.in-Err.ensures.0 (rw (c.number.ensures, c.in-Err.ensures.1) at c.write_refused.ensures))
