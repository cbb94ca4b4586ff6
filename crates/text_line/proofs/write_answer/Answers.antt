-- `text_line::write_answer` meets its contract. Assumes nothing.
use Rattle.std.proofs.Common.{◌≡◌, refl, ap, ◌∙◌, rules}
use native.Mathlib.Omega.{arith}
use Rattle.std.specs.Prelude.{Ok}
use Rattle.engine.specs.declared.Verdict.TheVariants.{Unsolvable, Unique, Multiple}
use Rattle.text_line.proofs.PuzzleTextLaws.{answer_ask, answer_put}
use Rattle.text_line.proofs.write_answer.Goals as goal

pub write_solved-requires : goal.write_solved-requires
write_solved-requires g c =
    let e : c.args.answer ≡ Ok Unique = c.in-Ok-Unique.is ∙ ap Ok (rw c.in-Ok-Unique.is at c.in-Ok-Unique.field-0-is) in
    (search rules, answer_ask c.requires e refl 7 (omega arith))

pub write_solved-requires-in-Ok-Multiple : goal.write_solved-requires-in-Ok-Multiple
write_solved-requires-in-Ok-Multiple g c =
    let e : c.args.answer ≡ Ok Multiple = c.in-Ok-Multiple.is ∙ ap Ok (rw c.in-Ok-Multiple.is at c.in-Ok-Multiple.field-0-is) in
    (search rules, answer_ask c.requires e refl 9 (omega arith))

pub returns-in-Ok-Unsolvable : goal.returns-in-Ok-Unsolvable
returns-in-Ok-Unsolvable g c =
    let e : c.args.answer ≡ Ok Unsolvable = c.in-Ok-Unsolvable.is ∙ ap Ok (rw c.in-Ok-Unsolvable.is at c.in-Ok-Unsolvable.field-0-is) in
    answer_put _ _ _ e c.write_text.ensures

pub returns-in-Ok-Unique : goal.returns-in-Ok-Unique
returns-in-Ok-Unique g c =
    let e : c.args.answer ≡ Ok Unique = c.in-Ok-Unique.is ∙ ap Ok (rw c.in-Ok-Unique.is at c.in-Ok-Unique.field-0-is) in
    answer_put _ _ _ e c.write_solved.ensures

pub returns-in-Ok-Multiple : goal.returns-in-Ok-Multiple
returns-in-Ok-Multiple g c =
    let e : c.args.answer ≡ Ok Multiple = c.in-Ok-Multiple.is ∙ ap Ok (rw c.in-Ok-Multiple.is at c.in-Ok-Multiple.field-0-is) in
    answer_put _ _ _ e c.write_solved-in-Ok-Multiple.ensures

pub returns-in-Err : goal.returns-in-Err
returns-in-Err g c = answer_put _ _ _ c.in-Err.is (rw c.number.ensures at c.write_refused.ensures)
