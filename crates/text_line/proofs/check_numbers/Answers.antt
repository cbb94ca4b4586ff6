-- `text_line::check_numbers` meets its contract. Assumes nothing.
use Rattle.std.proofs.Common.{sym, ◌∙◌}
use Rattle.text_line.proofs.LineLaws.{form_1, form_2, form_0}
use Rattle.text_line.proofs.check_numbers.Goals as goal

pub returns-in_default : goal.returns-in_default
returns-in_default c = form_1 _ c.from-n.ensures (sym c.in_default.ensures.made)

pub returns-then-numbers-n : goal.returns-then-numbers-n
returns-then-numbers-n c = form_2 _ c.from-n.ensures c.requires (sym c.in-Some.ensures.made) c.if-numbers-n.true

pub returns : goal.returns
returns c =
    (form_0 _ c.from-n.ensures c.requires (sym c.in-Some.ensures.made) c.if-numbers-n.false, c.in-Some.ensures.is ∙ c.from-n.ensures)
