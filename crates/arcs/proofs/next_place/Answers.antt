-- `arcs::next_place` meets its contract. Assumes nothing.
use mathlib.Core.Path.{sym}
use Rattle.words.proofs.StepLaws.{after_wraps, after_next}
use Rattle.arcs.proofs.next_place.Goals as goal

pub returns-then-p-n : goal.returns-then-p-n
returns-then-p-n c = sym (after_wraps _ _ c.if-p-n.true)

pub returns-else-p-n : goal.returns-else-p-n
returns-else-p-n c = sym (after_next _ _ c.if-p-n.false)
