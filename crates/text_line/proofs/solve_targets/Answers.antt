-- `text_line::solve_targets` meets its contract. Assumes nothing.
use mathlib.Core.Path.{◌∙◌}
use borrow.Author.Rules.{rules}
use Rattle.text_line.proofs.PuzzleTextLaws.{rows_long, solve_shown, solve_text}
use Rattle.text_line.proofs.solve_targets.Goals as goal

pub slice_bounds-solve-end : goal.slice_bounds-solve-end
slice_bounds-solve-end g c = rows_long c.requires

pub invariant_of-write_answer : goal.invariant_of-write_answer
invariant_of-write_answer g c = record { few = c.args.size.fits.high; square = c.solve-answer.auto.cells ∙ c.requires.square }

pub write_answer-requires : goal.write_answer-requires
write_answer-requires g c = (search rules, solve_shown _ c.requires (rw c.hall.ensures at c.solve-answer.ensures) c.solve-answer.auto.cells c.args.size.fits)

pub returns : goal.returns
returns g c = solve_text _ c.requires (rw c.hall.ensures at c.solve-answer.ensures) c.solve-answer.auto.cells c.write_answer.ensures
