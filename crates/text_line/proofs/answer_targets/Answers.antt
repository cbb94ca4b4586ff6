-- `text_line::answer_targets` meets its contract. Assumes nothing.
use Rattle.std.proofs.Common.{sym, rules}
use native.Mathlib.Omega.{arith}
use Rattle.text_line.proofs.PuzzleTextLaws.{front_long, targets_solve}
use Rattle.text_line.proofs.answer_targets.Goals as goal

pub overflow_mul-area : goal.overflow_mul-area
overflow_mul-area g c = omega (arith, c.args.size.fits.square)

pub slice_bounds-cells-end : goal.slice_bounds-cells-end
slice_bounds-cells-end g c = c.args.size.fits.square

pub slice_bounds-solve_targets-end : goal.slice_bounds-solve_targets-end
slice_bounds-solve_targets-end g c = front_long _ _ c.args.size.fits.square

pub solve_targets-requires : goal.solve_targets-requires
solve_targets-requires g c = (search rules, targets_solve c.requires (sym (front_long _ _ c.args.size.fits.square)))
