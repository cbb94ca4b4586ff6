-- `sheet_marking::sum_meets` meets its contract. Assumes nothing.
use mathlib.Core.Path.{ap}
use Rattle.rules.specs.Grid.{meets}
use Rattle.rules.proofs.StridedLaws.{strided_length}
use Rattle.sheet_marking.proofs.FaultLaws.{fits_byte}
use Rattle.sheet_marking.proofs.sum_meets.Goals as goal

pub line_sum-requires : goal.line_sum-requires
line_sum-requires c = fits_byte _ _ c.requires.size (strided_length _ _ _ _) c.requires.is_lawful

pub returns : goal.returns
unfolding meets
returns c = ap (meets _) c.line_sum.ensures
