-- `grid_size::GridSize::max_target` meets its contract. Assumes nothing.
use mathlib.Core.Path.{refl}
use Rattle.rules.specs.Check.{max_target}
use Rattle.grid_size.proofs.GridSize.max_target.Goals as goal

pub returns : goal.returns
unfolding max_target
returns c = refl
