-- The grids of a puzzle. Assumes nothing.
use Rattle.std.specs.Prelude.{ℕ, ◌*◌, ◌≡◌, true, List}
use Rattle.tally.specs.Way.{Way}
use Rattle.rules.specs.Grid.{Puzzle, keeps}
use Rattle.rules.specs.Short.{symbols}

-- A grid of black and digits that keeps the puzzle.
pub record GridOf (p : Puzzle) (g : List ℕ) : Type 0 where
  pub filled : Way (symbols p.size) (p.size * p.size) g
  pub kept : keeps p g ≡ true
