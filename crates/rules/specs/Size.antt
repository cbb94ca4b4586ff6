-- Sizes that pass the check. Assumes nothing.
use Rattle.std.specs.Prelude.{ℕ, ◌*◌, ◌≤◌}

-- a size of 2 to 9, and what follows for its grid
pub record Size (n : ℕ) : Type 0 where
  pub low : 2 ≤ n
  pub high : n ≤ 9
  pub square : n * n ≤ 81
