-- What the sum of a line is asked of. Assumes nothing.
use Rattle.std.specs.Prelude.{ℕ, ◌≡◌, true, List}
use Rattle.rules.specs.Grid.{lawful}
use Rattle.rules.specs.Size.{Size}

-- a lawful line of size n
pub record LawfulAsk (n : ℕ) (l : List ℕ) : Type 0 where
  pub size : Size n
  pub is_lawful : lawful n l ≡ true
