-- What the two walks for the sum of one line find. Assumes nothing.
use Rattle.std.specs.Prelude.{ℕ, ◌≤◌, ◌≡◌, List, drop}
use Rattle.tally.specs.Tally.{sum}
use Rattle.rules.specs.Grid.{until_black, inside}

-- r is the place behind the first black of the n cells l, or their end
pub record BehindBlack (r n : ℕ) (l : List ℕ) : Type 0 where
  pub in_line : r ≤ n
  pub between : inside l ≡ until_black (drop r l)

-- what lies between a place of the n cells l and the next black adds up to a byte
pub record ToBlackAsk (l : List ℕ) (n from : ℕ) : Type 0 where
  pub in_line : from ≤ n
  pub fits : sum (until_black (drop from l)) ≤ 255
