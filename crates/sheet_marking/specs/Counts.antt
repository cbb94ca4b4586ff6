-- How often each byte stands in a line, as one number. Assumes nothing.
use Rattle.std.specs.Prelude.{ℕ, ◌+◌, ◌*◌, ◌^◌, ◌≤◌, min, Bool, cond, List, map, ◌≡◌, length}
use Rattle.tally.specs.Tally.{sum}
use Rattle.rules.specs.Grid.{is_black}

-- the place of a byte: a black 0, an empty cell 1, digit d at d + 1, and every byte from 8 on at 9
unfoldable pub byte_place : ℕ → ℕ
byte_place c = cond (is_black c) 0 (min (c + 1) 9)

-- the counts of all places, the last four bits for place 0, the next four for place 1, and so on
unfoldable pub byte_counts : List ℕ → ℕ
byte_counts l = sum (map (λ c. 2 ^ (4 * byte_place c)) l)

-- m has the counts of the cells l, which are few enough for four bits
pub record CountsOf (m : ℕ) (l : List ℕ) : Type 0 where
  pub counts_are : m ≡ byte_counts l
  pub short : length l ≤ 9

-- r answers the test for every line that has the counts m
pub record CountsTell (m : ℕ) (test : List ℕ → Bool) (r : Bool) : Type 0 where
  pub told : (l : List ℕ) → CountsOf m l → r ≡ test l
