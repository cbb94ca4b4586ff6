-- What has a text, and what can be written where there is room. Assumes nothing.
use Rattle.std.specs.Prelude.{ℕ, ◌+◌, ◌≤◌, ◌<◌, ◌≡◌, Bool, true, ◌||◌, cond, List, ◌∷◌, eqb, leb, length}
use Rattle.tally.specs.Tally.{all}
use Rattle.rules.specs.Grid.{is_black}

-- A cell that has a text: black, or below 10.
abbrev pub shown : ℕ → Bool
shown c = is_black c || leb c 9

-- The same as a statement.
abbrev pub Shown : ℕ → Type 0
Shown c = shown c ≡ true

-- A row's text behind its separator, which the first row has not.
unfoldable pub led : ℕ → List ℕ → List ℕ
led r t = cond (eqb r 0) t (47 ∷ t)

-- Cells that have a text, and room for it.
pub record CellsAsk (row : List ℕ) (room : ℕ) : Type 0 where
  pub cells : all shown row ≡ true
  pub fits : length row ≤ room

-- The same with a separator.
pub record RowAsk (row : List ℕ) (room : ℕ) : Type 0 where
  pub cells : all shown row ≡ true
  pub fits : length row < room

-- The cells of a grid that has a text, and room for it.
pub record GridAsk (g : List ℕ) (room : ℕ) : Type 0 where
  pub cells : all shown g ≡ true
  pub fits : 90 ≤ room

-- The same behind a verdict, given by its length.
pub record SolvedAsk (verdict : ℕ) (g : List ℕ) (room : ℕ) : Type 0 where
  pub cells : all shown g ≡ true
  pub fits : verdict + 90 ≤ room
