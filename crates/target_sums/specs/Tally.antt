-- The tally of a line, one number from which all its checks and its sum can be told. Assumes nothing.
use Rattle.std.specs.Prelude.{ℕ, ⊤, ◌+◌, ◌*◌, ◌/◌, ◌%◌, ◌≤◌, ◌<◌, ◌≡◌, List, [], ◌∷◌, ◌++◌, get_or, length, Result}
use Rattle.tally.specs.Tally.{count, one_if}
use Rattle.refusal.specs.declared.Refusal.{Refusal}
use Rattle.rules.specs.Grid.{is_black, inside, line_sum}
use Rattle.rules.specs.Check.{check_line}
use Rattle.rules.specs.CheckParts.{is_empty}
use Rattle.puzzle.specs.Accepted.{Passed}
use Rattle.grid_lines.specs.declared.Line.{Line}
use Rattle.grid_lines.specs.Cells.{line_cells}

-- What a cell between the blacks adds to the tally of its line: 1048576 if it is empty, else 256 times its number.
abbrev pub weight : ℕ → ℕ
weight c = 1048576 * one_if (is_empty c) + 256 * c

-- No tally of nine cells is greater.
abbrev pub most : ℕ
most = 16777216

-- t is the tally of the cells l, one for each black and the weights of the cells between; no more blacks, empty cells or sum stand there than k cells can have.
pub record Seen (t k : ℕ) (l : List ℕ) : Type 0 where
  pub tally_is : t ≡ count is_black l + (1048576 * count is_empty (inside l) + 256 * line_sum l)
  pub few_blacks : count is_black l ≤ k
  pub few_empties : count is_empty (inside l) ≤ k
  pub small_sum : line_sum l ≤ 255 * k

-- The sum that stands in a tally.
abbrev pub tallied_sum : ℕ → ℕ
tallied_sum t = t / 256 % 256

-- A weight is added to a tally of one black, and to no other.
pub record AddedBetween (t v r : ℕ) : Type 0 where
  pub one_black : t % 256 ≡ 1 → r ≡ t + v
  pub other : (t % 256 ≡ 1 → ⊥) → r ≡ t

-- Where t is the tally of at most eight cells, r is that of the cells and of one more, c.
pub record OneMore (t c r : ℕ) : Type 0 where
  pub seen : (k : ℕ) (l : List ℕ) → k ≤ 8 → Seen t k l → Seen r (k + 1) (l ++ c ∷ [])

-- There is a tally for each of n columns, and it has room for one cell more.
pub record RowAddAsk (n : ℕ) (down : List ℕ) : Type 0 where
  pub room : n ≤ length down
  pub small : (j : ℕ) → j < n → get_or down j 0 ≤ most

-- t is the tally of a row, and each of its cells is added to the tally of its column.
pub record RowAdded (row : Line) (t : ℕ) (old new : List ℕ) : Type 0 where
  pub row_seen : Seen t row.len (line_cells row)
  pub columns_more : (j : ℕ) → j < row.len → OneMore (get_or old j 0) (get_or row.cells.now (row.start + j * row.stride) 0) (get_or new j 0)

-- The answer to the checks of each line with this tally, of no more than nine cells can have, and where they pass its sum is the one in the tally.
pub record Told (t : ℕ) (answer : Result ⊤ Refusal) : Type 0 where
  pub told : (k : ℕ) (l : List ℕ) → k ≤ 9 → Seen t k l → Passed (check_line l) (λ done. tallied_sum t ≡ line_sum l) answer
