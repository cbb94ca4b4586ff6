-- Reading a table: how many candidates a half has, and the grid of a settled table. Assumes nothing.
use Rattle.std.specs.Prelude.{ℕ, ◌*◌, ◌/◌, ◌%◌, ◌<◌, ◌≡◌, Bool, List, map, ltb}
use Rattle.tally.specs.Tally.{span, sum, count, first}
use Rattle.rules.specs.Grid.{black, digits}
use Rattle.rules.specs.Mark.{left_black, upper_black}
use Rattle.table.specs.Table.{Table, half}

-- How many candidates of the half with first black k a cell has.
unfoldable pub choices : ℕ → ℕ → (ℕ → Bool) → ℕ
choices n k cands = count cands (half n k)

-- The cell that settled candidates stand for: their digit, or black.
unfoldable pub read_cell : ℕ → (ℕ → Bool) → ℕ
read_cell n cands = first cands black (digits n)

-- The grid of a settled table.
unfoldable pub read_off : ℕ → Table → List ℕ
read_off n t = map (λ i. read_cell n (t (i / n) (i % n))) (span 0 (n * n))

-- Each half has one candidate.
pub record AllSettled (n : ℕ) (t : Table) : Type 0 where
  pub rows : (r c : ℕ) → r < n → c < n → choices n left_black (t r c) ≡ 1
  pub columns : (r c : ℕ) → r < n → c < n → choices n upper_black (t r c) ≡ 1

-- How many cells have two or more row_half candidates.
unfoldable pub open_cells : ℕ → Table → ℕ
open_cells n t = count (λ i. ltb 1 (choices n left_black (t (i / n) (i % n)))) (span 0 (n * n))

-- How many row_half candidates there are.
unfoldable pub total : ℕ → Table → ℕ
total n t = sum (map (λ i. choices n left_black (t (i / n) (i % n))) (span 0 (n * n)))
