-- What is picked: a value of a cell that is open, the first in the sequence of values that still has a choice, at its rightmost place. Assumes nothing.
use Rattle.std.specs.Prelude.{ℕ, ◌+◌, ◌*◌, ◌/◌, ◌%◌, ◌≤◌, ◌<◌, ◌≡◌, Option, Some, None}
use mathlib.Core.List.{List}
use Rattle.rules.specs.Order.{RowValue, row_value, sequence}
use Rattle.grid_order.specs.Split.{Split}
use Rattle.bits.specs.Sum.{sum_over}
use Rattle.queue_state.specs.Slab.{cand}
use Rattle.value.specs.declared.Candidate.{Candidate}

-- How many row_half candidates a cell has: digits and row blacks are the values 1 to 9.
unfoldable pub row_choices : List ℕ → ℕ → ℕ
row_choices l x = sum_over 1 9 (λ v. cand l x v)

-- A row_half candidate of a cell.
pub record RowCandidate (l : List ℕ) (x v : ℕ) : Type 0 where
  pub low : 1 ≤ v
  pub high : v < 10
  pub has : cand l x v ≡ 1

-- A row_half candidate of a cell that is open: it has two or more.
pub record Open (l : List ℕ) (x v : ℕ) : Type 0 where
  pub many : 2 ≤ row_choices l x
  pub candidate : RowCandidate l x v

-- A value of a row has no choice left: no open cell has it.
pub record Decided (n : ℕ) (l : List ℕ) (s : RowValue) : Type 0 where
  pub none_open : (c : ℕ) → c < n → Open l (s.row * 9 + c) s.value → ⊥

-- The values before this one in the sequence have no choice left.
abbrev pub Foremost : ℕ → List ℕ → RowValue → Type 0
Foremost n l s = Split s (sequence n) (Decided n l)

-- What may be branched on: of an open cell of row r, in column c, the value v; no value before it in the sequence has a choice left, and no open cell further
-- right in the row has the value.
pub record Branch (n : ℕ) (l : List ℕ) (r c v : ℕ) : Type 0 where
  pub row_in : r < n
  pub column_in : c < n
  pub open_here : Open l (r * 9 + c) v
  pub foremost : Foremost n l (row_value r v)
  pub rightmost : (j : ℕ) → c < j → j < n → Open l (r * 9 + j) v → ⊥

-- What is picked: a branch, or nothing where no cell of the grid is open.
abbrev pub Picked : ℕ → List ℕ → Option Candidate → Type 0
Picked n l (Some x) = Branch n l x.row x.column x.value
Picked n l None = (x : ℕ) → x / 9 < n → x % 9 < n → row_choices l x ≤ 1
