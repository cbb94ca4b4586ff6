-- Lines by number, and what a line's number says of it. Assumes nothing.
use Prim.Native.Nat.{ℕ, ◌+◌, ◌*◌, ◌<◌}
use mathlib.Core.Path.{◌≡◌}
use mathlib.Core.Logic.{inl, inr}
use native.Mathlib.Omega.{arith}
use borrow.Author.Tests.{lt-ltb, le-ltb}
use Rattle.rules.specs.Grid.{Line, across, down, index}
use Rattle.rules.specs.Size.{Size}
use Rattle.table.specs.Table.{first_black}
use Rattle.table.specs.Lines.{row_of, column_of, line_number, line_at, cell_at, black_at, LineOf}

pub number_of : (n : ℕ) (ℓ : Line) → index ℓ < n → LineOf n (line_number ℓ)
unfolding LineOf line_number index
number_of n (across r) h = inl h
number_of n (down c) h = inr (omega arith, omega arith)

-- The line with number k is one of the grid, and its first black and its cells are those of k.
pub record Lined (n k : ℕ) : Type 0 where
  pub inside : index (line_at k) < n
  pub numbered : line_number (line_at k) ≡ k
  pub black : black_at k ≡ first_black (line_at k)
  pub cells : (i : ℕ) → cell_at k i ≡ row_of (line_at k) i * 9 + column_of (line_at k) i

pub lined : (n k : ℕ) → Size n → LineOf n k → Lined n k
unfolding LineOf line_at cell_at black_at first_black row_of column_of index line_number
lined n k z (inl h) =
    let q = lt-ltb k 9 (omega (arith, z.high)) in
    record { inside = rw q h; numbered = rw q; black = rw q; cells = λ i. rw q }
lined n k z (inr h) =
    let q = le-ltb k 9 h.0 in
    record { inside = rw q (omega (arith, h.0, h.1)); numbered = rw q (omega (arith, h.0)); black = rw q; cells = λ i. rw q }
