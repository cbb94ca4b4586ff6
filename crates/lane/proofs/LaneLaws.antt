-- The cells and the first black of a line, by its number. Assumes nothing.
use Prim.Native.Nat.{ℕ, ◌+◌, ◌-◌, ◌*◌, ◌/◌, ◌%◌, ◌≤◌, ◌<◌}
use mathlib.Core.Path.{◌≡◌, ◌∙◌}
use mathlib.Core.Logic.{◌⊎◌, inl, inr}
use native.Mathlib.Omega.{arith}
use native.Mathlib.Decide.{dec_lt}
use borrow.Author.Tests.{lt-ltb, le-ltb}
use Rattle.table.specs.Lines.{cell_at, black_at}
use Rattle.lane.specs.declared.Lane.{Lane}

pub cell_row : (ℓ p : ℕ) → ℓ < 9 → cell_at ℓ p ≡ ℓ * 9 + p
unfolding cell_at
cell_row ℓ p h = rw (lt-ltb ℓ 9 h)

pub cell_column : (ℓ p : ℕ) → 9 ≤ ℓ → cell_at ℓ p ≡ p * 9 + (ℓ - 9)
unfolding cell_at
cell_column ℓ p h = rw (le-ltb ℓ 9 h)

pub cell_in : (ℓ p : ℕ) → ℓ < 18 → p < 9 → cell_at ℓ p < 81
cell_in ℓ p h k = elim (dec_lt ℓ 9) [ yes r ↦ omega (arith, cell_row ℓ p r) | no r ↦ omega (arith, cell_column ℓ p (omega arith)) ]

-- a cell by its row, and by its column
pub cell_by_row : (x : ℕ) → x < 81 → cell_at (x / 9) (x % 9) ≡ x
cell_by_row x h = cell_row (x / 9) (x % 9) (omega arith) ∙ omega arith

pub cell_by_column : (x : ℕ) → cell_at (9 + x % 9) (x / 9) ≡ x
cell_by_column x = cell_column (9 + x % 9) (x / 9) (omega arith) ∙ omega arith

-- no other line has it
pub lines_through : (ℓ p x : ℕ) → ℓ < 18 → p < 9 → cell_at ℓ p ≡ x → (ℓ ≡ x / 9) ⊎ (ℓ ≡ 9 + x % 9)
lines_through ℓ p x h k e =
    elim (dec_lt ℓ 9) [ yes r ↦ inl (omega (arith, cell_row ℓ p r)) | no r ↦ inr (omega (arith, cell_column ℓ p (omega arith))) ]

-- a line has a cell at one place only
pub cell_once : (ℓ p q : ℕ) → cell_at ℓ p ≡ cell_at ℓ q → p ≡ q
cell_once ℓ p q e =
    elim (dec_lt ℓ 9) [
      | yes h ↦ omega (arith, cell_row ℓ p h, cell_row ℓ q h)
      | no h ↦ omega (arith, cell_column ℓ p (omega arith), cell_column ℓ q (omega arith))
    ]

pub black_row : (ℓ : ℕ) → ℓ < 9 → black_at ℓ ≡ 8
unfolding black_at
black_row ℓ h = rw (lt-ltb ℓ 9 h)

pub black_column : (ℓ : ℕ) → 9 ≤ ℓ → black_at ℓ ≡ 10
unfolding black_at
black_column ℓ h = rw (le-ltb ℓ 9 h)

-- the places of a line are cells
pub lane_in : (lane : Lane) (p : ℕ) → p < 9 → lane.start + p * lane.stride < 81
lane_in lane p h = omega (arith, lane.cells p h, cell_in lane.number p lane.within h)
