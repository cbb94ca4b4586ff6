-- The lines of a grid as lines and by number, and their places as cells. Assumes nothing.
use Rattle.std.specs.Prelude.{ℕ, ◌+◌, ◌*◌, ◌-◌, ◌≤◌, ◌<◌, ◌⊎◌, Bool, cond, ltb}
use Rattle.rules.specs.Grid.{Line, across, down}

-- The part of a table that a line has: place and value.
abbrev pub Places : Type 0
Places = ℕ → ℕ → Bool

-- ---- places of a line as cells

-- The row of place i of a line.
unfoldable pub row_of : Line → ℕ → ℕ
row_of (across r) i = r
row_of (down c) i = i

-- Its column.
unfoldable pub column_of : Line → ℕ → ℕ
column_of (across r) i = i
column_of (down c) i = c

-- Its cell, in a grid that is 9 wide.
abbrev pub cell_of : Line → ℕ → ℕ
cell_of (across r) i = r * 9 + i
cell_of (down c) i = i * 9 + c

-- ---- lines by number: the rows are 0 to 8, the columns 9 to 17

-- The number of a line.
unfoldable pub line_number : Line → ℕ
line_number (across r) = r
line_number (down c) = 9 + c

-- The line with number ℓ.
unfoldable pub line_at : ℕ → Line
line_at ℓ = cond (ltb ℓ 9) (across ℓ) (down (ℓ - 9))

-- The cell at place p of line ℓ.
unfoldable pub cell_at : ℕ → ℕ → ℕ
cell_at ℓ p = cond (ltb ℓ 9) (ℓ * 9 + p) (p * 9 + (ℓ - 9))

-- The first black of line ℓ.
unfoldable pub black_at : ℕ → ℕ
black_at ℓ = cond (ltb ℓ 9) 8 10

-- The lines of size n.
unfoldable pub LineOf : ℕ → ℕ → Type 0
LineOf n ℓ = (ℓ < n) ⊎ ((9 ≤ ℓ) × (ℓ < 9 + n))
