-- A table and a grid as they are written, row by row. Assumes nothing.
use Rattle.std.specs.Prelude.{ℕ, ◌+◌, ◌-◌, ◌*◌, ◌/◌, ◌%◌, ◌^◌, ◌<◌, ◌≡◌, true, List, map, get_or}
use Rattle.tally.specs.Tally.{span}
use Rattle.rules.specs.Grid.{cell}
use Rattle.table.specs.Table.{has_bit, bit_of}
use Rattle.table.specs.Reading.{read_cell}
use Rattle.queue_state.specs.Slab.{table_in}
use Rattle.table.specs.Value.{ValueOf}

-- The mask of a cell as it is written: the digits keep their bits, the blacks move from 8 .. 11 to n - 1 .. n + 2.
unfoldable pub mask : ℕ → ℕ → ℕ
mask n m = m % 256 + m / 256 * 2 ^ (n - 1)

-- The masks of all cells, row by row.
unfoldable pub published : ℕ → List ℕ → List ℕ
published n l = map (λ i. mask n (get_or l (i / n * 9 + i % n) 0)) (span 0 (n * n))

-- A table is written: the masks of all cells, with no bit that is not a value's.
pub record PublishedTable (n : ℕ) (l table : List ℕ) : Type 0 where
  pub masks : table ≡ published n l
  pub plain : (r c : ℕ) → r < n → c < n → (b : ℕ) → has_bit (cell n table r c) b ≡ true → (v : ℕ) × ValueOf n v × (bit_of n v ≡ b)

-- The mask that is written for the cell of row r and column c; the cell that is.
abbrev pub mask_at : ℕ → List ℕ → ℕ → ℕ → ℕ
mask_at n l r c = mask n (get_or l (r * 9 + c) 0)

-- The byte of a cell of a settled table.
abbrev pub cell_byte : ℕ → List ℕ → ℕ → ℕ → ℕ
cell_byte n l r c = read_cell n (table_in l r c)
