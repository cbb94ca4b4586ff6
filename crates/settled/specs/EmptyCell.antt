-- A cell with no candidate left in one of its halves leaves no grid. Assumes nothing.
use Rattle.std.specs.Prelude.{ℕ, ◌≡◌, false}
use mathlib.Core.List.{Memᴰ}
use Rattle.table.specs.Table.{Table, every_value}

-- A cell has no candidate among the values of size n.
abbrev pub Empty : ℕ → Table → ℕ → ℕ → Type 0
Empty n t r c = (v : ℕ) → Memᴰ v (every_value n) → t r c v ≡ false
