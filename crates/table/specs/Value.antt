-- The values of a cell at size n and those of a line's half, by their lists and by their numbers. Assumes nothing.
use Rattle.std.specs.Prelude.{ℕ, ◌+◌, ◌-◌, ◌≤◌, ◌<◌, ◌⊎◌}
use mathlib.Core.List.{Memᴰ}
use Rattle.rules.specs.Grid.{Line}
use Rattle.table.specs.Table.{first_black, half, every_value}

-- A value of a cell.
abbrev pub IsValue : ℕ → ℕ → Type 0
IsValue n v = Memᴰ v (every_value n)

-- The same by its number: a digit or a black.
unfoldable pub ValueOf : ℕ → ℕ → Type 0
ValueOf n v = ((1 ≤ v) × (v < n - 1)) ⊎ ((8 ≤ v) × (v < 12))

-- A value of the half of a line.
abbrev pub InHalf : ℕ → Line → ℕ → Type 0
InHalf n ℓ v = Memᴰ v (half n (first_black ℓ))

-- By its number, where k is the half's first black: a digit, or one of the line's own blacks.
unfoldable pub HalfOf : ℕ → ℕ → Type 0
HalfOf k v = (v < 8) ⊎ ((k ≤ v) × (v < k + 2))
