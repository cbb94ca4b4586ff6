-- The values of a line's half of a cell, by its first black. Assumes nothing.
use Rattle.std.specs.Prelude.{ℕ, ◌+◌, Bool, ◌&&◌, ◌||◌, leb, ltb}

-- One of a line's own blacks.
abbrev pub lane_black : ℕ → ℕ → Bool
lane_black first v = leb first v && ltb v (first + 2)

-- A value of a line's half of a cell: a digit, or one of its own blacks.
abbrev pub lane_value : ℕ → ℕ → Bool
lane_value first v = ltb v 8 || lane_black first v
