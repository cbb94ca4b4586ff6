-- The bits of a number. Assumes nothing.
use Rattle.std.specs.Prelude.{ℕ, ◌/◌, ◌%◌, ◌^◌}

-- Bit k of x: 0 or 1.
unfoldable pub bit : ℕ → ℕ → ℕ
bit k x = x / 2 ^ k % 2
