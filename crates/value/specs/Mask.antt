-- Candidate masks: the bits of some values. Assumes nothing.
use Rattle.std.specs.Prelude.{ℕ, ◌-◌, ◌^◌, ◌<◌, ◌≡◌}
use Rattle.bits.specs.Bit.{bit}

-- v is the lowest bit of the mask m, and rest is the mask of the others.
pub record LowestOf (m v rest : ℕ) : Type 0 where
  pub value : v < 16
  pub here : bit v m ≡ 1
  pub below : (j : ℕ) → j < v → bit j m ≡ 0
  pub others : rest ≡ m - 2 ^ v
