-- The lowest bit of a mask, taken. Assumes nothing.
use Prim.Native.Nat.{ℕ, ◌-◌, ◌*◌, ◌%◌, ◌^◌, ◌≤◌, ◌<◌}
use mathlib.Core.Path.{◌≡◌, ap}
use native.Mathlib.Omega.{arith}
use lib.Count.{count_trailing_zeros}
use lib.Pow.{pow_pos}
use Rattle.bits.specs.Bit.{bit}
use Rattle.bits.proofs.BitLaws.{bit_le, bit_taken, bit_kept, shl_one, Lowest, trailing_lowest}
use Rattle.value.specs.Mask.{LowestOf}

-- `next` as the code writes it
module _ (m : ℕ) (h : m < 2 ^ 16) (p : (m ≡ 0) → ⊥) where
  lowest : Lowest 16 m (count_trailing_zeros 16 m)
  lowest = trailing_lowest 16 m h (omega arith)

  pub lowest_enough : 1 * 2 ^ count_trailing_zeros 16 m % 65536 ≤ m
  lowest_enough = rw (shl_one _ lowest.in_width) (bit_le _ m lowest.here)

  pub lowest_taken : LowestOf m (count_trailing_zeros 16 m) (m - 1 * 2 ^ count_trailing_zeros 16 m % 65536)
  lowest_taken = record { value = lowest.in_width; here = lowest.here; below = lowest.below; others = ap (λ b. m - b) (shl_one _ lowest.in_width) }

-- what a loop over the bits of a mask knows of the others
module _ {m v rest : ℕ} (l : LowestOf m v rest) where
  pub rest_less : rest < m
  rest_less = omega (arith, l.others, bit_le v m l.here, pow_pos v)

  pub rest_without : bit v rest ≡ 0
  rest_without = rw l.others (bit_taken v m l.here)

  pub rest_keeps : (w : ℕ) → (w ≡ v → ⊥) → bit w rest ≡ bit w m
  rest_keeps w d = rw l.others (bit_kept v m w l.here d)
