-- The one bit that a number and a mask share. Assumes nothing.
use Prim.Native.Nat.{ℕ, ◌^◌, min, ◌<◌}
use mathlib.Core.Path.{◌≡◌, sym, ap, ◌∙◌}
use native.Mathlib.Omega.{arith}
use native.Mathlib.Decide.{ℕ_discrete}
use lib.Bits.{bit_and, and_lt}
use lib.Count.{ones, count_trailing_zeros}
use Rattle.bits.specs.Bit.{bit}
use Rattle.bits.proofs.BitLaws.{bit_lt, bit_and_lem, bit_pow_same, bit_pow_other, ones_one, ones_sum, trailing_pow}
use Rattle.bits.proofs.SumLaws.{sum_one}

-- Bit k is the only one of x within the mask m.
pub record LoneBit (x m k : ℕ) : Type 0 where
  pub narrow : k < 16
  pub here : bit k x ≡ 1
  pub within : bit k m ≡ 1
  pub only : (j : ℕ) → bit j x ≡ 1 → bit j m ≡ 1 → j ≡ k

-- where one bit is counted, it is the lowest
pub lone_bit : (x m : ℕ) → x < 2 ^ 16 → m < 2 ^ 16 → ones (bit_and x m) ≡ 1 → LoneBit x m (count_trailing_zeros 16 (bit_and x m))
lone_bit x m hx hm e = let w = ones_one 16 (bit_and x m) (and_lt 16 x m hx hm) e in go w.0 w.1 w.2
  where
    go : (k : ℕ) → k < 16 → bit_and x m ≡ 2 ^ k → LoneBit x m (count_trailing_zeros 16 (bit_and x m))
    go k h p =
        let t : count_trailing_zeros 16 (bit_and x m) ≡ k = ap (count_trailing_zeros 16) p ∙ trailing_pow 16 k h in
        let b : min (bit k x) (bit k m) ≡ 1 = sym (bit_and_lem k x m) ∙ ap (bit k) p ∙ bit_pow_same k in
        rw t (record {
          narrow = h;
          here = omega (arith, bit_lt k x, bit_lt k m);
          within = omega (arith, bit_lt k x, bit_lt k m);
          only = λ j a c. same j a c
              (ℕ_discrete j k);
        })
      where
        same : (j : ℕ) → bit j x ≡ 1 → bit j m ≡ 1 → Dec (j ≡ k) → j ≡ k
        same j a c (yes d) = d
        same j a c (no d) = absurd (omega (arith, sym (bit_and_lem j x m) ∙ ap (bit j) p ∙ bit_pow_other j k d))

-- where a bit is alone, one is counted
pub bit_alone : (x m k : ℕ) → x < 2 ^ 16 → m < 2 ^ 16 → k < 16 → bit k x ≡ 1 → bit k m ≡ 1 → ((j : ℕ) → j < 16 → bit j m ≡ 1 → (j ≡ k → ⊥) → bit j x ≡ 0) → ones
    (bit_and x m) ≡ 1
bit_alone x m k hx hm hk a b f =
    ones_sum 16 (bit_and x m) (and_lt 16 x m hx hm)
    ∙ sum_one 0 16 k (λ (j : ℕ). bit j (bit_and x m)) (omega arith) (omega arith) (bit_and_lem k x m ∙ omega arith)
    (λ j p q d. bit_and_lem j x m ∙ none j (omega arith) d (ℕ_discrete (bit j m) 1))
  where
    none : (j : ℕ) → j < 16 → (j ≡ k → ⊥) → Dec (bit j m ≡ 1) → min (bit j x) (bit j m) ≡ 0
    none j h d (yes e) = omega (arith, f j h e d)
    none j h d (no e) = omega (arith, bit_lt j m)
