-- The masks in numbers. Assumes nothing.
use Prim.Native.Nat.{ℕ, ◌+◌, ◌-◌, ◌^◌, ◌≤◌, ◌<◌}
use mathlib.Core.Path.{◌≡◌, refl}
use mathlib.Core.Bool.{true}
use mathlib.Core.List.{List}
use native.Mathlib.Omega.{arith}
use lib.Dec.{eqb}
use borrow.Author.Tests.{eqb-true}
use Rattle.tally.specs.Tally.{span, sum, all}
use Rattle.tally.proofs.TallyLaws.{span_mem}
use Rattle.tally.proofs.WayLaws.{all_each}
use Rattle.rules.specs.Grid.{digits}
use Rattle.rules.proofs.SizeLaws.{at_size}
use Rattle.rules.specs.Size.{Size}
use Rattle.table.specs.Table.{half, every_value, mask_of}
use Rattle.bits.specs.Bit.{bit}

by_size : (f g : ℕ → ℕ) → all (λ n. eqb (f n) (g n)) (span 2 8) ≡ true → (n : ℕ) → Size n → f n ≡ g n
by_size f g t n s = eqb-true (f n) (g n) (at_size (λ n. eqb (f n) (g n)) t n s)

pub digits_mask : (n : ℕ) → Size n → 2 ^ (n - 1) - 2 ≡ mask_of (digits n)
unfolding mask_of digits span sum all
digits_mask = by_size (λ n. 2 ^ (n - 1) - 2) (λ n. mask_of (digits n)) refl

pub digits_small : (n : ℕ) → Size n → 2 ^ (n - 1) ≤ 256
unfolding span all
digits_small n s = let e = by_size (λ n. 2 ^ (n - 1) - 256) (λ n. 0) refl n s in omega arith

pub digits_two : (n : ℕ) → Size n → 2 ≤ 2 ^ (n - 1)
unfolding span all
digits_two n s = let e = by_size (λ n. 2 - 2 ^ (n - 1)) (λ n. 0) refl n s in omega arith

pub every_mask : (n : ℕ) → Size n → mask_of (digits n) + 768 + 3072 ≡ mask_of (every_value n)
unfolding mask_of half every_value digits span sum all
every_mask = by_size (λ n. mask_of (digits n) + 768 + 3072) (λ n. mask_of (every_value n)) refl

pub digits_most : (n : ℕ) → Size n → mask_of (digits n) ≤ 254
digits_most n s = omega (arith, digits_mask n s, digits_small n s)

-- the bits of a mask, computed at each size
pub mask_bits : (vs : ℕ → List ℕ) (f : ℕ → ℕ → ℕ) → all (λ n. all (λ v. eqb (bit v (mask_of (vs n))) (f n v)) (span 0 16)) (span 2 8) ≡ true →
    (n v : ℕ) → Size n → v < 16 → bit v (mask_of (vs n)) ≡ f n v
mask_bits vs f t n v s h =
    eqb-true _ _ (all_each (λ v. eqb (bit v (mask_of (vs n))) (f n v)) (span_mem 0 16 v (omega arith) (omega arith))
    (at_size (λ n. all (λ v. eqb (bit v (mask_of (vs n))) (f n v)) (span 0 16)) t n s))
