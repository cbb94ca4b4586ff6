-- The code's tests on words, bit by bit. Assumes nothing.
use Prim.Native.Nat.{ℕ, suc, ◌+◌, ◌-◌, ◌*◌, ◌/◌, ◌%◌, ◌^◌, ◌≤◌, ◌<◌}
use mathlib.Core.Path.{◌≡◌, sym, ap, ◌∙◌}
use mathlib.Core.Bool.{cond}
use native.Mathlib.Omega.{arith}
use native.Mathlib.Decide.{ℕ_discrete}
use lib.Dec.{eqb}
use lib.Bits.{bit_and, bit_or, and_lt, and_le_l, or_lt}
use lib.Count.{count_trailing_zeros}
use lib.Pow.{pow-lt, pow-add, shr-shr, field, mod-mod-pow, shl_exact}
use borrow.Author.Tests.{eq-eqb, ne_eqb}
use Rattle.bits.specs.Bit.{bit}
use Rattle.bits.proofs.BitLaws.{bit_lt, bit_and_lem, bit_or_lem, bit_ext, bit_pow_same, bit_pow_other, bit_none, trailing_lowest}
use Rattle.bits.specs.Sum.{same}
use Rattle.words.proofs.CodeLaws.{shl_one}
use Rattle.words.specs.Word.{set_of, inner_of, part, shift_of}
use Rattle.words.proofs.PatternLaws.{part_digit, part_first, part_second}
use Rattle.arcs.specs.Have.{test_of}

-- ---- bits of a field

pub bit_mod : (k j x : ℕ) → bit k (x % 2 ^ (suc j + k)) ≡ bit k x
unfolding bit
bit_mod k j x = ap (λ (y : ℕ). y % 2) (field x (suc j) k) ∙ (let e : suc j ≡ j + 1 = omega arith in rw e (mod-mod-pow (x / 2 ^ k) j 1))

pub set_bit : (w v : ℕ) → v < 8 → bit v (set_of w) ≡ bit v w
set_bit w v h =
    let e : suc (7 - v) + v ≡ 8 = omega arith in
    let q : bit v (w % 2 ^ 8) ≡ bit v w = rw e at (bit_mod v (7 - v) w) in
    q

pub inner_bit : (w p : ℕ) → p < 9 → bit p (inner_of w) ≡ bit (8 + p) w
unfolding bit
inner_bit w p h = low ∙ ap (λ (y : ℕ). y % 2) (shr-shr w 8 p)
  where
    low : w / 256 % 512 / 2 ^ p % 2 ≡ w / 2 ^ 8 / 2 ^ p % 2
    low =
        let e : suc (8 - p) + p ≡ 9 = omega arith in
        rw e at (bit_mod p (8 - p) (w / 256))

-- ---- one number of two bits

pub test_code : (v p : ℕ) → v < 8 → p < 9 → bit_or (1 * 2 ^ v % 4294967296) (256 * 2 ^ p % 4294967296) ≡ test_of v p
test_code v p h k =
    let a : 256 * 2 ^ p % 4294967296 ≡ 256 * 2 ^ p = shl_exact {a = 256} 9 p 32 (omega arith) (omega arith) in
    let b : 256 * 2 ^ p ≡ 2 ^ (8 + p) = sym (pow-add 2 8 p) in
    rw (shl_one v (omega arith), a, b)

module _ (w v p : ℕ) (h : v < 8) (k : p < 9) where
  test_lt : test_of v p < 2 ^ 32
  test_lt = or_lt 32 (2 ^ v) (2 ^ (8 + p)) (pow-lt {j = 32} (omega arith)) (pow-lt {j = 32} (omega arith))

  at_v : bit v (test_of v p) ≡ 1
  at_v = omega (arith, bit_or_lem v (2 ^ v) (2 ^ (8 + p)), bit_pow_same v, bit_lt v (2 ^ (8 + p)))

  at_p : bit (8 + p) (test_of v p) ≡ 1
  at_p = omega (arith, bit_or_lem (8 + p) (2 ^ v) (2 ^ (8 + p)), bit_pow_same (8 + p), bit_lt (8 + p) (2 ^ v))

  -- the test passes where the word has the digit, and the place is an inner one
  pub test_taken : bit_and w (test_of v p) ≡ test_of v p → (bit v (set_of w) ≡ 1) × (bit p (inner_of w) ≡ 1)
  test_taken e = (
    omega (arith, ap (bit v) e, bit_and_lem v w (test_of v p), at_v, set_bit w v h, bit_lt v w),
    omega (arith, ap (bit (8 + p)) e, bit_and_lem (8 + p) w (test_of v p), at_p, inner_bit w p k, bit_lt (8 + p) w),
  )

  test_passes : w < 2 ^ 32 → bit v (set_of w) ≡ 1 → bit p (inner_of w) ≡ 1 → bit_and w (test_of v p) ≡ test_of v p
  test_passes l a b = bit_ext 32 (bit_and w (test_of v p)) (test_of v p) (and_lt 32 w (test_of v p) l test_lt) test_lt
      (λ i q. each i (ℕ_discrete i v) (ℕ_discrete i (8 + p)))
    where
      each : (i : ℕ) → Dec (i ≡ v) → Dec (i ≡ 8 + p) → bit i (bit_and w (test_of v p)) ≡ bit i (test_of v p)
      each i (yes e) _ =
          let x : bit i w ≡ 1 = ap (λ i. bit i w) e ∙ sym (set_bit w v h) ∙ a in
          omega (arith, bit_and_lem i w (test_of v p), bit_lt i (test_of v p))
      each i (no d) (yes e) =
          let x : bit i w ≡ 1 = ap (λ i. bit i w) e ∙ sym (inner_bit w p k) ∙ b in
          omega (arith, bit_and_lem i w (test_of v p), bit_lt i (test_of v p))
      each i (no d) (no e) =
          omega (arith, bit_and_lem i w (test_of v p), bit_or_lem i (2 ^ v) (2 ^ (8 + p)), bit_pow_other i v d, bit_pow_other i (8 + p) e)

  pub test_left : (f : ℕ) → w < 2 ^ 32 → (bit_and w (test_of v p) ≡ test_of v p → ⊥) → part f w p v ≡ 0
  test_left f l d = go (ℕ_discrete (part f w p v) 0)
    where
      go : Dec (part f w p v ≡ 0) → part f w p v ≡ 0
      go (yes e) = e
      go (no e) =
          let q = part_digit f w p v h in
          absurd (d (test_passes l (omega (arith, bit_lt v (set_of w), bit_lt p (inner_of w))) (omega (arith, bit_lt v (set_of w), bit_lt p (inner_of w)))))

-- ---- two masks

pub apart : (a b : ℕ) → bit_and a b ≡ 0 → (i : ℕ) → bit i a ≡ 1 → bit i b ≡ 0
apart a b e i q = omega (arith, bit_and_lem i a b, ap (bit i) e, bit_none i, bit_lt i b)

pub meeting : (width a b : ℕ) → a < 2 ^ width → (bit_and a b ≡ 0 → ⊥) → (i : ℕ) × (i < width) × (bit i a ≡ 1) × (bit i b ≡ 1)
meeting width a b h d =
    let x = bit_and a b in
    let w = trailing_lowest width x (omega (arith, and_le_l a b)) (omega arith) in
    let i = count_trailing_zeros width x in
    let q = bit_and_lem i a b in
    (i, w.in_width, omega (arith, w.here, bit_lt i a), omega (arith, w.here, bit_lt i b))

-- ---- the place of a black

pub shift_part : (k w p v : ℕ) → 8 ≤ k → k ≤ v → v < k + 2 → part k w p v ≡ same (w / 2 ^ shift_of k v % 16) p
unfolding shift_of
shift_part k w p v h a b = go (ℕ_discrete v k)
  where
    go : Dec (v ≡ k) → part k w p v ≡ same (w / 2 ^ cond (eqb v k) 17 21 % 16) p
    go (yes e) = rw (eq-eqb v k e) (ap (λ v. part k w p v) e ∙ part_first k w p h)
    go (no e) = let q : v ≡ suc k = omega arith in rw (ne_eqb v k e) (ap (λ v. part k w p v) q ∙ part_second k w p h)
