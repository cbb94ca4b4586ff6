-- The masks that are written stand for the table. Assumes nothing.
use Prim.Native.Nat.{ℕ, ◌+◌, ◌-◌, ◌*◌, ◌/◌, ◌%◌, ◌^◌, ◌≤◌, ◌<◌}
use mathlib.Core.Path.{◌≡◌, sym, ap, ◌∙◌}
use mathlib.Core.Bool.{true}
use mathlib.Core.Logic.{inl, inr}
use mathlib.Core.List.{List, Memᴰ}
use native.Mathlib.Omega.{arith}
use native.Mathlib.Decide.{dec_lt}
use native.Mathlib.Nat.{mul-le-mul, mod-eq_of_lt, mod-lt, add_comm}
use lib.Arith.{digits_div, digits_mod}
use lib.Dec.{eqb}
use lib.ListN.{get_or}
use lib.Pow.{pow_pos, pow_mono, shr-shr, shr_lt, split, high, low, field, mod-mod-pow}
use borrow.Author.Tests.{lt-ltb, le-ltb, eqb-true}
use Rattle.tally.proofs.TallyLaws.{map_at}
use Rattle.rules.specs.Grid.{cell}
use Rattle.rules.proofs.GridLaws.{place_lt}
use Rattle.rules.specs.Size.{Size}
use Rattle.value.proofs.MaskLaws.{digits_small}
use Rattle.table.specs.Table.{every_value, bit_of, has_bit, table_of}
use Rattle.bits.specs.Bit.{bit}
use Rattle.bits.proofs.BitLaws.{bit_le, bits_none}
use Rattle.line_laws.proofs.CellValues.{value_of}
use Rattle.queue_state.specs.Slab.{table_in}
use Rattle.queue_state.proofs.SlabLaws.{cand_in}
use Rattle.queue_state.proofs.ReadyLaws.{ready_valid, ready_unused}
use Rattle.queue_state.specs.Ready.{Ready}
use Rattle.table.specs.Value.{ValueOf}
use Rattle.written.specs.Published.{mask, published, PublishedTable}

-- ---- as the code writes it

module _ (m n : ℕ) (h : m < 65536) (s : Size n) where
  shifted_most : m / 256 * 2 ^ (n - 1) ≤ 65280
  shifted_most = let q : m / 256 ≤ 255 = omega arith in mul-le-mul q (digits_small n s)

  pub mask_shifted : m / 256 * 2 ^ (n - 1) % 65536 ≡ m / 256 * 2 ^ (n - 1)
  mask_shifted = mod-eq_of_lt (omega (arith, shifted_most))

  pub mask_room : m % 256 + m / 256 * 2 ^ (n - 1) % 65536 < 65536
  mask_room = omega (arith, mask_shifted, shifted_most)

  pub mask_is : m % 256 + m / 256 * 2 ^ (n - 1) % 65536 ≡ mask n m
  unfolding mask
  mask_is = ap (λ k. m % 256 + k) mask_shifted

-- ---- bits of a number in two parts

bit_high : (k j x : ℕ) → bit j (x / 2 ^ k) ≡ bit (k + j) x
unfolding bit
bit_high k j x = ap (λ y. y % 2) (shr-shr x k j)

-- the bits below w do not change where the rest goes
bit_low : (w v x : ℕ) → v < w → bit v (x % 2 ^ w) ≡ bit v x
unfolding bit
bit_low w v x h =
    let e : w ≡ w - v + v = omega arith in
    let g : w - v ≡ w - v - 1 + 1 = omega arith in
    ap (λ k. x % 2 ^ k / 2 ^ v % 2) e ∙ ap (λ y. y % 2) (field x (w - v) v) ∙ ap (λ k. x / 2 ^ v % 2 ^ k % 2) g ∙ mod-mod-pow (x / 2 ^ v) (w - v - 1) 1

-- a number whose bits from k on are not set
below : (w k x : ℕ) → k ≤ w → x < 2 ^ w → ((j : ℕ) → k ≤ j → j < w → bit j x ≡ 0) → x < 2 ^ k
below w k x g h e =
    let q : w ≡ w - k + k = omega arith in
    let none : x / 2 ^ k ≡ 0 = bits_none (w - k) (x / 2 ^ k) (shr_lt (w - k) k (rw q at h)) (λ j l. bit_high k j x ∙ e (k + j) (omega arith) (omega arith)) in
    let p : x ≡ x % 2 ^ k = sym (split x k) ∙ rw none (omega arith) in
    rw p (mod-lt x (pow_pos k))

-- ---- the bits of a value in its mask

module _ (n : ℕ) (s : Size n) (m : ℕ) (small : m % 256 < 2 ^ (n - 1)) where
  turned : mask n m ≡ m / 256 * 2 ^ (n - 1) + m % 256
  unfolding mask
  turned = add_comm (m % 256) (m / 256 * 2 ^ (n - 1))

  digit_bit : (v : ℕ) → v < n - 1 → bit v (mask n m) ≡ bit v m
  digit_bit v h =
      ap (bit v) turned
      ∙ sym (bit_low (n - 1) v (m / 256 * 2 ^ (n - 1) + m % 256) h)
      ∙ ap (bit v) (low (m / 256) (n - 1) small)
      ∙ bit_low 8 v m (omega (arith, s.high))

  black_bit : (v : ℕ) → 8 ≤ v → bit (n + v - 9) (mask n m) ≡ bit v m
  black_bit v h =
      let e : n + v - 9 ≡ n - 1 + (v - 8) = omega (arith, s.low) in
      let g : 8 + (v - 8) ≡ v = omega arith in
      ap (λ k. bit k (mask n m)) e
      ∙ ap (bit (n - 1 + (v - 8))) turned
      ∙ sym (bit_high (n - 1) (v - 8) (m / 256 * 2 ^ (n - 1) + m % 256))
      ∙ ap (bit (v - 8)) (high (m / 256) (n - 1) small)
      ∙ bit_high 8 (v - 8) m
      ∙ ap (λ k. bit k m) g

  pub value_bit : (v : ℕ) → ValueOf n v → bit (bit_of n v) (mask n m) ≡ bit v m
  unfolding ValueOf bit_of
  value_bit v (inl w) = rw (lt-ltb v 8 (omega (arith, w, s.high))) (digit_bit v w.1)
  value_bit v (inr w) = rw (le-ltb v 8 w.0) (black_bit v w.0)

-- ---- the table

module _ {n : ℕ} {l : List ℕ} (s : Ready n l) (r c : ℕ) (row : r < n) (column : c < n) where
  place : r * 9 + c < 81
  place = omega (arith, s.size.high)

  digits_below : get_or l (r * 9 + c) 0 % 256 < 2 ^ (n - 1)
  digits_below =
      below 8 (n - 1) (get_or l (r * 9 + c) 0 % 256) (omega (arith, s.size.high)) (mod-lt (get_or l (r * 9 + c) 0) (omega arith))
      (λ j h g. bit_low 8 j (get_or l (r * 9 + c) 0) g ∙ sym (cand_in l (r * 9 + c) j place) ∙ ready_unused s (r * 9 + c) j h g)

  written_mask : cell n (published n l) r c ≡ mask n (get_or l (r * 9 + c) 0)
  unfolding cell published
  written_mask =
      let z : 0 + (r * n + c) ≡ r * n + c = omega arith in
      map_at (λ i. mask n (get_or l (i / n * 9 + i % n) 0)) 0 (n * n) (r * n + c) (place_lt n r c row column)
      ∙ rw (z, digits_div r column, digits_mod r column)

  -- The masks that are written stand for the state's table.
  pub published_table : (v : ℕ) → Memᴰ v (every_value n) → table_of n (published n l) r c v ≡ table_in l r c v
  unfolding table_of has_bit table_in bit
  published_table v m =
      ap (λ k. eqb k 1) (
      ap (bit (bit_of n v)) written_mask
      ∙ value_bit n s.size (get_or l (r * 9 + c) 0) digits_below v (value_of n v m)
      ∙ sym (cand_in l (r * 9 + c) v place))

  -- Each bit that is written is that of a value.
  pub published_plain : get_or l (r * 9 + c) 0 < 65536 → (b : ℕ) → has_bit (cell n (published n l) r c) b ≡ true → (v : ℕ) × ValueOf n v × (bit_of n v ≡ b)
  unfolding has_bit bit_of bit
  published_plain small b e =
      let m : ℕ = get_or l (r * 9 + c) 0 in
      let z = s.size in
      let set : bit b (mask n m) ≡ 1 = ap (bit b) (sym written_mask) ∙ eqb-true _ _ e in
      let there : (v : ℕ) → v < 16 → bit v m ≡ 1 → ValueOf n v = λ v h q. (ready_valid s (r * 9 + c) v h (cand_in l (r * 9 + c) v place ∙ q)).value in
      elim (dec_lt b (n - 1)) [
        | yes h ↦
            (b, there b (omega (arith, z.high)) (sym (digit_bit n z m digits_below b h) ∙ set), rw (lt-ltb b 8 (omega (arith, z.high))))
        | no h ↦
            let v : ℕ = b - (n - 1) + 8 in
            let back : n + v - 9 ≡ b = omega (arith, z.low) in
            let q : bit v m ≡ 1 = sym (black_bit n z m digits_below v (omega arith)) ∙ ap (λ k. bit k (mask n m)) back ∙ set in
            elim (dec_lt v 16) [
              | yes g ↦ (v, there v g q, rw (le-ltb v 8 (omega arith)) back)
              | no g ↦ absurd (let p : 2 ^ 16 ≤ 2 ^ v = pow_mono {i = 16} {j = v} (omega arith) in omega (arith, bit_le v m q, p))
            ]
      ]

pub published_whole : {n : ℕ} {l table : List ℕ} → Ready n l → ((r c : ℕ) → r < n → c < n → get_or l (r * 9 + c) 0 < 65536) →
    table ≡ published n l → PublishedTable n l table
published_whole {n} {l} s small e =
    record { masks = e; plain = λ r c h k b q. published_plain s r c h k (small r c h k) b (ap (λ t. has_bit (cell n t r c) b) (sym e) ∙ q) }
