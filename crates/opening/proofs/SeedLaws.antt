-- Striking the candidates without support, cell by cell. Assumes nothing.
use Prim.Native.Nat.{ℕ, ◌+◌, ◌-◌, ◌*◌, ◌/◌, ◌%◌, ◌^◌, min, max, ◌≤◌, ◌<◌}
use mathlib.Core.Path.{◌≡◌, refl, sym, ap, ap₂, ◌∙◌}
use mathlib.Core.Logic.{◌⊎◌, inl, inr, ⊎_elim}
use mathlib.Core.Bool.{Bool, true, ◌&&◌, cond}
use mathlib.Core.List.{List}
use native.Mathlib.Omega.{arith}
use native.Mathlib.Decide.{ℕ_discrete, dec_lt}
use lib.Dec.{eqb, ltb}
use lib.ListN.{get_or}
use lib.Bits.{bit_and, bit_or}
use borrow.Author.Tests.{eqb-true, lt-ltb, le-ltb}
use Rattle.tally.specs.Tally.{span, all}
use Rattle.tally.proofs.TallyLaws.{span_mem, and_left, and_right}
use Rattle.tally.proofs.WayLaws.{all_each}
use Rattle.bits.specs.Bit.{bit}
use Rattle.bits.proofs.BitLaws.{bit_lt, bit_and_lem, bit_or_lem, bit_none, bit_pow_same, bit_pow_other, shl_one}
use Rattle.queue_state.specs.Layout.{counters_at, support_place}
use Rattle.queue_state.specs.Slab.{Struck, Masked}
use Rattle.queue_state.proofs.StruckLaws.{struck_none, struck_both, struck_as}
use Rattle.arcs.specs.Arc.{support}
use Rattle.table.specs.Value.{HalfOf}
use Rattle.opening.specs.Opening.{Lacks, Bare, along_row, along_column, BareCell, BareIn, BareTo}

-- ---- the values without support at a place

pub lacks_start : (l : List ℕ) (y : ℕ) → Lacks l y 0 0
lacks_start l y = record { below = λ v h. absurd (omega arith); above = λ v h k. bit_none v }

module _ {l : List ℕ} {y k m : ℕ} (d : Lacks l y k m) (h : k < 16) where
  pub lacks_more : support l y k ≡ 0 → Lacks l y (k + 1) (bit_or m (1 * 2 ^ k % 65536))
  lacks_more e =
      rw (shl_one k h) (record {
        below = λ v i. old v i (ℕ_discrete v k);
        above = λ v i j. bit_or_lem v m (2 ^ k) ∙ omega (arith, d.above v (omega arith) j, bit_pow_other v k (λ x. omega arith));
      })
    where
      old : (v : ℕ) → v < k + 1 → Dec (v ≡ k) → bit v (bit_or m (2 ^ k)) ≡ 1 - support l y v
      old v i (yes x) = rw x (bit_or_lem k m (2 ^ k) ∙ omega (arith, bit_pow_same k, bit_lt k m))
      old v i (no x) = bit_or_lem v m (2 ^ k) ∙ omega (arith, d.below v (omega arith), bit_pow_other v k x)

  pub lacks_same : (support l y k ≡ 0 → ⊥) → Lacks l y (k + 1) m
  lacks_same e = record { below = λ v i. old v i (ℕ_discrete v k); above = λ v i j. d.above v (omega arith) j }
    where
      old : (v : ℕ) → v < k + 1 → Dec (v ≡ k) → bit v m ≡ 1 - support l y v
      old v i (yes x) = rw x (d.above k (omega arith) h ∙ omega arith)
      old v i (no x) = d.below v (omega arith)

-- ---- one cell

-- the bits of the masks of row blacks, column blacks and digits
has : ℕ → ℕ → ℕ → ℕ → Bool
has v x y z = eqb (bit v 768) x && (eqb (bit v 3072) y && eqb (bit v 255) z)

mask_test : ℕ → Bool
mask_test v = cond (ltb v 8) (has v 0 0 1) (cond (ltb v 10) (has v 1 0 0) (cond (ltb v 12) (has v 0 1 0) (has v 0 0 0)))

mask_tests : all mask_test (span 0 16) ≡ true
unfolding mask_test has span all bit
mask_tests = refl

module _ (v : ℕ) (h : v < 16) where
  tested : mask_test v ≡ true
  tested = all_each mask_test (span_mem 0 16 v (omega arith) (omega arith)) mask_tests

  bits : (x y z : ℕ) → has v x y z ≡ true → (bit v 768 ≡ x) × (bit v 3072 ≡ y) × (bit v 255 ≡ z)
  unfolding has
  bits x y z t =
      let u = and_right (eqb (bit v 768) x) _ t in
      (eqb-true _ _ (and_left (eqb (bit v 768) x) _ t), eqb-true _ _ (and_left (eqb (bit v 3072) y) _ u), eqb-true _ _ (and_right (eqb (bit v 3072) y) _ u))

  mask_digit : v < 8 → (bit v 768 ≡ 0) × (bit v 3072 ≡ 0) × (bit v 255 ≡ 1)
  unfolding mask_test
  mask_digit a = bits 0 0 1 (rw (lt-ltb v 8 a) at tested)

  mask_row : 8 ≤ v → v < 10 → (bit v 768 ≡ 1) × (bit v 3072 ≡ 0) × (bit v 255 ≡ 0)
  unfolding mask_test
  mask_row a b = bits 1 0 0 (rw (le-ltb v 8 a, lt-ltb v 10 b) at tested)

  mask_column : 10 ≤ v → v < 12 → (bit v 768 ≡ 0) × (bit v 3072 ≡ 1) × (bit v 255 ≡ 0)
  unfolding mask_test
  mask_column a b = bits 0 1 0 (rw (le-ltb v 8 (omega arith), le-ltb v 10 a, lt-ltb v 12 b) at tested)

  mask_none : 12 ≤ v → (bit v 768 ≡ 0) × (bit v 3072 ≡ 0) × (bit v 255 ≡ 0)
  unfolding mask_test
  mask_none a = bits 0 0 0 (rw (le-ltb v 8 (omega arith), le-ltb v 10 (omega arith), le-ltb v 12 a) at tested)

-- the mask of the values to strike, from those without support in the row and in the column
abbrev pub bare_mask : ℕ → ℕ → ℕ
bare_mask a b = bit_or (bit_or (bit_and a 768) (bit_and b 3072)) (bit_and (bit_or a b) 255)

bare_bit : (a b v : ℕ) → bit v (bare_mask a b) ≡ max (max (min (bit v a) (bit v 768)) (min (bit v b) (bit v 3072))) (min (max (bit v a) (bit v b)) (bit v 255))
bare_bit a b v =
    bit_or_lem v _ _
    ∙ ap₂ max (bit_or_lem v _ _ ∙ ap₂ max (bit_and_lem v a 768) (bit_and_lem v b 3072)) (bit_and_lem v (bit_or a b) 255 ∙ ap (λ x. min x (bit v 255)) (bit_or_lem v a b))

-- the four cases, as numbers
module _ (a b x y z m : ℕ) (e : m ≡ max (max (min a x) (min b y)) (min (max a b) z)) where
  take_digit : (x ≡ 0) × (y ≡ 0) × (z ≡ 1) → a < 2 → b < 2 → m ≡ max a b
  take_digit q h k = omega (arith, q.0, q.1, q.2)

  take_row : (x ≡ 1) × (y ≡ 0) × (z ≡ 0) → a < 2 → m ≡ a
  take_row q h = omega (arith, q.0, q.1, q.2)

  take_column : (x ≡ 0) × (y ≡ 1) × (z ≡ 0) → b < 2 → m ≡ b
  take_column q h = omega (arith, q.0, q.1, q.2)

  take_none : (x ≡ 0) × (y ≡ 0) × (z ≡ 0) → m ≡ 0
  take_none q = omega (arith, q.0, q.1, q.2)

module _ (l : List ℕ) (r c a b : ℕ) (la : Lacks l (r * 9 + c) 12 a) (lb : Lacks l ((9 + c) * 9 + r) 12 b) where
  at_digit : (v : ℕ) → v < 8 → bit v (bare_mask a b) ≡ max (1 - support l (r * 9 + c) v) (1 - support l ((9 + c) * 9 + r) v)
  at_digit v h =
      take_digit _ _ _ _ _ _ (bare_bit a b v) (mask_digit v (omega arith) h) (bit_lt v a) (bit_lt v b)
      ∙ ap₂ max (la.below v (omega arith)) (lb.below v (omega arith))

  at_row : (v : ℕ) → 8 ≤ v → v < 10 → bit v (bare_mask a b) ≡ 1 - support l (r * 9 + c) v
  at_row v h k = take_row _ _ _ _ _ _ (bare_bit a b v) (mask_row v (omega arith) h k) (bit_lt v a) ∙ la.below v (omega arith)

  at_column : (v : ℕ) → 10 ≤ v → v < 12 → bit v (bare_mask a b) ≡ 1 - support l ((9 + c) * 9 + r) v
  at_column v h k = take_column _ _ _ _ _ _ (bare_bit a b v) (mask_column v (omega arith) h k) (bit_lt v b) ∙ lb.below v (omega arith)

  -- what the mask has is without support
  mask_bare : (x v : ℕ) → x / 9 ≡ r → x % 9 ≡ c → v < 16 → bit v (bare_mask a b) ≡ 1 → Bare l x v
  unfolding HalfOf
  mask_bare x v ex ey h t = go (dec_lt v 8) (dec_lt v 10) (dec_lt v 12)
    where
      row : (v < 8) ⊎ ((8 ≤ v) × (v < 8 + 2)) → support l (r * 9 + c) v ≡ 0 → Bare l x v
      row i e = along_row i (rw (ex, ey) e)

      column : (v < 8) ⊎ ((10 ≤ v) × (v < 10 + 2)) → support l ((9 + c) * 9 + r) v ≡ 0 → Bare l x v
      column i e = along_column i (rw (ex, ey) e)

      digit : v < 8 → Dec (support l (r * 9 + c) v ≡ 0) → Bare l x v
      digit i (yes e) = row (inl i) e
      digit i (no e) = column (inl i) (omega (arith, at_digit v i))

      go : Dec (v < 8) → Dec (v < 10) → Dec (v < 12) → Bare l x v
      go (yes i) _ _ = digit i (ℕ_discrete (support l (r * 9 + c) v) 0)
      go (no i) (yes j) _ = row (inr (omega arith, omega arith)) (omega (arith, at_row v (omega arith) j))
      go (no i) (no j) (yes k) = column (inr (omega arith, omega arith)) (omega (arith, at_column v (omega arith) k))
      go (no i) (no j) (no k) = absurd (omega (arith, take_none _ _ _ _ _ _ (bare_bit a b v) (mask_none v h (omega arith))))

  -- and it has all of those
  bare_mask_lem : (x v : ℕ) → x / 9 ≡ r → x % 9 ≡ c → Bare l x v → bit v (bare_mask a b) ≡ 1
  unfolding HalfOf
  bare_mask_lem x v ex ey (along_row i e) =
      let f : support l (r * 9 + c) v ≡ 0 = rw (ex, ey) at e in
      ⊎_elim (λ h. at_digit v h ∙ omega arith) (λ h. at_row v h.0 (omega (arith, h.1)) ∙ omega arith) i
  bare_mask_lem x v ex ey (along_column i e) =
      let f : support l ((9 + c) * 9 + r) v ≡ 0 = rw (ex, ey) at e in
      ⊎_elim (λ h. at_digit v h ∙ omega arith) (λ h. at_column v h.0 (omega (arith, h.1)) ∙ omega arith) i

  -- so clearing the mask strikes those, and nothing else
  pub cell_struck : c < 9 → {l' : List ℕ} → Struck l l' (Masked (r * 9 + c) (bare_mask a b)) → Struck l l' (BareCell l (r * 9 + c))
  unfolding Masked BareCell
  cell_struck h s =
      struck_as s
      (λ x v k q. (q.0, mask_bare x v (omega (arith, q.0)) (omega (arith, q.0)) k q.1))
      (λ x v k q. inl (q.0, bare_mask_lem x v (omega (arith, q.0)) (omega (arith, q.0)) q.1))

-- ---- cell by cell, and row by row

-- the supports are where strikes leave them
bare_same : {l l' : List ℕ} → ((p : ℕ) → counters_at ≤ p → get_or l' p 0 ≡ get_or l p 0) → (x v : ℕ) → Bare l' x v → Bare l x v
bare_same e x v (along_row i f) = along_row i (sym (e (support_place (x / 9 * 9 + x % 9) v) (omega arith)) ∙ f)
bare_same e x v (along_column i f) = along_column i (sym (e (support_place ((9 + x % 9) * 9 + x / 9) v) (omega arith)) ∙ f)

bare_back : {l l' : List ℕ} → ((p : ℕ) → counters_at ≤ p → get_or l' p 0 ≡ get_or l p 0) → (x v : ℕ) → Bare l x v → Bare l' x v
bare_back e x v b = bare_same (λ p h. sym (e p h)) x v b

pub row_start : (l : List ℕ) (r : ℕ) → Struck l l (BareIn l r 0)
unfolding BareIn
row_start l r = struck_none l _ (λ x v h q. absurd (omega (arith, q.1)))

pub row_next : {l₀ l l' : List ℕ} (r c : ℕ) → c < 9 → Struck l₀ l (BareIn l₀ r c) → Struck l l' (BareCell l (r * 9 + c)) → Struck l₀ l' (BareIn l₀ r (c + 1))
unfolding BareIn BareCell
row_next {l₀} {l} r c h p q =
    struck_as (struck_both p q)
    (λ x v i. ⊎_elim (λ b. (b.0, omega (arith, b.1), b.2)) (λ b. (omega (arith, b.0), omega (arith, b.0), bare_same p.rest x v b.1)))
    (λ x v i b. inl (split x v b (dec_lt (x % 9) c)))
  where
    split : (x v : ℕ) → (x / 9 ≡ r) × (x % 9 < c + 1) × Bare l₀ x v → Dec (x % 9 < c) →
        ((x / 9 ≡ r) × (x % 9 < c) × Bare l₀ x v) ⊎ ((x ≡ r * 9 + c) × Bare l x v)
    split x v b (yes d) = inl (b.0, d, b.2)
    split x v b (no d) = inr (omega (arith, b.0, b.1), bare_back p.rest x v b.2)

pub queue_start : (l : List ℕ) (n : ℕ) → Struck l l (BareTo l n 0)
unfolding BareTo
queue_start l n = struck_none l _ (λ x v h q. absurd (omega (arith, q.0)))

pub queue_next : {l₀ l l' : List ℕ} (n r : ℕ) → Struck l₀ l (BareTo l₀ n r) → Struck l l' (BareIn l r n) → Struck l₀ l' (BareTo l₀ n (r + 1))
unfolding BareIn BareTo
queue_next {l₀} {l} n r p q =
    struck_as (struck_both p q)
    (λ x v i. ⊎_elim (λ b. (omega (arith, b.0), b.1, b.2)) (λ b. (omega (arith, b.0), b.1, bare_same p.rest x v b.2)))
    (λ x v i b. inl (split x v b (dec_lt (x / 9) r)))
  where
    split : (x v : ℕ) → (x / 9 < r + 1) × (x % 9 < n) × Bare l₀ x v → Dec (x / 9 < r) →
        ((x / 9 < r) × (x % 9 < n) × Bare l₀ x v) ⊎ ((x / 9 ≡ r) × (x % 9 < n) × Bare l x v)
    split x v b (yes d) = inl (d, b.1, b.2)
    split x v b (no d) = inr (omega (arith, b.0), b.1, bare_back p.rest x v b.2)
