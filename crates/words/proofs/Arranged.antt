-- The pattern of a word is that of its arrangement. Assumes nothing.
use Prim.Native.Nat.{ℕ, zero, suc, ◌+◌, ◌-◌, ◌/◌, ◌%◌, ◌≤◌, ◌<◌}
use mathlib.Core.Path.{◌≡◌, refl, sym, ap, ◌∙◌}
use mathlib.Core.Bool.{Bool, true, false, ◌||◌, cond, true≢false}
use mathlib.Core.List.{List, [], ◌∷◌, Memᴰ}
use native.Mathlib.Omega.{arith}
use native.Mathlib.Decide.{dec_lt, dec_le, ℕ_discrete}
use lib.Dec.{eqb, ltb}
use lib.ListN.{length, get_or}
use borrow.Author.Tests.{lt-ltb, le-ltb, le-leb, lt-leb, eq-eqb, ne_eqb}
use Rattle.tally.specs.Tally.{span, any, keep}
use Rattle.tally.proofs.TallyLaws.{any_mem, any_in}
use Rattle.bits.specs.Bit.{bit}
use Rattle.bits.proofs.BitLaws.{bit_zero}
use Rattle.table.specs.Closed.{place, allows}
use Rattle.rules.specs.Size.{Size}
use Rattle.subset_table.specs.Subsets.{mask_in, size_in}
use Rattle.words.specs.Word.{digits_of, arrangement_of, Known, word_of, pattern, inner_of, from_of, to_of, steps}
use Rattle.words.proofs.WordFacts.{subset_size, mask_even}
use Rattle.words.proofs.StepLaws.{steps_on, steps_back, steps_none, steps_same, steps_lt}
use Rattle.words.proofs.PatternLaws.{pattern_head, pattern_last, pattern_inner, pattern_inner_black}
use Rattle.words.proofs.WordLaws.{Fields, known_subset, known_fits, known_fields, known_steps, known_shaped}

-- ---- the digits of a mask

any_below : (q : ℕ → Bool) (a k v : ℕ) → v < a → any (eqb v) (keep q (span a k)) ≡ false
unfolding any keep span
any_below q a zero v h = refl
any_below q a (suc k) v h = go (q a) (any_below q (suc a) k v (omega arith))
  where
    go : (b : Bool) → any (eqb v) (keep q (span (suc a) k)) ≡ false → any (eqb v) (cond b (a ∷ keep q (span (suc a) k)) (keep q (span (suc a) k))) ≡ false
    go true e = rw (ne_eqb v a (omega arith)) e
    go false e = e

any_past : (q : ℕ → Bool) (a k v : ℕ) → a + k ≤ v → any (eqb v) (keep q (span a k)) ≡ false
unfolding any keep span
any_past q a zero v h = refl
any_past q a (suc k) v h = go (q a) (any_past q (suc a) k v (omega arith))
  where
    go : (b : Bool) → any (eqb v) (keep q (span (suc a) k)) ≡ false → any (eqb v) (cond b (a ∷ keep q (span (suc a) k)) (keep q (span (suc a) k))) ≡ false
    go true e = rw (ne_eqb v a (omega arith)) e
    go false e = e

any_kept : (q : ℕ → Bool) (a k v : ℕ) → a ≤ v → v < a + k → any (eqb v) (keep q (span a k)) ≡ q v
unfolding any keep span
any_kept q a zero v h l = absurd (omega arith)
any_kept q a (suc k) v h l = go (ℕ_discrete v a) (q a) refl (λ n. any_kept q (suc a) k v (omega arith) (omega arith))
  where
    go : Dec (v ≡ a) → (b : Bool) → q a ≡ b → ((v ≡ a → ⊥) → any (eqb v) (keep q (span (suc a) k)) ≡ q v) →
        any (eqb v) (cond b (a ∷ keep q (span (suc a) k)) (keep q (span (suc a) k))) ≡ q v
    go (yes e) true f ih = rw (eq-eqb v a e) (sym f ∙ ap q (sym e))
    go (yes e) false f ih = any_below q (suc a) k v (omega arith) ∙ sym f ∙ ap q (sym e)
    go (no e) true f ih = rw (ne_eqb v a e) (ih e)
    go (no e) false f ih = ih e

-- a digit is one of the mask's where the mask has its bit
pub digits_any : (m v : ℕ) → m % 2 ≡ 0 → v < 8 → any (eqb v) (digits_of m) ≡ eqb (bit v m) 1
unfolding digits_of
digits_any m zero e h = any_below _ 1 7 0 (omega arith) ∙ sym (ne_eqb (bit 0 m) 1 (omega (arith, bit_zero m)))
digits_any m (suc v) e h = any_kept (λ d. eqb (bit d m) 1) 1 7 (suc v) (omega arith) (omega arith)

pub digits_past : (m v : ℕ) → 8 ≤ v → any (eqb v) (digits_of m) ≡ false
unfolding digits_of
digits_past m v h = any_past _ 1 7 v h

pub digits_mem : (m v : ℕ) → m % 2 ≡ 0 → v < 8 → bit v m ≡ 1 → Memᴰ v (digits_of m)
digits_mem m v e h b = any_in v (digits_of m) (digits_any m v e h ∙ eq-eqb (bit v m) 1 b)

pub digits_narrow : (m v : ℕ) → Memᴰ v (digits_of m) → v < 8
digits_narrow m v h = go (dec_lt v 8)
  where
    go : Dec (v < 8) → v < 8
    go (yes a) = a
    go (no a) = absurd (true≢false (sym (any_mem h) ∙ digits_past m v (omega arith)))

-- what a cell of an arrangement may have is a digit or one of two blacks
pub allows_narrow : (n k id j v : ℕ) → k ≤ 10 → allows k (arrangement_of n id) j v ≡ true → v < 16
unfolding allows arrangement_of
allows_narrow n k id j v h t = go (dec_lt v 16)
  where
    ends : (b c : Bool) → 16 ≤ v → cond (eqb j 0) (eqb v (cond b k (suc k)))
        (cond (eqb j (length (digits_of (mask_in (id / 9))) + 1)) (eqb v (cond c (suc k) k)) (any (eqb v) (digits_of (mask_in (id / 9))))) ≡ false
    ends b c l = rw (black b, back c, digits_past (mask_in (id / 9)) v (omega arith)) (none (eqb j 0) (eqb j (length (digits_of (mask_in (id / 9))) + 1)))
      where
        black : (b : Bool) → eqb v (cond b k (suc k)) ≡ false
        black true = ne_eqb v k (omega arith)
        black false = ne_eqb v (suc k) (omega arith)

        back : (c : Bool) → eqb v (cond c (suc k) k) ≡ false
        back true = ne_eqb v (suc k) (omega arith)
        back false = ne_eqb v k (omega arith)

        none : (x y : Bool) → cond x false (cond y false false) ≡ false
        none true y = refl
        none false true = refl
        none false false = refl

    go : Dec (v < 16) → v < 16
    go (yes a) = a
    go (no a) = absurd (true≢false (sym t ∙ ends (arrangement_of n id).is_inside (arrangement_of n id).is_inside (omega arith)))

any_first : (l : List ℕ) → 0 < length l → any (eqb (get_or l 0 0)) l ≡ true
unfolding any
any_first [] h = absurd (omega arith)
any_first (x ∷ l) h = rw (eq-eqb x x refl)

-- ---- a test on a run of numbers

any_yes : (q : ℕ → Bool) (a k x : ℕ) → a ≤ x → x < a + k → q x ≡ true → any q (span a k) ≡ true
unfolding any span
any_yes q a zero x h l t = absurd (omega arith)
any_yes q a (suc k) x h l t = go (ℕ_discrete x a) (q a) refl (λ d. any_yes q (suc a) k x (omega arith) (omega arith) t)
  where
    go : Dec (x ≡ a) → (b : Bool) → q a ≡ b → ((x ≡ a → ⊥) → any q (span (suc a) k) ≡ true) → (b || any q (span (suc a) k)) ≡ true
    go d true e ih = refl
    go (yes d) false e ih = absurd (true≢false (sym t ∙ ap q d ∙ e))
    go (no d) false e ih = ih d

any_find : (q : ℕ → Bool) (a k : ℕ) → any q (span a k) ≡ true → (x : ℕ) × ((a ≤ x) × (x < a + k)) × (q x ≡ true)
unfolding any span
any_find q a zero t = absurd (true≢false (sym t))
any_find q a (suc k) t = go (q a) refl t (λ u. any_find q (suc a) k u)
  where
    go : (b : Bool) → q a ≡ b → (b || any q (span (suc a) k)) ≡ true →
        (any q (span (suc a) k) ≡ true → (x : ℕ) × ((suc a ≤ x) × (x < suc a + k)) × (q x ≡ true)) →
        (x : ℕ) × ((a ≤ x) × (x < a + suc k)) × (q x ≡ true)
    go true e u ih = (a, (omega arith, omega arith), e)
    go false e u ih = let r = ih u in (r.0, (omega (arith, r.1.0), omega (arith, r.1.1)), r.2)

-- ---- the places of an arrangement

module _ (n id : ℕ) (z : Size n) (y : Known n id) where
  pub known_length : length (arrangement_of n id).digit_set ≡ size_in (id / 9)
  unfolding arrangement_of
  known_length = subset_size (id / 9) (known_subset n id z y)

  place_on : (j : ℕ) → id % 9 + j < n → place n (arrangement_of n id) j ≡ id % 9 + j
  unfolding arrangement_of place
  place_on j h = rw (lt-ltb (id % 9 + j) n h)

  place_back : (j : ℕ) → n ≤ id % 9 + j → place n (arrangement_of n id) j ≡ id % 9 + j - n
  unfolding arrangement_of place
  place_back j h = rw (le-ltb (id % 9 + j) n h)

  pub place_in : (j : ℕ) → j < n → place n (arrangement_of n id) j < n
  place_in j h =
      elim (dec_lt (id % 9 + j) n) [ yes l ↦ omega (arith, place_on j l) | no l ↦ omega (arith, place_back j (omega arith), y.starts) ]

  -- cell j is j steps on
  pub place_steps : (j : ℕ) → j < n → steps n (from_of (word_of n id)) (place n (arrangement_of n id) j) ≡ j
  place_steps j h = rw (known_fields n id z y).from_is (go (dec_lt (id % 9 + j) n))
    where
      go : Dec (id % 9 + j < n) → steps n (id % 9) (place n (arrangement_of n id) j) ≡ j
      go (yes l) = rw (place_on j l) (steps_on n (id % 9) (id % 9 + j) (omega arith) ∙ omega arith)
      go (no l) = rw (place_back j (omega arith)) (steps_back n (id % 9) (id % 9 + j - n) (omega (arith, y.starts)) ∙ omega (arith, y.starts))

  -- and each place is the cell of its steps
  pub steps_place : (p : ℕ) → p < n → place n (arrangement_of n id) (steps n (from_of (word_of n id)) p) ≡ p
  steps_place p h =
      let s = known_shaped n id z y in
      let l = steps_lt n (from_of (word_of n id)) p s.from_in h in
      steps_same n (from_of (word_of n id)) _ p s.from_in (place_in _ l) h (place_steps _ l)

  inside_same : (arrangement_of n id).is_inside ≡ ltb (id % 9 + size_in (id / 9) + 1) n
  unfolding arrangement_of
  inside_same =
      elim (dec_lt (id % 9 + size_in (id / 9) + 1) n) [
        | yes l ↦ le-leb (id % 9 + (size_in (id / 9) + 2)) n (omega arith) ∙ sym (lt-ltb _ n l)
        | no l ↦ lt-leb (id % 9 + (size_in (id / 9) + 2)) n (omega arith) ∙ sym (le-ltb _ n (omega arith))
      ]

  digit_same : (d : ℕ) → any (eqb d) (arrangement_of n id).digit_set ≡ any (eqb d) (digits_of (mask_in (id / 9)))
  unfolding arrangement_of
  digit_same d = refl

  -- what a cell of the arrangement may have is what the word's pattern has there
  pub pattern_allows : (k j v : ℕ) → 8 ≤ k → j < size_in (id / 9) + 2 → pattern k (word_of n id) (place n (arrangement_of n id) j) v
      ≡ allows k (arrangement_of n id) j v
  unfolding allows
  pattern_allows k j v h l = go (ℕ_discrete j 0) (ℕ_discrete j (size_in (id / 9) + 1)) (dec_lt v 8)
    where
      f : Fields n (mask_in (id / 9)) (size_in (id / 9)) (id % 9) (word_of n id)
      f = known_fields n id z y

      fits : size_in (id / 9) + 2 ≤ n
      fits = known_fits n id z y

      at_from : j ≡ 0 → place n (arrangement_of n id) j ≡ from_of (word_of n id)
      at_from e = let s = known_shaped n id z y in steps_same n (from_of (word_of n id)) _ _ s.from_in (place_in j (omega (arith, fits))) s.from_in
          (place_steps j (omega (arith, fits)) ∙ e ∙ sym (steps_none n (from_of (word_of n id))))

      at_to : j ≡ size_in (id / 9) + 1 → place n (arrangement_of n id) j ≡ to_of (word_of n id)
      at_to e = let s = known_shaped n id z y in steps_same n (from_of (word_of n id)) _ _ s.from_in (place_in j (omega (arith, fits))) s.to_in
          (place_steps j (omega (arith, fits)) ∙ e ∙ sym (known_steps n id z y))

      go : Dec (j ≡ 0) → Dec (j ≡ size_in (id / 9) + 1) → Dec (v < 8) →
          pattern k (word_of n id) (place n (arrangement_of n id) j) v
          ≡ cond (eqb j 0) (eqb v (cond (arrangement_of n id).is_inside k (suc k)))
          (cond (eqb j (length (arrangement_of n id).digit_set + 1)) (eqb v (cond (arrangement_of n id).is_inside (suc k) k))
          (any (eqb v) (arrangement_of n id).digit_set))
      go (yes e) _ _ =
          rw (at_from e, eq-eqb j 0 e, inside_same, ← f.head_is k) (pattern_head n k (word_of n id) (known_shaped n id z y) h v)
      go (no d) (yes e) _ =
          rw (at_to e, ne_eqb j 0 d, known_length, eq-eqb j (size_in (id / 9) + 1) e, inside_same, ← f.last_is k)
          (pattern_last n k (word_of n id) (known_shaped n id z y) h v)
      go (no d) (no e) (yes m) =
          rw (
            ne_eqb j 0 d,
            known_length,
            ne_eqb j (size_in (id / 9) + 1) e,
            digit_same v,
            digits_any (mask_in (id / 9)) v
                (mask_even (id / 9) (known_subset n id z y)) m,
            ← f.set_is,
          )
          (pattern_inner n k (word_of n id) (known_shaped n id z y) h _ (place_in j (omega (arith, fits)))
          (omega (arith, place_steps j (omega (arith, fits)))) (omega (arith, place_steps j (omega (arith, fits)), known_steps n id z y)) v m)
      go (no d) (no e) (no m) =
          rw (ne_eqb j 0 d, known_length, ne_eqb j (size_in (id / 9) + 1) e, digit_same v, digits_past (mask_in (id / 9)) v (omega arith))
          (pattern_inner_black n k (word_of n id) (known_shaped n id z y) h _ (place_in j (omega (arith, fits)))
          (omega (arith, place_steps j (omega (arith, fits)))) (omega (arith, place_steps j (omega (arith, fits)), known_steps n id z y)) v (omega arith))

  -- each cell of the arrangement may have something
  pub allows_some : (k j : ℕ) → k < 15 → j < size_in (id / 9) + 2 → (v : ℕ) × (v < 16) × (allows k (arrangement_of n id) j v ≡ true)
  unfolding allows
  allows_some k j h l = go (ℕ_discrete j 0) (ℕ_discrete j (size_in (id / 9) + 1))
    where
      ends : (b : Bool) → cond b k (suc k) < 16
      ends true = omega arith
      ends false = omega arith

      backs : (b : Bool) → cond b (suc k) k < 16
      backs true = omega arith
      backs false = omega arith

      low : Dec (8 ≤ get_or (digits_of (mask_in (id / 9))) 0 0) → any (eqb (get_or (digits_of (mask_in (id / 9))) 0 0)) (digits_of (mask_in (id / 9))) ≡ true →
          get_or (digits_of (mask_in (id / 9))) 0 0 < 16
      low (yes m) t = absurd (true≢false (sym t ∙ digits_past (mask_in (id / 9)) _ m))
      low (no m) t = omega arith

      go : Dec (j ≡ 0) → Dec (j ≡ size_in (id / 9) + 1) →
          (v : ℕ) × (v < 16) ×
          (cond (eqb j 0) (eqb v (cond (arrangement_of n id).is_inside k (suc k)))
          (cond (eqb j (length (arrangement_of n id).digit_set + 1)) (eqb v (cond (arrangement_of n id).is_inside (suc k) k))
          (any (eqb v) (arrangement_of n id).digit_set)) ≡ true)
      go (yes e) _ =
          let v = cond (arrangement_of n id).is_inside k (suc k) in
          (v, ends (arrangement_of n id).is_inside, rw (eq-eqb j 0 e) (eq-eqb v v refl))
      go (no d) (yes e) =
          let v = cond (arrangement_of n id).is_inside (suc k) k in
          (v, backs (arrangement_of n id).is_inside, rw (ne_eqb j 0 d, known_length, eq-eqb j (size_in (id / 9) + 1) e) (eq-eqb v v refl))
      go (no d) (no e) =
          let t = any_first (digits_of (mask_in (id / 9))) (omega (arith, subset_size (id / 9) (known_subset n id z y))) in (
            get_or (digits_of (mask_in (id / 9))) 0 0,
            low (dec_le 8 _) t,
            rw
                (ne_eqb j 0 d, known_length, ne_eqb j (size_in (id / 9) + 1) e, digit_same (get_or (digits_of (mask_in (id / 9))) 0 0)) t,
          )

  -- the cells between the ends are inner places of the word
  pub inner_place : (j : ℕ) → 0 < j → j < size_in (id / 9) + 1 → bit (place n (arrangement_of n id) j) (inner_of (word_of n id)) ≡ 1
  inner_place j b c =
      let fits = known_fits n id z y in
      (known_shaped n id z y).between _ (place_in j (omega arith)) (omega (arith, place_steps j (omega arith)))
      (omega (arith, place_steps j (omega arith), known_steps n id z y))
