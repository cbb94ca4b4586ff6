-- Lines, their candidates and what goes: what a smaller table keeps. Assumes nothing.
use Prim.Native.Nat.{ℕ, zero, suc, ◌+◌, ◌*◌, ◌≤◌, ◌<◌}
use mathlib.Core.Path.{◌≡◌, sym, ap, ◌∙◌}
use mathlib.Core.Logic.{◌⊎◌, inl, inr, ⊎_elim}
use mathlib.Core.Bool.{true, false, true≢false}
use mathlib.Core.List.{List, Memᴰ}
use native.Mathlib.Omega.{arith}
use native.Mathlib.Decide.{ℕ_discrete, dec_lt}
use lib.Dec.{eqb}
use lib.ListN.{length}
use borrow.Author.Tests.{lt-ltb, le-ltb, ne_eqb, eq-eqb, eqb-true}
use Rattle.table.specs.Closed.{place, allows}
use Rattle.line_laws.proofs.Arranged.{live_mono}
use Rattle.bits.specs.Sum.{sum_over}
use Rattle.bits.proofs.SumLaws.{sum_has, sum_same}
use Rattle.rules.specs.Size.{Size}
use Rattle.table.specs.Table.{places}
use Rattle.queue_state.specs.Slab.{cand, table_in, Grown}
use Rattle.queue_state.proofs.SlabLaws.{cand_lt}
use Rattle.words.specs.Word.{Known, arrangement_of, word_of, part}
use Rattle.words.proofs.Arranged.{allows_narrow}
use Rattle.words.proofs.PatternLaws.{part_none, part_other, pattern_past}
use Rattle.words.proofs.WordLaws.{known_shaped}
use Rattle.arcs.specs.Arc.{support, DeadArrangement, Unsupported}
use Rattle.table.specs.Value.{HalfOf}
use Rattle.table.specs.Lines.{line_at, cell_at, black_at, LineOf}
use Rattle.arcs.proofs.KillLaws.{black_low, black_high}

pub line_in : {n ℓ : ℕ} → Size n → LineOf n ℓ → ℓ < 18
unfolding LineOf
line_in z o = ⊎_elim (λ h. omega (arith, z.high)) (λ h. omega (arith, z.high, h.1)) o

-- the places of a line are those of the table
pub line_places : (l : List ℕ) (ℓ p v : ℕ) → places (table_in l) (line_at ℓ) p v ≡ eqb (cand l (cell_at ℓ p) v) 1
unfolding places table_in line_at cell_at
line_places l ℓ p v = elim (dec_lt ℓ 9) [ yes h ↦ rw (lt-ltb ℓ 9 h) | no h ↦ rw (le-ltb ℓ 9 (omega arith)) ]

pub line_absent : (l : List ℕ) (ℓ p v : ℕ) → cand l (cell_at ℓ p) v ≡ 0 → places (table_in l) (line_at ℓ) p v ≡ false
line_absent l ℓ p v e = line_places l ℓ p v ∙ ne_eqb (cand l (cell_at ℓ p) v) 1 (omega arith)

-- what a word has at a place is a value of the half, and the place is one of the line
pub part_half : (k w p v : ℕ) → 0 < part k w p v → HalfOf k v
unfolding HalfOf
part_half k w p v h = go (dec_lt v 8) (ℕ_discrete v k) (ℕ_discrete v (suc k))
  where
    go : Dec (v < 8) → Dec (v ≡ k) → Dec (v ≡ suc k) → (v < 8) ⊎ ((k ≤ v) × (v < k + 2))
    go (yes a) _ _ = inl a
    go (no a) (yes b) _ = inr (omega arith, omega arith)
    go (no a) (no b) (yes c) = inr (omega arith, omega arith)
    go (no a) (no b) (no c) = absurd (omega (arith, part_other k w p v (omega arith) b c))

pub part_place : (n id ℓ p v : ℕ) → Size n → Known n id → p < 9 → 0 < part (black_at ℓ) (word_of n id) p v → p < n
part_place n id ℓ p v z y h q = go (dec_lt p n)
  where
    go : Dec (p < n) → p < n
    go (yes a) = a
    go (no a) =
        absurd (omega (
          arith,
          part_none (black_at ℓ) (word_of n id) p v
              (pattern_past n (black_at ℓ) (word_of n id) (known_shaped n id z y) (black_low ℓ) p v (omega arith) h),
        ))

-- ---- why an arrangement is dead

module _ {n ℓ id : ℕ} {l : List ℕ} where
  -- a cell of it has no candidate of the pattern
  pub emptied : (j : ℕ) → j < length (arrangement_of n id).digit_set + 2 →
      ((v : ℕ) → allows (black_at ℓ) (arrangement_of n id) j v ≡ true → places (table_in l) (line_at ℓ) (place n (arrangement_of n id) j) v ≡ false) →
      DeadArrangement n ℓ l id
  emptied j h f = record { dead = λ alive. let u = alive.filled j h in true≢false (sym u.1 ∙ f u.0 u.2) }

  -- a digit of its set has no cell between the ends
  pub unplaced : (d : ℕ) → Memᴰ d (arrangement_of n id).digit_set →
      ((j : ℕ) → 0 < j → j < length (arrangement_of n id).digit_set + 1 → places (table_in l) (line_at ℓ) (place n (arrangement_of n id) j) d ≡ false) →
      DeadArrangement n ℓ l id
  unplaced d m f = record { dead = λ alive. let u = alive.placed d m in true≢false (sym u.3 ∙ f u.0 u.1 u.2) }

-- ---- what is dead stays dead, what has no support stays without

pub dead_kept : {l l' : List ℕ} {n ℓ id : ℕ} → Grown l l' → DeadArrangement n ℓ l id → DeadArrangement n ℓ l' id
dead_kept {l} {l'} {n} {ℓ} {id} g d =
    record {
      dead = λ alive. d.dead (live_mono n (black_at ℓ) (arrangement_of n id) (places (table_in l') (line_at ℓ)) (places (table_in l) (line_at ℓ)) (λ j v h t e.
          there (place n (arrangement_of n id) j) v (allows_narrow n (black_at ℓ) id j v (black_high ℓ) t) e) alive);
    }
  where
    there : (p v : ℕ) → v < 16 → places (table_in l') (line_at ℓ) p v ≡ true → places (table_in l) (line_at ℓ) p v ≡ true
    there p v h e =
        let q = eqb-true (cand l' (cell_at ℓ p) v) 1 (sym (line_places l' ℓ p v) ∙ e) in
        line_places l ℓ p v ∙ eq-eqb (cand l (cell_at ℓ p) v) 1 (omega (arith, g.sub (cell_at ℓ p) v h, cand_lt l (cell_at ℓ p) v))

pub unsupported_kept : {n : ℕ} {l l' : List ℕ} {x v : ℕ} → Size n → v < 16 → ((y u : ℕ) → y < 162 → u < 16 → support l' y u ≤ support l y u) →
    Unsupported n l x v → Unsupported n l' x v
unsupported_kept {x = x} {v = v} z h s u =
    record {
      line = u.line;
      of = u.of;
      at = u.at;
      within = u.within;
      there = u.there;
      half = u.half;
      none = omega (arith, u.none, s (u.line * 9 + u.at) v (omega (arith, line_in z u.of, u.within, z.high)) h);
    }

-- ---- sums over a list from which one goes: the last takes its place

sum_swap : (n : ℕ) (f g : ℕ → ℕ) (i : ℕ) → i < n → ((j : ℕ) → j < n → (j ≡ i → ⊥) → g j ≡ f j) → sum_over 0 n g + f i ≡ sum_over 0 n f + g i
unfolding sum_over
sum_swap zero f g i h e = absurd (omega arith)
sum_swap (suc n) f g i h e = go (λ u. sum_swap n f g i u (λ j a b. e j (omega arith) b)) (ℕ_discrete i n)
  where
    go : (i < n → sum_over 0 n g + f i ≡ sum_over 0 n f + g i) → Dec (i ≡ n) → sum_over 0 n g + g (0 + n) + f i ≡ sum_over 0 n f + f (0 + n) + g i
    go ih (yes d) =
        let z : 0 + n ≡ i = omega arith in
        let p : sum_over 0 n g ≡ sum_over 0 n f = sum_same 0 n g f (λ k a b. e k (omega arith) (λ u. omega arith)) in
        rw z (omega arith)
    go ih (no d) = omega (arith, ih (omega arith), e (0 + n) (omega arith) (λ u. d (omega arith)))

pub sum_drop : (m : ℕ) (f g : ℕ → ℕ) (i : ℕ) → i ≤ m → g i ≡ f m → ((j : ℕ) → j < m → (j ≡ i → ⊥) → g j ≡ f j) → sum_over 0 m g + f i ≡ sum_over 0 (m + 1) f
unfolding sum_over
sum_drop m f g i h e o = let q : m + 1 ≡ suc m = omega arith in rw q (go (ℕ_discrete i m))
  where
    go : Dec (i ≡ m) → sum_over 0 m g + f i ≡ sum_over 0 m f + f (0 + m)
    go (yes d) =
        let z : 0 + m ≡ m = omega arith in
        let p : sum_over 0 m g ≡ sum_over 0 m f = sum_same 0 m g f (λ j a b. o j (omega arith) (λ u. omega arith)) in
        let q : f i ≡ f m = ap f d in
        rw z (omega arith)
    go (no d) =
        let z : 0 + m ≡ m = omega arith in
        rw z (omega (arith, sum_swap m f g i (omega arith) o))

pub sum_each : (n : ℕ) (f : ℕ → ℕ) → sum_over 0 n f ≡ 0 → (j : ℕ) → j < n → f j ≡ 0
sum_each n f e j h = omega (arith, sum_has 0 n j f (omega arith) (omega arith))
