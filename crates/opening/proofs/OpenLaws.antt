-- The opened state: listing leaves the table and the queue, and seeding leaves lists and supports. Assumes nothing.
use Prim.Native.Nat.{ℕ, suc, ◌+◌, ◌-◌, ◌*◌, ◌/◌, ◌%◌, ◌≤◌, ◌<◌}
use mathlib.Core.Path.{◌≡◌, refl, sym, ap, ◌∙◌}
use mathlib.Core.Logic.{◌⊎◌, inl, inr, ⊎_elim}
use mathlib.Core.List.{List}
use native.Mathlib.Omega.{arith}
use native.Mathlib.Decide.{ℕ_discrete, dec_lt}
use lib.ListN.{length, get_or, get_or-eq_default}
use lib.Pow.{pow_mono}
use borrow.Author.Tests.{lt-ltb, le-ltb}
use Rattle.bits.specs.Bit.{bit}
use Rattle.bits.proofs.BitLaws.{bit_lt, bit_le, bit_zero}
use Rattle.bits.specs.Sum.{same}
use Rattle.bits.proofs.SumLaws.{sum_same}
use Rattle.rules.specs.Size.{Size}
use Rattle.queue_state.specs.Layout.{entry_place, tail_at, counters_at, lengths_at, support_place, slab_size}
use Rattle.queue_state.specs.Slab.{cand, tail, entry, waits, lag, candidates_left, Sized, Grown, Struck}
use Rattle.queue_state.proofs.SlabLaws.{cand_same, mirrored_same}
use Rattle.queue_state.proofs.StruckLaws.{grown_sized, grown_trans}
use Rattle.queue_state.specs.Ready.{Valid}
use Rattle.table.specs.Value.{ValueOf, HalfOf}
use Rattle.fresh.proofs.FreshLaws.{fresh_lag, fresh_full, fresh_ready}
use Rattle.subset_table.specs.Subsets.{mask_in}
use Rattle.words.specs.Word.{Known, set_of, inner_of, word_of, part}
use Rattle.words.proofs.WordFacts.{mask_even, mask_below}
use Rattle.words.proofs.WordLaws.{known_subset, known_fields}
use Rattle.words.proofs.PatternLaws.{part_digit, part_other}
use Rattle.arcs.specs.Arc.{lives, live, support, Tallied, Serves, Alive, Unsupported}
use Rattle.table.specs.Lines.{cell_at, black_at, LineOf}
use Rattle.listing.specs.Listing.{Lists, target_at, LinesListed}
use Rattle.arcs.proofs.KillLaws.{black_low, black_high}
use Rattle.listing.proofs.LineLaws.{Listable, lists_kept}
use Rattle.opening.specs.Opening.{Bare, along_row, along_column, BareTo, Opened}

-- ---- where only counters moved

module _ (l l' : List ℕ) (s : Sized l) (long : length l' ≡ length l) (e : (q : ℕ) → q < counters_at → get_or l' q 0 ≡ get_or l q 0) where
  tail_kept : tail l' ≡ tail l
  tail_kept = e tail_at (omega arith)

  entry_kept : (i : ℕ) → i < tail l → entry l' i ≡ entry l i
  entry_kept i h = e (entry_place i) (omega (arith, s.room))

  cand_kept : (x v : ℕ) → cand l' x v ≡ cand l x v
  cand_kept x v = cand_same l l' (λ q h. e q (omega arith)) x v

  left_kept : candidates_left l' ≡ candidates_left l
  unfolding candidates_left
  left_kept = sum_same 0 1296 (λ k. cand l' (k / 16) (k % 16)) (λ k. cand l (k / 16) (k % 16)) (λ k _ _. cand_kept (k / 16) (k % 16))

  waits_kept : (h d : ℕ) → waits l' h d ≡ waits l h d
  unfolding waits
  waits_kept h d =
      rw tail_kept (sum_same h (tail l - h) (λ i. same d (entry l' i)) (λ i. same d (entry l i)) (λ i a b. ap (same d) (entry_kept i (omega arith))))

  -- no candidate went, and every lag is as it was
  counters_grown : Grown l l'
  unfolding lag
  counters_grown =
      record {
        size = long;
        balance = omega (arith, tail_kept, left_kept);
        grows = omega (arith, tail_kept);
        old = entry_kept;
        lags = λ h x v _ _. omega (arith, cand_kept x v, waits_kept h (x * 16 + v));
        sub = λ x v _. omega (arith, cand_kept x v);
        masks = mirrored_same l l' (λ q h. e q (omega arith)) (λ q _ h. e q h);
      }

-- ---- lines and cells

-- the values of an arrangement's pattern are those of the size
part_value : (n ℓ id p v : ℕ) → Size n → Known n id → part (black_at ℓ) (word_of n id) p v ≡ 1 → ValueOf n v
unfolding ValueOf
part_value n ℓ id p v z y e = go (dec_lt v 8)
  where
    digit : v < 8 → bit v (mask_in (id / 9)) ≡ 1
    digit h =
        ap (bit v) (sym (known_fields n id z y).set_is)
        ∙ omega (arith, part_digit (black_at ℓ) (word_of n id) p v h, bit_lt v (set_of (word_of n id)), bit_lt p (inner_of (word_of n id)))

    low : v < 8 → Dec (v ≡ 0) → 1 ≤ v
    low h (yes x) =
        let q : bit 0 (mask_in (id / 9)) ≡ 1 = rw x at (digit h) in
        absurd (omega (arith, bit_zero (mask_in (id / 9)), mask_even (id / 9) (known_subset n id z y)))
    low h (no x) = omega arith

    high : v < 8 → Dec (v < n - 1) → v < n - 1
    high h (yes x) = x
    high h (no x) = absurd (omega (arith, bit_le v (mask_in (id / 9)) (digit h), mask_below (id / 9) n y.digits, pow_mono {i = n - 1} {j = v} (omega arith)))

    black : Dec (v ≡ black_at ℓ) → Dec (v ≡ suc (black_at ℓ)) → 8 ≤ v → (8 ≤ v) × (v < 12)
    black (yes x) _ h = omega (arith, black_low ℓ, black_high ℓ)
    black (no x) (yes d) h = omega (arith, black_low ℓ, black_high ℓ)
    black (no x) (no d) h = absurd (omega (arith, part_other (black_at ℓ) (word_of n id) p v h x d))

    go : Dec (v < 8) → ((1 ≤ v) × (v < n - 1)) ⊎ ((8 ≤ v) × (v < 12))
    go (yes h) = inl (low h (ℕ_discrete v 0), high h (dec_lt v (n - 1)))
    go (no h) = inr (black (ℕ_discrete v (black_at ℓ)) (ℕ_discrete v (suc (black_at ℓ))) (omega arith))

-- place p of line ℓ: its row and its column
module _ (n ℓ p : ℕ) (z : Size n) (h : p < n) where
  row_cell : ℓ < n → (cell_at ℓ p / 9 ≡ ℓ) × (cell_at ℓ p % 9 ≡ p)
  unfolding cell_at
  row_cell i = rw (lt-ltb ℓ 9 (omega (arith, z.high))) (omega (arith, z.high), omega (arith, z.high))

  column_cell : 9 ≤ ℓ → ℓ < 9 + n → (cell_at ℓ p / 9 ≡ p) × (9 + cell_at ℓ p % 9 ≡ ℓ)
  unfolding cell_at
  column_cell i k = rw (le-ltb ℓ 9 i) (omega (arith, z.high), omega (arith, z.high))

-- ---- the opened state

module _ {n : ℕ} {rows columns l l₁ : List ℕ} (a : Listable n rows columns l) (d : LinesListed n rows columns l l₁) where
  fresh_sized : Sized l
  fresh_sized = (fresh_ready a.size a.fresh).sized

  listed_grown : Grown l l₁
  listed_grown = counters_grown l l₁ fresh_sized d.size (λ q h. d.rest q (omega arith))

  pub seed_ask : Sized l₁
  seed_ask = grown_sized listed_grown fresh_sized

  module _ {l₂ : List ℕ} (s : Struck l₁ l₂ (BareTo l₁ n n)) where
    lists : (ℓ : ℕ) → LineOf n ℓ → Lists n ℓ (target_at rows columns ℓ) l₂
    unfolding LineOf
    lists ℓ o =
        lists_kept ℓ l₁ l₂ (⊎_elim (λ h. omega (arith, a.size.high)) (λ h. omega (arith, a.size.high)) o) (λ q h _. s.rest q (omega arith)) (d.each ℓ o)

    -- a cell of the line is one of the grid
    valid : (ℓ p v : ℕ) → LineOf n ℓ → p < n → ValueOf n v → Valid n (cell_at ℓ p) v
    unfolding LineOf
    valid ℓ p v (inl h) i w = let c = row_cell n ℓ p a.size i h in record { row = omega (arith, c.0); column = omega (arith, c.1); value = w }
    valid ℓ p v (inr h) i w =
        let c = column_cell n ℓ p a.size i h.0 h.1 in
        record { row = omega (arith, c.0); column = omega (arith, c.1, h.1); value = w }

    -- a candidate of the line without support is struck
    backed : (ℓ : ℕ) → LineOf n ℓ → (p v : ℕ) → p < n → v < 16 → HalfOf (black_at ℓ) v → support l₂ (ℓ * 9 + p) v ≡ 0 → cand l₂ (cell_at ℓ p) v ≡ 0
    unfolding LineOf BareTo black_at
    backed ℓ (inl h) p v i k f e =
        let c = row_cell n ℓ p a.size i h in
        let g : HalfOf 8 v = rw (lt-ltb ℓ 9 (omega (arith, a.size.high))) at f in
        let u : support l₁ (ℓ * 9 + p) v ≡ 0 = sym (s.rest (support_place (ℓ * 9 + p) v) (omega arith)) ∙ e in
        s.gone (cell_at ℓ p) v k (omega (arith, c.0), omega (arith, c.1), along_row g (rw (c.0, c.1) u))
    backed ℓ (inr h) p v i k f e =
        let c = column_cell n ℓ p a.size i h.0 h.1 in
        let g : HalfOf 10 v = rw (le-ltb ℓ 9 h.0) at f in
        let u : support l₁ (ℓ * 9 + p) v ≡ 0 = sym (s.rest (support_place (ℓ * 9 + p) v) (omega arith)) ∙ e in
        s.gone (cell_at ℓ p) v k (omega (arith, c.0), omega (arith, c.1, h.1), along_column g (rw (c.0, c.1) u))

    tallied : (ℓ : ℕ) → LineOf n ℓ → Tallied n ℓ (lives l₂ ℓ) l₂
    tallied ℓ o = let t = lists ℓ o in record { room = t.room; known = t.known; supports = t.supports; backed = backed ℓ o }

    -- every candidate of the size is in the table or waits to be handled
    lags : (x v : ℕ) → v < 16 → Valid n x v → lag l₂ 0 x v ≡ 1
    lags x v h w =
        s.grown.lags 0 x v (omega arith) h
        ∙ listed_grown.lags 0 x v (omega arith) h
        ∙ fresh_lag a.size a.fresh x v
        ∙ fresh_full a.size a.fresh x v h w

    -- so each place that a listed arrangement covers is served, and each of its digits placed
    alive : (ℓ : ℕ) → LineOf n ℓ → (j : ℕ) → j < lives l₂ ℓ → Alive n ℓ l₂ 0 (live l₂ ℓ j)
    alive ℓ o j i =
        record {
          served = λ p v h k e. there p v refl h k e;
          placed = λ p d h k e. there p d refl h (omega arith) e;
        }
      where
        there : {Q : ℕ → ℕ → Type 0} → (p v : ℕ) → Q p v → p < n → v < 16 → part (black_at ℓ) (word_of n (live l₂ ℓ j)) p v ≡ 1 →
            Serves n ℓ l₂ 0 (live l₂ ℓ j) Q
        there p v q h k e =
            let w = part_value n ℓ (live l₂ ℓ j) p v a.size ((lists ℓ o).known j i) e in
            record {
              at = p;
              value = v;
              within = h;
              narrow = k;
              asked = q;
              allowed = e;
              lags = omega (arith, lags (cell_at ℓ p) v k (valid ℓ p v o h w));
            }

    -- what seeding strikes lies in no live arrangement of one of its lines
    unsupported : (x v : ℕ) → BareTo l₁ n n x v → Unsupported n l₂ x v
    unfolding BareTo LineOf cell_at black_at
    unsupported x v b = go b.2
      where
        go : Bare l₁ x v → Unsupported n l₂ x v
        go (along_row i e) =
            let t = lt-ltb (x / 9) 9 (omega (arith, b.0, a.size.high)) in
            record {
              line = x / 9;
              of = inl b.0;
              at = x % 9;
              within = b.1;
              there = rw t (omega arith);
              half = rw t i;
              none = s.rest (support_place (x / 9 * 9 + x % 9) v) (omega arith) ∙ e;
            }
        go (along_column i e) =
            let t = le-ltb (9 + x % 9) 9 (omega arith) in
            record {
              line = 9 + x % 9;
              of = inr (omega arith, omega (arith, b.1));
              at = x / 9;
              within = b.0;
              there = rw t (omega arith);
              half = rw t i;
              none = s.rest (support_place ((9 + x % 9) * 9 + x / 9) v) (omega arith) ∙ e;
            }

    kept : (p : ℕ) → counters_at ≤ p → (p < lengths_at) ⊎ (slab_size ≤ p) → get_or l₂ p 0 ≡ get_or l p 0
    kept p h (inl i) = s.rest p h ∙ d.rest p i
    kept p h (inr i) =
        get_or-eq_default l₂ 0 (omega (arith, s.grown.size, d.size, a.fresh.size)) ∙ sym (get_or-eq_default l 0 (omega (arith, a.fresh.size)))

    -- listing and seeding open the state
    pub opened : Opened n rows columns l l₂
    opened =
        record {
          moved = record { grown = grown_trans listed_grown s.grown; rest = kept };
          arcs = λ ℓ o. record { tallied = tallied ℓ o; alive = alive ℓ o };
          listed = λ ℓ o. (lists ℓ o).is;
          struck = λ x v h c g. unsupported x v (s.only x v h (cand_kept l l₁ fresh_sized d.size (λ q i. d.rest q (omega arith)) x v ∙ c) g);
        }
