-- Where no strike waits, each candidate of a line lies in a live arrangement. Assumes nothing.
use Prim.Native.Nat.{ℕ, zero, suc, ◌+◌, ◌-◌, ◌/◌, ◌≤◌, ◌<◌}
use mathlib.Core.Path.{◌≡◌, refl, sym, ap, ◌∙◌, subst}
use mathlib.Core.Bool.{true, true≢false}
use mathlib.Core.List.{List, Memᴰ}
use native.Mathlib.Omega.{arith}
use native.Mathlib.Decide.{ℕ_discrete, dec_lt}
use lib.Dec.{eqb}
use lib.ListN.{length}
use borrow.Author.Tests.{lt-ltb, le-ltb, eq-eqb, eqb-true}
use Rattle.bits.specs.Sum.{sum_over}
use Rattle.tally.proofs.TallyLaws.{any_mem}
use Rattle.rules.specs.Size.{Size}
use Rattle.rules.specs.Grid.{Line, across, down}
use Rattle.table.specs.Closed.{arrangements, place, allows, Live, Supported}
use Rattle.table.proofs.ClosedTest.{Covers, covers}
use Rattle.table.specs.Table.{places, first_black, half}
use Rattle.queue_state.specs.Slab.{cand, lag, table_in}
use Rattle.queue_state.proofs.SlabLaws.{cand_lt}
use Rattle.subset_table.specs.Subsets.{mask_in, size_in}
use Rattle.words.specs.Word.{Known, arrangement_of, word_of, from_of, to_of, steps, pattern, part}
use Rattle.words.proofs.PatternLaws.{part_lt, part_yes, part_pattern, pattern_beyond}
use Rattle.words.proofs.WordLaws.{known_fits, known_steps, known_shaped}
use Rattle.words.proofs.Arranged.{known_length, place_in, steps_place, pattern_allows, allows_some, digits_narrow}
use Rattle.arcs.proofs.KillLaws.{black_low, black_high}
use Rattle.arcs.specs.Arc.{lives, live, Serves, OfValue, Alive, Arc}
use Rattle.table.specs.Value.{HalfOf}
use Rattle.table.specs.Lines.{cell_at, black_at}
use Rattle.line_laws.proofs.Arranged.{allows_mid, digit_mid}
use Rattle.line_laws.proofs.CellValues.{half_range}
use Rattle.line_laws.proofs.Lists.{mem_place}

-- ---- lines by number

-- The line ℓ has the number k: its first black and its places are those of k.
pub record Numbered (ℓ : Line) (k : ℕ) : Type 0 where
  pub black : black_at k ≡ first_black ℓ
  pub cells : (l : List ℕ) (p v : ℕ) → places (table_in l) ℓ p v ≡ eqb (cand l (cell_at k p) v) 1

pub row_numbered : (r : ℕ) → r < 9 → Numbered (across r) r
unfolding black_at first_black places table_in cell_at
row_numbered r h = record { black = rw (lt-ltb r 9 h); cells = λ l p v. rw (lt-ltb r 9 h) }

pub column_numbered : (c : ℕ) → Numbered (down c) (9 + c)
unfolding black_at first_black places table_in cell_at
column_numbered c =
    let e : 9 + c - 9 ≡ c = omega arith in
    record { black = rw (le-ltb (9 + c) 9 (omega arith)); cells = λ l p v. rw (le-ltb (9 + c) 9 (omega arith), e) }

-- a sum that is not 0 has a term that is not 0
sum_find : (n : ℕ) (f : ℕ → ℕ) → (sum_over 0 n f ≡ 0 → ⊥) → (j : ℕ) × (j < n) × (f j ≡ 0 → ⊥)
unfolding sum_over
sum_find zero f h = absurd (h refl)
sum_find (suc n) f h = go (ℕ_discrete (f (0 + n)) 0) (λ q. sum_find n f q)
  where
    go : Dec (f (0 + n) ≡ 0) → ((sum_over 0 n f ≡ 0 → ⊥) → (j : ℕ) × (j < n) × (f j ≡ 0 → ⊥)) → (j : ℕ) × (j < suc n) × (f j ≡ 0 → ⊥)
    go (yes e) ih = let r = ih (λ q. h (omega arith)) in (r.0, omega (arith, r.1), r.2)
    go (no e) ih = (0 + n, omega arith, e)

-- ---- a known arrangement

module _ (n k id : ℕ) (z : Size n) (y : Known n id) where
  -- what its word has at a place lies in it
  part_covers : (p v : ℕ) → p < n → part (black_at k) (word_of n id) p v ≡ 1 → Covers n (black_at k) (arrangement_of n id) p v
  part_covers p v h e =
      record {
        step = steps n (from_of (word_of n id)) p;
        within = omega (arith, reach, known_length n id z y);
        there = steps_place n id z y p h;
        allowed =
            sym (pattern_allows n id z y (black_at k) (steps n (from_of (word_of n id)) p) v (black_low k) reach)
            ∙ ap (λ q. pattern (black_at k) (word_of n id) q v) (steps_place n id z y p h)
            ∙ has;
      }
    where
      has : pattern (black_at k) (word_of n id) p v ≡ true
      has = part_pattern (black_at k) (word_of n id) p v e

      reach : steps n (from_of (word_of n id)) p < size_in (id / 9) + 2
      reach = go (dec_lt (steps n (from_of (word_of n id)) (to_of (word_of n id))) (steps n (from_of (word_of n id)) p))
        where
          go : Dec (steps n (from_of (word_of n id)) (to_of (word_of n id)) < steps n (from_of (word_of n id)) p) →
              steps n (from_of (word_of n id)) p < size_in (id / 9) + 2
          go (yes b) = absurd (true≢false (sym has ∙ pattern_beyond n (black_at k) (word_of n id) (known_shaped n id z y) (black_low k) p v h b))
          go (no b) = omega (arith, known_steps n id z y)

  -- where no strike waits it is live if each of its places is served and each of its digits placed
  alive_live : (ℓ : Line) (l : List ℕ) (h : ℕ) → Numbered ℓ k → ((x v : ℕ) → lag l h x v ≡ cand l x v) →
      Alive n k l h id → Live n (black_at k) (places (table_in l) ℓ) (arrangement_of n id)
  unfolding arrangement_of
  alive_live ℓ l h o w a =
      record { filled = λ j b. at j (omega (arith, known_length n id z y)); placed = inner }
    where
      place_at : (j : ℕ) → j < size_in (id / 9) + 2 → place n (arrangement_of n id) j < n
      place_at j b = place_in n id z y j (omega (arith, known_fits n id z y))

      has : (p v : ℕ) → 1 ≤ lag l h (cell_at k p) v → places (table_in l) ℓ p v ≡ true
      has p v b = o.cells l p v ∙ eq-eqb (cand l (cell_at k p) v) 1 (omega (arith, b, w (cell_at k p) v, cand_lt l (cell_at k p) v))

      allowed : (j v : ℕ) → j < size_in (id / 9) + 2 →
          pattern (black_at k) (word_of n id) (place n (arrangement_of n id) j) v ≡ allows (black_at k) (arrangement_of n id) j v
      allowed j v b = pattern_allows n id z y (black_at k) j v (black_low k) b

      at : (j : ℕ) → j < size_in (id / 9) + 2 →
          (v : ℕ) × (places (table_in l) ℓ (place n (arrangement_of n id) j) v ≡ true) × (allows (black_at k) (arrangement_of n id) j v ≡ true)
      at j b =
          let p = place n (arrangement_of n id) j in
          let u = allows_some n id z y (black_at k) j (omega (arith, black_high k)) b in
          let s = a.served p u.0 (place_at j b) u.1 (part_yes (black_at k) (word_of n id) p u.0 (allowed j u.0 b ∙ u.2)) in (
            s.value,
            ap (λ q. places (table_in l) ℓ q s.value) (sym s.asked) ∙ has s.at s.value s.lags,
            sym (allowed j s.value b) ∙ ap (λ q. pattern (black_at k) (word_of n id) q s.value) (sym s.asked)
                ∙ part_pattern (black_at k) (word_of n id) s.at s.value s.allowed,
          )

      -- a digit of the set may stand next to the head, so it is placed, and between the ends
      inner : (d : ℕ) → Memᴰ d (arrangement_of n id).digit_set →
          (j : ℕ) × (0 < j) × (j < length (arrangement_of n id).digit_set + 1) × (places (table_in l) ℓ (place n (arrangement_of n id) j) d ≡ true)
      inner d m = (c.step, mid.0, mid.1, ap (λ p. places (table_in l) ℓ p d) c.there ∙ ap (places (table_in l) ℓ s.at) (sym s.asked) ∙ has s.at s.value s.lags)
        where
          narrow : d < 8
          narrow = digits_narrow (mask_in (id / 9)) d m

          next : 1 < length (arrangement_of n id).digit_set + 1
          next = let x = mem_place m in omega (arith, x.1)

          s : Serves n k l h id (OfValue d)
          s = a.placed (place n (arrangement_of n id) 1) d (place_at 1 (omega (arith, next, known_length n id z y))) narrow
              (part_yes (black_at k) (word_of n id) (place n (arrangement_of n id) 1) d
              (allowed 1 d (omega (arith, next, known_length n id z y)) ∙ allows_mid (black_at k) (arrangement_of n id) d 1 (omega arith) next ∙ any_mem m))

          c : Covers n (black_at k) (arrangement_of n id) s.at d
          c = part_covers s.at d s.within (ap (part (black_at k) (word_of n id) s.at) (sym s.asked) ∙ s.allowed)

          mid : (0 < c.step) × (c.step < length (arrangement_of n id).digit_set + 1)
          mid = digit_mid (black_at k) (arrangement_of n id) c.step d (omega (arith, narrow, black_low k)) c.within c.allowed

-- ---- a line

-- If no strike waits and the live arrangements are those of the target t, then each candidate of the line lies in one of them.
pub supported : (n : ℕ) (ℓ : Line) (k : ℕ) (l : List ℕ) (h t : ℕ) → Size n → Numbered ℓ k → Arc n k l h → ((x v : ℕ) → lag l h x v ≡ cand l x v) →
    ((j : ℕ) → j < lives l k → Memᴰ (arrangement_of n (live l k j)) (arrangements n t)) →
    (i v : ℕ) → i < n → Memᴰ v (half n (first_black ℓ)) → places (table_in l) ℓ i v ≡ true → Supported n (first_black ℓ) t (places (table_in l) ℓ) i v
supported n ℓ k l h t z o a w listed i v hi m e =
    subst (λ b. Supported n b t (places (table_in l) ℓ) i v) o.black (go (sum_find (lives l k) f positive))
  where
    f : ℕ → ℕ
    f j = part (black_at k) (word_of n (live l k j)) i v

    range : (v < 16) × HalfOf (black_at k) v
    range = half_range n (black_at k) v z.high (black_high k) (subst (λ b. Memᴰ v (half n b)) (sym o.black) m)

    positive : sum_over 0 (lives l k) f ≡ 0 → ⊥
    positive q =
        let none = a.tallied.backed i v hi range.0 range.1 (a.tallied.supports i v (omega (arith, z.high)) range.0 ∙ q) in
        let one = eqb-true (cand l (cell_at k i) v) 1 (sym (o.cells l i v) ∙ e) in
        omega arith

    go : (j : ℕ) × (j < lives l k) × (f j ≡ 0 → ⊥) → Supported n (black_at k) t (places (table_in l) ℓ) i v
    go r =
        let j = r.0 in
        let id = live l k j in
        let y = a.tallied.known j r.1 in
        record {
          arrangement = arrangement_of n id;
          listed = listed j r.1;
          alive = alive_live n k id z y ℓ l h o w (a.alive j r.1);
          covers = (covers n (black_at k) (arrangement_of n id) i v).passes (part_covers n k id z y i v hi (one (part (black_at k) (word_of n id) i v) (part_lt (black_at k) (word_of n id) i v) r.2));
        }
      where
        one : (x : ℕ) → x < 2 → (x ≡ 0 → ⊥) → x ≡ 1
        one x b d = omega arith
