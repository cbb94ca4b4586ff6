-- Which arrangements outlive a strike, and why the others are dead. Assumes nothing.
use Prim.Native.Nat.{ℕ, ◌+◌, ◌*◌, ◌/◌, ◌^◌, ◌≤◌, ◌<◌}
use mathlib.Core.Path.{◌≡◌, sym, ap, ◌∙◌, subst}
use mathlib.Core.Logic.{⊎_elim}
use mathlib.Core.Bool.{Bool, true, false, true≢false}
use mathlib.Core.List.{List}
use native.Mathlib.Omega.{arith}
use native.Mathlib.Decide.{ℕ_discrete, dec_lt}
use lib.Bits.{bit_and}
use lib.ListN.{get_or}
use Rattle.bits.specs.Bit.{bit}
use Rattle.bits.proofs.BitLaws.{bit_lt}
use Rattle.rules.specs.Size.{Size}
use Rattle.table.specs.Closed.{place, allows}
use Rattle.queue_state.specs.Slab.{cand, line_mask}
use Rattle.queue_state.proofs.SlabLaws.{cand_in}
use Rattle.lane.specs.declared.Lane.{Lane}
use Rattle.subset_table.specs.Subsets.{mask_in, size_in}
use Rattle.words.specs.Word.{Known, arrangement_of, word_of, set_of, inner_of, from_of, to_of, steps, pattern, part}
use Rattle.words.proofs.WordFacts.{mask_even}
use Rattle.words.proofs.PatternLaws.{part_yes, part_pattern, part_digit, pattern_beyond, black_alone}
use Rattle.words.proofs.WordLaws.{known_subset, known_fits, known_fields, known_steps, known_shaped}
use Rattle.words.proofs.Arranged.{digits_mem, known_length, place_in, steps_place, pattern_allows, inner_place}
use Rattle.arcs.specs.Arc.{DeadArrangement}
use Rattle.table.specs.Lines.{cell_at, black_at}
use Rattle.lane.proofs.LaneLaws.{cell_in}
use Rattle.arcs.proofs.KillLaws.{black_low, set_high}
use Rattle.arcs.proofs.LineLaws.{line_absent, emptied, unplaced}
use Rattle.arcs.specs.Sweep.{Outlives, untouched, backed}
use Rattle.arcs.proofs.TestLaws.{test_taken, test_left, apart, meeting}
use Rattle.arcs.specs.Have.{test_of, Have, HavingAsk, Tested}

-- ---- the places that have a digit

module _ (lane : Lane) where
  pub lane_cand : (l : List ℕ) (q v : ℕ) → q < 9 → bit v (get_or l (lane.start + q * lane.stride) 0) ≡ cand l (cell_at lane.number q) v
  lane_cand l q v h =
      ap (λ x. bit v (get_or l x 0)) (lane.cells q h) ∙ sym (cand_in l (cell_at lane.number q) v (cell_in lane.number q lane.within h))

  -- the line's mask says who has the value
  pub having_mask : (l : List ℕ) (v : ℕ) → HavingAsk lane v l → Have lane v l lane.len (line_mask l lane.number v)
  unfolding Have
  having_mask l v a q h =
      lane_cand l q v (omega (arith, a.few)) ∙ sym (a.sized.masks.bits lane.number q v lane.within (omega (arith, a.few)) a.value)

-- ---- a known arrangement

module _ (n ℓ p v id : ℕ) (l : List ℕ) (z : Size n) (y : Known n id) (hp : p < n) where
  -- its cell at p has no candidate of the pattern
  empty_dead : (o : ℕ) → pattern (black_at ℓ) (word_of n id) p o ≡ true →
      ((u : ℕ) → pattern (black_at ℓ) (word_of n id) p u ≡ true → cand l (cell_at ℓ p) u ≡ 0) → DeadArrangement n ℓ l id
  empty_dead o t f =
      emptied (steps n (from_of (word_of n id)) p)
      (omega (arith, reach (dec_lt (steps n (from_of (word_of n id)) (to_of (word_of n id))) (steps n (from_of (word_of n id)) p)), known_length n id z y))
      (λ u e. line_absent l ℓ _ u (subst (λ q. cand l (cell_at ℓ q) u ≡ 0) (sym (steps_place n id z y p hp)) (f u (there u e))))
    where
      reach : Dec (steps n (from_of (word_of n id)) (to_of (word_of n id)) < steps n (from_of (word_of n id)) p) →
          steps n (from_of (word_of n id)) p < size_in (id / 9) + 2
      reach (yes b) = absurd (true≢false (sym t ∙ pattern_beyond n (black_at ℓ) (word_of n id) (known_shaped n id z y) (black_low ℓ) p o hp b))
      reach (no b) = omega (arith, known_steps n id z y)

      there : (u : ℕ) → allows (black_at ℓ) (arrangement_of n id) (steps n (from_of (word_of n id)) p) u ≡ true → pattern (black_at ℓ) (word_of n id) p u ≡ true
      there u e =
          ap (λ q. pattern (black_at ℓ) (word_of n id) q u) (sym (steps_place n id z y p hp))
          ∙ pattern_allows n id z y (black_at ℓ) (steps n (from_of (word_of n id)) p) u (black_low ℓ)
          (reach (dec_lt (steps n (from_of (word_of n id)) (to_of (word_of n id))) (steps n (from_of (word_of n id)) p)))
          ∙ e

  -- a black that is struck leaves its place empty
  pub black_dead : 8 ≤ v → part (black_at ℓ) (word_of n id) p v ≡ 1 → cand l (cell_at ℓ p) v ≡ 0 → DeadArrangement n ℓ l id
  black_dead h e c =
      let t = part_pattern (black_at ℓ) (word_of n id) p v e in
      empty_dead v t
      (λ u q. ap (cand l (cell_at ℓ p)) (black_alone n (black_at ℓ) (word_of n id) (known_shaped n id z y) (black_low ℓ) p u v h t q) ∙ c)

  -- ---- a digit is struck: x is the word, cands the struck cell

  module _ (h : v < 8) (line : ℓ < 18) (x have cands : ℕ) (r : Bool) (e : x ≡ word_of n id) (c : cands ≡ get_or l (cell_at ℓ p) 0)
      (t : Tested x (test_of v p) have cands r) where
    narrow : p < 9
    narrow = omega (arith, z.high)

    cell : (u : ℕ) → cand l (cell_at ℓ p) u ≡ bit u cands
    cell u = cand_in l (cell_at ℓ p) u (cell_in ℓ p line narrow) ∙ ap (bit u) (sym c)

    pub tested_kept : (lane : Lane) → ℓ ≡ lane.number → Have lane v l n have → x < 2 ^ 32 → cands < 2 ^ 16 → r ≡ true → Outlives n ℓ l p v id
    unfolding Have
    tested_kept lane a f b d o =
        elim (ℕ_discrete (bit_and x (test_of v p)) (test_of v p)) [
          | no q ↦ untouched (ap (λ x. part (black_at ℓ) x p v) (sym e) ∙ test_left x v p h narrow (black_at ℓ) b q)
          | yes q ↦ let s = t.keeps o q in go (test_taken x v p h narrow q) (meeting 16 cands (set_of x) d s.1) (meeting 9 (inner_of x) have (omega arith) s.0)
        ]
      where
        -- what the word has at an inner place
        has : (i u : ℕ) → u < 16 → bit i (inner_of x) ≡ 1 → bit u (set_of x) ≡ 1 → part (black_at ℓ) (word_of n id) i u ≡ 1
        has i u k b c = ap (λ x. part (black_at ℓ) x i u) (sym e) ∙ omega (arith, part_digit (black_at ℓ) x i u (low (dec_lt u 8)))
          where
            low : Dec (u < 8) → u < 8
            low (yes a) = a
            low (no a) = absurd (omega (arith, set_high x u (omega arith)))

        go : (bit v (set_of x) ≡ 1) × (bit p (inner_of x) ≡ 1) → (i : ℕ) × (i < 16) × (bit i cands ≡ 1) × (bit i (set_of x) ≡ 1) →
            (i : ℕ) × (i < 9) × (bit i (inner_of x) ≡ 1) × (bit i have ≡ 1) → Outlives n ℓ l p v id
        go q m s =
            backed m.0 s.0 m.1
            (has p m.0 m.1 q.1 m.3)
            (cell m.0 ∙ m.2)
            within
            (has s.0 v (omega arith) s.2 q.0)
            (ap (λ ℓ. cand l (cell_at ℓ s.0) v) a ∙ sym (lane_cand lane l s.0 v (omega (arith, within, z.high))) ∙ f s.0 within ∙ s.3)
          where
            within : s.0 < n
            within = near (dec_lt s.0 n)
              where
                near : Dec (s.0 < n) → s.0 < n
                near (yes a) = a
                near (no a) = absurd (omega (arith, s.2, ap (λ x. bit s.0 (inner_of x)) e, (known_shaped n id z y).past s.0 (omega arith) s.1))

    pub tested_dead : (lane : Lane) → ℓ ≡ lane.number → Have lane v l n have → r ≡ false → DeadArrangement n ℓ l id
    unfolding Have arrangement_of
    tested_dead lane a f o = ⊎_elim (λ q. nowhere q) (λ q. empty q) (t.drops o).1
      where
        has : (bit v (set_of x) ≡ 1) × (bit p (inner_of x) ≡ 1)
        has = test_taken x v p h narrow (t.drops o).0

        -- the cell has no digit of the set
        empty : bit_and cands (set_of x) ≡ 0 → DeadArrangement n ℓ l id
        empty q =
            empty_dead v (ap (λ x. pattern (black_at ℓ) x p v) (sym e) ∙ part_pattern (black_at ℓ) x p v
            (omega (arith, part_digit (black_at ℓ) x p v h, has.0, has.1)))
            (λ u s. other u (ap (λ x. pattern (black_at ℓ) x p u) e ∙ s) (dec_lt u 8))
          where
            other : (u : ℕ) → pattern (black_at ℓ) x p u ≡ true → Dec (u < 8) → cand l (cell_at ℓ p) u ≡ 0
            other u s (yes i) =
                let k = part_yes (black_at ℓ) x p u s in
                let b : bit u (set_of x) ≡ 1 = omega (arith, part_digit (black_at ℓ) x p u i, bit_lt u (set_of x)) in
                cell u ∙ gone u b
              where
                gone : (u : ℕ) → bit u (set_of x) ≡ 1 → bit u cands ≡ 0
                gone u b = go (ℕ_discrete (bit u cands) 1)
                  where
                    go : Dec (bit u cands ≡ 1) → bit u cands ≡ 0
                    go (yes m) = absurd (omega (arith, apart cands (set_of x) q u m))
                    go (no m) = omega (arith, bit_lt u cands)
            other u s (no i) =
                let q : v ≡ u = black_alone n (black_at ℓ) (word_of n id) (known_shaped n id z y) (black_low ℓ) p v u (omega arith)
                (ap (λ x. pattern (black_at ℓ) x p u) (sym e) ∙ s)
                (ap (λ x. pattern (black_at ℓ) x p v) (sym e) ∙ part_pattern (black_at ℓ) x p v
                (omega (arith, part_digit (black_at ℓ) x p v h, has.0, has.1))) in
                absurd (omega arith)

        -- the digit has no place
        nowhere : bit_and (inner_of x) have ≡ 0 → DeadArrangement n ℓ l id
        nowhere q =
            unplaced v (digits_mem (mask_in (id / 9)) v (mask_even (id / 9) (known_subset n id z y)) h
            (ap (bit v) (sym (known_fields n id z y).set_is ∙ ap set_of (sym e)) ∙ has.0))
            (λ j b c. line_absent l ℓ _ v (none j b (omega (arith, known_length n id z y))))
          where
            none : (j : ℕ) → 0 < j → j < size_in (id / 9) + 1 → cand l (cell_at ℓ (place n (arrangement_of n id) j)) v ≡ 0
            none j b c =
                let s = place n (arrangement_of n id) j in
                let i : s < n = place_in n id z y j (omega (arith, known_fits n id z y)) in
                let k : bit s (inner_of x) ≡ 1 = ap (λ x. bit s (inner_of x)) e ∙ inner_place n id z y j b c in
                omega (arith, apart (inner_of x) have q s k, f s i, lane_cand lane l s v (omega (arith, z.high)), ap (λ m. cand l (cell_at m s) v) a)
