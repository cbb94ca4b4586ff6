-- The counters of the fresh state are right, nothing being struck. Assumes nothing.
use Prim.Native.Nat.{ℕ, ◌+◌, ◌/◌, ◌%◌, ◌≤◌, ◌<◌}
use mathlib.Core.Path.{◌≡◌, refl, sym, ◌∙◌}
use mathlib.Core.Logic.{inr}
use mathlib.Core.Bool.{Bool, true, cond}
use mathlib.Core.List.{List}
use native.Mathlib.Omega.{arith}
use native.Mathlib.Decide.{dec_lt}
use lib.Dec.{eqb, ltb}
use lib.ListN.{get_or}
use borrow.Author.Tests.{lt-ltb, le-ltb, eqb-true}
use Rattle.tally.specs.Tally.{span, all}
use Rattle.rules.specs.Grid.{Line, across, down}
use Rattle.rules.proofs.SizeLaws.{at_size}
use Rattle.rules.specs.Size.{Size}
use Rattle.bits.specs.Sum.{sum_over}
use Rattle.bits.proofs.SumLaws.{sum_same}
use Rattle.queue_state.specs.Layout.{row_half_at, row_blacks_at, lengths_at}
use Rattle.queue_state.specs.Slab.{cand, lag}
use Rattle.queue_state.proofs.SlabLaws.{cand_lt}
use Rattle.queue_state.proofs.ReadyLaws.{ready_valid}
use Rattle.table.specs.Value.{ValueOf}
use Rattle.fresh.specs.Fresh.{cell_in, Fresh}
use Rattle.fresh.proofs.FreshLaws.{full_cand, full_bit, full_bit_lem, fresh_cand, fresh_lag, fresh_full, fresh_ready}
use Rattle.counters.specs.Counters.{Fam, Ruled, AllSet, NoBlacks, InGrid, half_value, place_along, halves_base, places_base, halves, line_places, blacks_base, own_black, cross_black, cell_blacks, HalvesOf, PlacesOf, BlacksOf, Halves, LinePlaces, Blacks}
use Rattle.counters.proofs.Families.{value_narrow}

-- ---- sums computed at each size

half_test : Line → ℕ → Bool
half_test ℓ n = eqb (sum_over 0 9 (λ (j : ℕ). cond (full_bit n (half_value ℓ j)) 1 0)) n

half_right : (ℓ : Line) → all (half_test ℓ) (span 2 8) ≡ true
unfolding half_test full_bit span all sum_over
half_right (across r) = refl
half_right (down c) = refl

place_test : ℕ → Bool
place_test n = eqb (sum_over 0 9 (λ (j : ℕ). cond (ltb j n) 1 0)) n

place_right : all place_test (span 2 8) ≡ true
unfolding place_test span all sum_over
place_right = refl

-- ---- places of the counters, and of the cells of a line

halves_place : (ℓ : Line) → (row_half_at ≤ halves_base ℓ) × (halves_base ℓ + 81 ≤ row_blacks_at)
halves_place (across r) = (omega arith, omega arith)
halves_place (down c) = (omega arith, omega arith)

places_place : (ℓ : Line) → (row_half_at ≤ places_base ℓ) × (places_base ℓ + 144 ≤ row_blacks_at)
places_place (across r) = (omega arith, omega arith)
places_place (down c) = (omega arith, omega arith)

blacks_place : (ℓ : Line) → (row_blacks_at ≤ blacks_base ℓ) × (blacks_base ℓ + 81 ≤ lengths_at)
blacks_place (across r) = (omega arith, omega arith)
blacks_place (down c) = (omega arith, omega arith)

black_value : (ℓ : Line) → (8 ≤ own_black ℓ) × (own_black ℓ ≤ 10)
black_value (across r) = (omega arith, omega arith)
black_value (down c) = (omega arith, omega arith)

place_in : (ℓ : Line) (n k j : ℕ) → n ≤ 9 → k < n → j < n → InGrid n (place_along ℓ k j)
place_in (across r) n k j z h q = (omega arith, omega arith)
place_in (down c) n k j z h q = (omega arith, omega arith)

place_out : (ℓ : Line) (n k j : ℕ) → n ≤ 9 → k < n → j < 9 → InGrid n (place_along ℓ k j) → j < n
place_out (across r) n k j z h q g = omega (arith, g.1)
place_out (down c) n k j z h q g = omega (arith, g.0)

-- ---- the fresh state

module _ {n : ℕ} {l : List ℕ} (s : Size n) (f : Fresh n l) where
  -- a family of which each counter has m, more than is low, and whose candidates sum to m
  started : (F : Fam) (low m : ℕ) (Rule : List ℕ → ℕ → Type 0) (g : ℕ → ℕ) → low < m → ((i : ℕ) → F.used n i → get_or l (F.base + i) 0 ≡ m) →
      ((i j : ℕ) → F.used n i → j < F.n → cand l (F.cell i j) (F.value i j) ≡ g j) → sum_over 0 F.n g ≡ m → Ruled F low Rule n l 0
  started F low m Rule g h at has e =
      record {
        counts = λ i u. at i u ∙ sym (sum_same 0 F.n (λ (j : ℕ). lag l 0 (F.cell i j) (F.value i j)) g (λ j p q. term i j u (omega arith)) ∙ e);
        rule = λ i u k. absurd (omega (arith, at i u));
      }
    where
      term : (i j : ℕ) → F.used n i → j < F.n → lag l 0 (F.cell i j) (F.value i j) ≡ g j
      term i j u q = fresh_lag s f (F.cell i j) (F.value i j) ∙ has i j u q

  -- a cell of the grid has the values of the size
  cell_cand : (x v : ℕ) → InGrid n x → v < 16 → cand l x v ≡ cond (full_bit n v) 1 0
  unfolding full_cand cell_in
  cell_cand x v g h =
      fresh_cand s f x v (omega (arith, g.0, s.high)) ∙ rw (lt-ltb (x / 9) n g.0, lt-ltb (x % 9) n g.1) (full_bit_lem n v s h)

  -- a value of the size is in the cells of a line that lie in the grid
  line_cand : (ℓ : Line) (k j v : ℕ) → k < n → j < 9 → v < 16 → ValueOf n v → cand l (place_along ℓ k j) v ≡ cond (ltb j n) 1 0
  line_cand ℓ k j v a b h o = go (dec_lt j n)
    where
      go : Dec (j < n) → cand l (place_along ℓ k j) v ≡ cond (ltb j n) 1 0
      go (yes q) =
          let g = place_in ℓ n k j s.high a q in
          rw (lt-ltb j n q) (fresh_full s f (place_along ℓ k j) v h (record { row = g.0; column = g.1; value = o }))
      go (no q) = rw (le-ltb j n (omega arith)) (none (dec_lt 0 (cand l (place_along ℓ k j) v)))
        where
          none : Dec (0 < cand l (place_along ℓ k j) v) → cand l (place_along ℓ k j) v ≡ 0
          none (yes t) =
              let w = ready_valid (fresh_ready s f) (place_along ℓ k j) v h (omega (arith, cand_lt l (place_along ℓ k j) v)) in
              absurd (q (place_out ℓ n k j s.high a b (w.row, w.column)))
          none (no t) = omega arith

  black_cand : (ℓ : Line) (x j : ℕ) → InGrid n x → j < 2 → cand l x (own_black ℓ + j) ≡ 1
  unfolding ValueOf
  black_cand ℓ x j g h =
      let b = black_value ℓ in
      fresh_full s f x (own_black ℓ + j) (omega (arith, b.1)) (record { row = g.0; column = g.1; value = inr (omega (arith, b.0), omega (arith, b.1)) })

  halves_of : (ℓ : Line) → HalvesOf ℓ n l 0
  unfolding half_test
  halves_of ℓ =
      let b = halves_place ℓ in
      started
      (halves ℓ)
      1
      n
      (AllSet (halves ℓ))
      (λ (j : ℕ). cond (full_bit n (half_value ℓ j)) 1 0)
      (omega (arith, s.low))
      (λ i u. f.counters (halves_base ℓ + i) (omega (arith, b.0)) (omega (arith, b.1, u.0, s.high)))
      (λ i j u h. cell_cand i (half_value ℓ j) u (omega (arith, (value_narrow ℓ j h).1)))
      (eqb-true (sum_over 0 9 (λ (j : ℕ). cond (full_bit n (half_value ℓ j)) 1 0)) n (at_size (half_test ℓ) (half_right ℓ) n s))

  places_of : (ℓ : Line) → PlacesOf ℓ n l 0
  unfolding place_test
  places_of ℓ =
      let b = places_place ℓ in
      started
      (line_places ℓ)
      1
      n
      (AllSet (line_places ℓ))
      (λ (j : ℕ). cond (ltb j n) 1 0)
      (omega (arith, s.low))
      (λ i u. f.counters (places_base ℓ + i) (omega (arith, b.0)) (omega (arith, b.1, u.0, s.high)))
      (λ i j u h. line_cand ℓ (i / 16) j (i % 16) u.0 h (omega arith) u.1)
      (eqb-true (sum_over 0 9 (λ (j : ℕ). cond (ltb j n) 1 0)) n (at_size place_test place_right n s))

  blacks_of : (ℓ : Line) → BlacksOf ℓ n l 0
  unfolding sum_over
  blacks_of ℓ =
      let b = blacks_place ℓ in
      started
      (cell_blacks ℓ)
      0
      2
      (NoBlacks (cross_black ℓ))
      (λ (j : ℕ). 1)
      (omega arith)
      (λ i u. f.blacks (blacks_base ℓ + i) (omega (arith, b.0)) (omega (arith, b.1, u.0, s.high)))
      (λ i j u h. black_cand ℓ i j u h)
      refl

-- In the fresh state the counters of halves are right.
pub started_halves : (n : ℕ) (l : List ℕ) → Size n → Fresh n l → Halves n l 0
started_halves n l s f = record { rows = halves_of s f (across 0); columns = halves_of s f (down 0) }

-- In the fresh state the counters of places in a line are right.
pub started_places : (n : ℕ) (l : List ℕ) → Size n → Fresh n l → LinePlaces n l 0
started_places n l s f = record { rows = places_of s f (across 0); columns = places_of s f (down 0) }

-- In the fresh state the counters of blacks are right.
pub started_blacks : (n : ℕ) (l : List ℕ) → Size n → Fresh n l → Blacks n l 0
started_blacks n l s f = record { rows = blacks_of s f (across 0); columns = blacks_of s f (down 0) }
