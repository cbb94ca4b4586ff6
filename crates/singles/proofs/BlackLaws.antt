-- The handler of a cell's blacks: its three ways out. Assumes nothing.
use Prim.Native.Nat.{ℕ, suc, ◌+◌, ◌-◌, ◌*◌, ◌/◌, ◌%◌, ◌≤◌, ◌<◌}
use mathlib.Core.Path.{◌≡◌, refl, sym, ◌∙◌}
use mathlib.Core.Bool.{Bool, true, false, ◌||◌, true≢false}
use mathlib.Core.Logic.{⊎_elim}
use mathlib.Core.List.{List}
use native.Mathlib.Omega.{arith}
use lib.Dec.{eqb, ltb, leb}
use lib.ListN.{get_or, set}
use borrow.Author.Tests.{eqb-true, eq-eqb, le-leb, lt-ltb, leb-true, ltb-true}
use Rattle.tally.specs.Tally.{span, all}
use Rattle.tally.proofs.TallyLaws.{and_both, or_split}
use Rattle.rules.specs.Grid.{Line, across, down}
use Rattle.table.specs.Table.{first_black}
use Rattle.table.specs.Lines.{row_of, column_of, cell_of}
use Rattle.bits.specs.Bit.{bit}
use Rattle.bits.specs.Sum.{sum_over}
use Rattle.bits.proofs.SumLaws.{sum_has}
use Rattle.queue_state.specs.Layout.{counters_at}
use Rattle.queue_state.specs.Slab.{cand, table_in, Sized, Struck, Masked, CounterAsk}
use Rattle.queue_state.proofs.SlabLaws.{cand_lt}
use Rattle.queue_state.proofs.StruckLaws.{grown_sized, grown_gone}
use Rattle.queue_state.specs.Ready.{Ready}
use Rattle.set_cell.proofs.MaskBits.{MaskIs, bit_test, mask_is}
use Rattle.set_cell.proofs.SettingLaws.{and_two, or_left, or_right}
use Rattle.set_cell.proofs.SetLaws.{yes_table, table_yes, table_no}
use Rattle.line_laws.proofs.CellValues.{value_range}
use Rattle.counters.specs.Counters.{Fell, NoBlacks, blacks_base, own_black, cross_black, cell_blacks, BlacksOf}
use Rattle.counters.proofs.CounterLaws.{fell_lower, fell_struck, fell_moved, moved_refl, ruled_pass, ruled_positive, ruled_most, ruled_done}
use Rattle.counters.proofs.Families.{black_range, fine_blacks}
use Rattle.counters.proofs.Lines.{cell_is, in_grid, no_place}
use Rattle.singles.proofs.ReasonLaws.{still_lower}
use Rattle.singles.specs.Reasons.{Reason, crossed, done, step}
use Rattle.singles.specs.Handling.{black_of, cross_mask, BlacksAt, BlacksAsk, BlacksDone}

-- ---- the test
black_yes : (k v : ℕ) → k ≤ v → v < k + 2 → black_of k v ≡ true
black_yes k v h l = and_both (le-leb k v h) (lt-ltb v (k + 2) l)

black_of_lem : (k v : ℕ) → black_of k v ≡ true → (k ≤ v) × (v < k + 2)
black_of_lem k v t = let q = and_two (leb k v) (ltb v (k + 2)) t in (leb-true k v q.0, ltb-true v (k + 2) q.1)

-- ---- the mask
cross_mask_lem : (ℓ : Line) → MaskIs (cross_mask ℓ) (λ w. eqb w (cross_black ℓ) || eqb w (cross_black ℓ + 1))
unfolding all span bit_test bit
cross_mask_lem (across r) = mask_is 3072 (λ w. eqb w 10 || eqb w 11) refl
cross_mask_lem (down c) = mask_is 768 (λ w. eqb w 8 || eqb w 9) refl

cross_high : (ℓ : Line) → 8 ≤ cross_black ℓ
cross_high (across r) = omega arith
cross_high (down c) = omega arith

own_first : (ℓ : Line) → own_black ℓ ≡ first_black ℓ
unfolding first_black
own_first (across r) = refl
own_first (down c) = refl

module _ {n counter x mask : ℕ} {own : Bool} {l : List ℕ} {ℓ : Line} {i h v : ℕ} (ready : Ready n l) (a : BlacksAt n l own counter x mask ℓ i h v) where
  high : n ≤ 9
  high = ready.size.high

  narrow : v < 16
  narrow = omega (arith, value_range high a.value)

  grid : (x / 9 < n) × (x % 9 < n)
  grid = rw a.there (in_grid n ℓ i high a.line a.place)

  from : counters_at ≤ counter
  from = omega (arith, a.at_counter, black_range ℓ)

  -- the strike is of no black of the line
  pub blacks_pass : own ≡ false → BlacksOf ℓ n l (h + 1)
  blacks_pass t =
      ruled_pass (cell_blacks ℓ) 0 (NoBlacks (cross_black ℓ)) (fine_blacks ℓ) n high narrow a.next a.blacks
      (λ k j u b e f. true≢false (sym (black_yes (own_black ℓ) v (omega arith) (omega arith)) ∙ sym a.owned ∙ t))

  module _ (t : own ≡ true) where
    own_range : (own_black ℓ ≤ v) × (v < own_black ℓ + 2)
    own_range = black_of_lem (own_black ℓ) v (sym a.owned ∙ t)

    pub blacks_countable : CounterAsk l counter
    blacks_countable =
        record {
          size = ready.sized.size;
          from = from;
          to = omega (arith, a.at_counter, black_range ℓ, grid, high);
          positive = rw a.at_counter
              (ruled_positive (cell_blacks ℓ) 0 (NoBlacks (cross_black ℓ)) (fine_blacks ℓ) n high narrow a.next a.blacks x (v - own_black ℓ) grid
              (omega (arith, own_range)) refl (omega (arith, own_range)));
        }

    module _ {l₂ : List ℕ} (f : Fell l l₂ counter) where
      fell : Fell l l₂ (blacks_base ℓ + x)
      fell = rw a.at_counter at f

      most : sum_over 0 2 (λ (j : ℕ). cand l x (own_black ℓ + j)) ≤ get_or l₂ counter 0
      most =
          rw a.at_counter
          (ruled_most (cell_blacks ℓ) 0 (NoBlacks (cross_black ℓ)) (fine_blacks ℓ) n high narrow a.next a.blacks x (v - own_black ℓ) grid
          (omega (arith, own_range)) refl
          (omega (arith, own_range)) fell)

      finish : (get_or l₂ counter 0 ≤ 0 → NoBlacks (cross_black ℓ) l₂ x) → BlacksOf ℓ n l₂ (h + 1)
      finish r =
          ruled_done (cell_blacks ℓ) 0 (NoBlacks (cross_black ℓ)) (fine_blacks ℓ) n high narrow a.next a.blacks x (v - own_black ℓ) grid
          (omega (arith, own_range)) refl
          (omega (arith, own_range)) fell (λ m. r (rw a.at_counter m))

      -- one is left
      pub blacks_far : (get_or l₂ counter 0 ≡ 0 → ⊥) → BlacksOf ℓ n l₂ (h + 1)
      blacks_far d = finish (λ m. absurd (d (omega arith)))

      none : get_or l₂ counter 0 ≡ 0 → (j : ℕ) → j < 2 → cand l₂ x (own_black ℓ + j) ≡ 0
      none z j b =
          grown_gone f.grown x (own_black ℓ + j) (omega (arith, black_range ℓ))
          (omega (arith, most, sum_has 0 2 j (λ (j : ℕ). cand l x (own_black ℓ + j)) (omega arith) (omega arith)))

    -- none is left: the others are struck
    module _ {l₁ l₂ : List ℕ} (f : Fell l l₁ counter) (s : Struck l₁ l₂ (Masked x mask)) where
      hit : (w : ℕ) → w < 16 → (eqb w (cross_black ℓ) || eqb w (cross_black ℓ + 1)) ≡ true → cand l₂ x w ≡ 0
      unfolding Masked
      hit w k e = s.gone x w k (refl, rw a.at_mask ((cross_mask_lem ℓ).has w k e))

      pub blacks_cleared : BlacksOf ℓ n l₂ (h + 1)
      blacks_cleared =
          finish (fell_struck from f s) (λ m. (
            hit (cross_black ℓ) (omega (arith, black_range ℓ)) (or_left (eqb (cross_black ℓ) (cross_black ℓ)) (eqb (cross_black ℓ) (cross_black ℓ + 1))
                (eq-eqb (cross_black ℓ) (cross_black ℓ) refl)),
            hit (cross_black ℓ + 1) (omega (arith, black_range ℓ)) (or_right (eqb (cross_black ℓ + 1) (cross_black ℓ)) (eqb (cross_black ℓ + 1) (cross_black ℓ + 1))
                (eq-eqb (cross_black ℓ + 1) (cross_black ℓ + 1) refl)),
          ))

      pub blacks_reason : get_or l₁ counter 0 ≡ 0 → Reason n l₁ l₂
      unfolding Masked
      blacks_reason z =
          crossed ℓ i a.line a.place
          (no_place l₁ ℓ i (first_black ℓ) (own_gone 0 (first_black ℓ) (omega arith) (omega (arith, own_first ℓ))))
          (no_place l₁ ℓ i (suc (first_black ℓ)) (own_gone 1 (suc (first_black ℓ)) (omega arith) (omega (arith, own_first ℓ))))
          (λ r c w hr hc hw e. yes_table l₁ r c w (omega (arith, table_yes l₂ r c w e, s.grown.sub (r * 9 + c) w hw, cand_lt l₁ (r * 9 + c) w)))
          lost
        where
          own_gone : (j w : ℕ) → j < 2 → own_black ℓ + j ≡ w → cand l₁ (cell_of ℓ i) w ≡ 0
          own_gone j w b e = rw (a.there, e) at (none f z j b)

          lost : (r c w : ℕ) → r < 9 → c < 9 → w < 16 → table_in l₁ r c w ≡ true → table_in l₂ r c w ≡ false → (r ≡ row_of ℓ i) × (c ≡ column_of ℓ i) × (8 ≤ w)
          lost r c w hr hc hw e d =
              let q = s.only (r * 9 + c) w hw (table_yes l₁ r c w e) (table_no l₂ r c w d) in
              let p = cell_is ℓ i (omega (arith, a.line, high)) (omega (arith, a.place, high)) in
              let y : r * 9 + c ≡ cell_of ℓ i = q.0 ∙ a.there in (
                omega (arith, p.0),
                omega (arith, p.1),
                ⊎_elim (λ u. omega (arith, eqb-true w (cross_black ℓ) u, cross_high ℓ)) (λ u. omega (arith, eqb-true w (cross_black ℓ + 1) u, cross_high ℓ))
                    (or_split (eqb w (cross_black ℓ)) (eqb w (cross_black ℓ + 1)) ((cross_mask_lem ℓ).only w hw (rw a.at_mask at q.1))),
              )

-- ---- the ways out, as the code has them
module _ {n counter x mask : ℕ} {own : Bool} {l : List ℕ} (a : BlacksAsk n l own counter x mask) where
  pub blacks_cell : x < 81
  blacks_cell = omega (arith, grid a.ready a.counted, high a.ready a.counted)

  pub blacks_passed : own ≡ false → BlacksDone n l l own counter x mask
  blacks_passed t = record { moved = moved_refl l; steps = done; blacks = λ ℓ i h v b. blacks_pass a.ready b t }

  module _ (t : own ≡ true) where
    pub blacks_lower : CounterAsk l counter
    blacks_lower = blacks_countable a.ready a.counted t

    module _ {r : ℕ} {l₁ : List ℕ} (e : (r ≡ get_or l counter 0 - 1) × (l₁ ≡ set l counter (get_or l counter 0 - 1))) where
      fell_one : Fell l l₁ counter
      fell_one = fell_lower a.ready.sized blacks_lower e.1

      lowered : Reason n l l₁
      lowered = still_lower a.ready.sized blacks_lower.from e.1

      pub blacks_more : (r ≡ 0 → ⊥) → BlacksDone n l l₁ own counter x mask
      blacks_more d =
          record {
            moved = fell_moved fell_one (omega arith) (omega arith);
            steps = step lowered done;
            blacks = λ ℓ i h v b. blacks_far a.ready b t fell_one (λ q. d (omega (arith, fell_one.here, e.0)));
          }

      pub blacks_sized : Sized l₁
      blacks_sized = grown_sized fell_one.grown a.ready.sized

      pub blacks_struck : {l₂ : List ℕ} → r ≡ 0 → Struck l₁ l₂ (Masked x mask) → BlacksDone n l l₂ own counter x mask
      blacks_struck o s =
          record {
            moved = fell_moved (fell_struck blacks_lower.from fell_one s) (omega arith) (omega arith);
            steps = step lowered
                (step (blacks_reason a.ready a.counted t fell_one s (omega (arith, fell_one.here, e.0, blacks_lower.positive))) done);
            blacks = λ ℓ i h v b. blacks_cleared a.ready b t fell_one s;
          }
