-- The handler of a half: its four ways out. Assumes nothing.
use Prim.Native.Nat.{ℕ, ◌+◌, ◌-◌, ◌/◌, ◌%◌, ◌^◌, ◌≤◌, ◌<◌}
use mathlib.Core.Path.{◌≡◌, refl, sym, ap, ◌∙◌}
use mathlib.Core.Bool.{Bool, true, false, ◌&&◌, true≢false}
use mathlib.Core.List.{List}
use native.Mathlib.Omega.{arith}
use native.Mathlib.Decide.{ℕ_discrete}
use lib.Dec.{ltb, leb}
use lib.ListN.{get_or, set}
use lib.Bits.{bit_and}
use lib.Count.{ones, count_trailing_zeros}
use borrow.Author.Tests.{leb-true, ltb-true, le-leb, lt-ltb}
use Rattle.tally.specs.Tally.{span, all}
use Rattle.tally.proofs.TallyLaws.{and_both}
use Rattle.rules.specs.Grid.{Line, across, down}
use Rattle.bits.specs.Bit.{bit}
use Rattle.bits.specs.Sum.{sum_over}
use Rattle.bits.proofs.SumLaws.{sum_has, sum_lone}
use Rattle.queue_state.specs.Layout.{counters_at, row_half_at, col_half_at}
use Rattle.queue_state.specs.Slab.{cand, Struck, CounterAsk}
use Rattle.queue_state.proofs.SlabLaws.{cand_in, cand_lt}
use Rattle.queue_state.proofs.StruckLaws.{grown_gone}
use Rattle.queue_state.proofs.ReadyLaws.{ready_grown, ready_valid}
use Rattle.queue_state.specs.Ready.{Ready}
use Rattle.table.specs.Value.{ValueOf}
use Rattle.set_cell.proofs.MaskBits.{bit_test, mask_is}
use Rattle.set_cell.specs.Setting.{SetHit, SetAsk}
use Rattle.set_cell.proofs.SettingLaws.{and_two}
use Rattle.line_laws.proofs.CellValues.{value_range}
use Rattle.counters.specs.Counters.{Fell, IsSet, AllSet, in_line, half_value, halves_base, halves, HalvesOf}
use Rattle.counters.proofs.CounterLaws.{fell_lower, fell_struck, fell_moved, moved_refl, ruled_pass, ruled_positive, ruled_most, ruled_done}
use Rattle.counters.proofs.Families.{value_narrow, value_in, HalfPlace, half_place, fine_halves}
use Rattle.counters.proofs.Lines.{in_grid, place_yes, half_in, in_half}
use Rattle.singles.proofs.ReasonLaws.{still_lower, taken_at}
use Rattle.singles.specs.Reasons.{Reason, naked, done, step}
use Rattle.singles.proofs.LoneBit.{LoneBit, lone_bit, bit_alone}
use Rattle.singles.specs.Handling.{half_mask, HalfAt, HalfAsk, HalfDone}

-- ---- the mask of a half

in_mask : Line → ℕ → Bool
in_mask ℓ w = leb 1 w && (ltb w 12 && in_line ℓ w)

mask_all : (ℓ : Line) → all (bit_test (half_mask ℓ) (in_mask ℓ)) (span 0 16) ≡ true
unfolding all span bit_test in_mask bit
mask_all (across r) = refl
mask_all (down c) = refl

mask_has : (ℓ : Line) (w : ℕ) → w < 16 → bit w (half_mask ℓ) ≡ 1 → (1 ≤ w) × (w < 12) × (in_line ℓ w ≡ true)
unfolding in_mask
mask_has ℓ w h e =
    let q = and_two (leb 1 w) (ltb w 12 && in_line ℓ w) ((mask_is (half_mask ℓ) (in_mask ℓ) (mask_all ℓ)).only w h e) in
    let u = and_two (ltb w 12) (in_line ℓ w) q.1 in
    (leb-true 1 w q.0, ltb-true w 12 u.0, u.1)

has_mask : (ℓ : Line) (w : ℕ) → 1 ≤ w → w < 12 → in_line ℓ w ≡ true → bit w (half_mask ℓ) ≡ 1
unfolding in_mask
has_mask ℓ w a b t =
    (mask_is (half_mask ℓ) (in_mask ℓ) (mask_all ℓ)).has w (omega arith) (and_both (le-leb 1 w a) (and_both (lt-ltb w 12 b) t))

mask_narrow : (ℓ : Line) → half_mask ℓ < 2 ^ 16
mask_narrow (across r) = omega arith
mask_narrow (down c) = omega arith

base_range : (ℓ : Line) → (row_half_at ≤ halves_base ℓ) × (halves_base ℓ ≤ col_half_at)
base_range (across r) = omega arith
base_range (down c) = omega arith

-- ---- what is set, and what is not there

pub set_now : {l l' : List ℕ} (x v : ℕ) → Struck l l' (SetHit (x / 9) (x % 9) v) → IsSet l' x v
set_now x v s = record { struck = λ e y w h t. s.gone y w h t }

pub set_never : {l : List ℕ} (x v : ℕ) → cand l x v ≡ 0 → IsSet l x v
set_never x v z = record { struck = λ e. absurd (omega arith) }

module _ {n counter x mask : ℕ} {own : Bool} {l : List ℕ} {ℓ : Line} {i h v : ℕ} (ready : Ready n l) (a : HalfAt n l own counter x mask ℓ i h v) where
  high : n ≤ 9
  high = ready.size.high

  range : (1 ≤ v) × (v < 12)
  range = value_range high a.value

  grid : (x / 9 < n) × (x % 9 < n)
  grid = rw a.there (in_grid n ℓ i high a.line a.place)

  from : counters_at ≤ counter
  from = omega (arith, a.at_counter, base_range ℓ)

  -- the strike is of another half
  pub half_pass : own ≡ false → HalvesOf ℓ n l (h + 1)
  half_pass t =
      ruled_pass (halves ℓ) 1 (AllSet (halves ℓ)) (fine_halves ℓ) n high (omega (arith, range)) a.next a.halves
      (λ k j u b e f. true≢false (sym (rw f at (value_in ℓ j b)) ∙ sym a.owned ∙ t))

  module _ (t : own ≡ true) where
    own_place : HalfPlace ℓ v
    own_place = half_place ℓ v range.0 range.1 (sym a.owned ∙ t)

    pub half_countable : CounterAsk l counter
    half_countable =
        record {
          size = ready.sized.size;
          from = from;
          to = omega (arith, a.at_counter, base_range ℓ, grid, high);
          positive = rw a.at_counter
              (ruled_positive (halves ℓ) 1 (AllSet (halves ℓ)) (fine_halves ℓ) n high (omega (arith, range)) a.next a.halves x own_place.place grid
              own_place.small
              refl own_place.is);
        }

    module _ {l₂ : List ℕ} (f : Fell l l₂ counter) where
      fell : Fell l l₂ (halves_base ℓ + x)
      fell = rw a.at_counter at f

      most : sum_over 0 9 (λ (j : ℕ). cand l x (half_value ℓ j)) ≤ get_or l₂ counter 0
      most =
          rw a.at_counter
          (ruled_most (halves ℓ) 1 (AllSet (halves ℓ)) (fine_halves ℓ) n high (omega (arith, range)) a.next a.halves x own_place.place grid
          own_place.small refl
          own_place.is fell)

      finish : (get_or l₂ counter 0 ≤ 1 → AllSet (halves ℓ) l₂ x) → HalvesOf ℓ n l₂ (h + 1)
      finish r =
          ruled_done (halves ℓ) 1 (AllSet (halves ℓ)) (fine_halves ℓ) n high (omega (arith, range)) a.next a.halves x own_place.place grid
          own_place.small refl
          own_place.is fell (λ m. r (rw a.at_counter m))

      gone : (w : ℕ) → w < 16 → cand l x w ≡ 0 → cand l₂ x w ≡ 0
      gone w k z = grown_gone f.grown x w k z

      -- none is left, or more than one
      pub half_far : (get_or l₂ counter 0 ≡ 1 → ⊥) → HalvesOf ℓ n l₂ (h + 1)
      half_far d =
          finish (λ m j b.
          set_never x (half_value ℓ j)
          (gone (half_value ℓ j) (omega (arith, value_narrow ℓ j b))
          (zero (get_or l₂ counter 0) m d (omega (arith, most, sum_has 0 9 j (λ (j : ℕ). cand l x (half_value ℓ j)) (omega arith) (omega arith))))))
        where
          zero : {y : ℕ} (k : ℕ) → k ≤ 1 → (k ≡ 1 → ⊥) → y ≤ k → y ≡ 0
          zero k m d e = omega arith

      cell : (w : ℕ) → cand l₂ x w ≡ bit w (get_or l₂ x 0)
      cell w = cand_in l₂ x w (omega (arith, grid, high))

      masked : (w : ℕ) → 1 ≤ w → w < 12 → in_line ℓ w ≡ true → bit w mask ≡ 1
      masked w p q u = rw a.at_mask (has_mask ℓ w p q u)

      of_mask : (w : ℕ) → w < 16 → bit w mask ≡ 1 → (1 ≤ w) × (w < 12) × (in_line ℓ w ≡ true)
      of_mask w k e = mask_has ℓ w k (rw a.at_mask at e)

      narrow : mask < 2 ^ 16
      narrow = rw a.at_mask (mask_narrow ℓ)

      -- a candidate of a half that has no other
      alone : get_or l₂ counter 0 ≤ 1 → (j : ℕ) → j < 9 → cand l₂ x (half_value ℓ j) ≡ 1 → (w : ℕ) → w < 16 → bit w mask ≡ 1 → (w ≡ half_value ℓ j → ⊥) → bit w
          (get_or l₂ x 0) ≡ 0
      alone m j b e w k u d =
          let q = of_mask w k u in
          let p = half_place ℓ w q.0 q.1 q.2 in
          let c : cand l x (half_value ℓ j) ≡ 1 = omega (
            arith,
            f.grown.sub x (half_value ℓ j) (omega (arith, value_narrow ℓ j b)),
            cand_lt l x
                (half_value ℓ j),
          ) in
          let z : cand l x (half_value ℓ p.place) ≡ 0 =
          sum_lone 0 9 j p.place (λ (j : ℕ). cand l x (half_value ℓ j)) (omega arith) (omega arith) (omega arith) (omega (arith, p.small))
          (λ r. d (sym p.is ∙ ap (half_value ℓ) r)) c (omega (arith, most)) in
          sym (cell w) ∙ gone w k (rw p.is at z)

      -- no candidate of the half is in the table
      pub half_none : get_or l₂ x 0 < 2 ^ 16 → (ones (bit_and (get_or l₂ x 0) mask) ≡ 1 → ⊥) → HalvesOf ℓ n l₂ (h + 1)
      half_none k d = finish (λ m j b. set_never x (half_value ℓ j) (one m j b (ℕ_discrete (cand l₂ x (half_value ℓ j)) 1)))
        where
          one : get_or l₂ counter 0 ≤ 1 → (j : ℕ) → j < 9 → Dec (cand l₂ x (half_value ℓ j) ≡ 1) → cand l₂ x (half_value ℓ j) ≡ 0
          one m j b (no e) = omega (arith, cand_lt l₂ x (half_value ℓ j))
          one m j b (yes e) =
              let r = value_narrow ℓ j b in
              absurd (d (bit_alone (get_or l₂ x 0) mask (half_value ℓ j) k narrow (omega arith) (sym (cell (half_value ℓ j)) ∙ e)
              (masked (half_value ℓ j) r.0 r.1 (value_in ℓ j b)) (alone m j b e)))

    -- one is left: the cell is set to it
    module _ {l₁ : List ℕ} (f : Fell l l₁ counter) (k : get_or l₁ x 0 < 2 ^ 16) (o : ones (bit_and (get_or l₁ x 0) mask) ≡ 1) where
      abbrev u : ℕ
      u = count_trailing_zeros 16 (bit_and (get_or l₁ x 0) mask)

      lone : LoneBit (get_or l₁ x 0) mask u
      lone = lone_bit (get_or l₁ x 0) mask k (narrow f) o

      ready₁ : Ready n l₁
      ready₁ = ready_grown f.grown ready

      value : ValueOf n u
      value = (ready_valid ready₁ x u lone.narrow (cell f u ∙ lone.here)).value

      owned : in_line ℓ u ≡ true
      owned = (of_mask f u lone.narrow lone.within).2

      pub half_ask : SetAsk n l₁ (x / 9) (x % 9) u
      half_ask = record { ready = ready₁; row = grid.0; column = grid.1; value = value }

      module _ {l₂ : List ℕ} (s : Struck l₁ l₂ (SetHit (x / 9) (x % 9) u)) where
        pub half_reason : Reason n l₁ l₂
        half_reason =
            naked ℓ i u a.line a.place (in_half n ℓ u value owned)
            (λ w m e.
            let q = half_in n ℓ w high m in
            let r = value_range high q.0 in
            lone.only w (sym (cell f w) ∙ rw a.there (place_yes l₁ ℓ i w e)) (masked f w r.0 r.1 q.1))
            (taken_at ℓ i x u (omega (arith, a.line, high)) (omega (arith, a.place, high)) a.there s)

        pub half_set : HalvesOf ℓ n l₂ (h + 1)
        half_set = finish (fell_struck from f s) (λ m j b. one j b (ℕ_discrete (half_value ℓ j) u) (ℕ_discrete (cand l₁ x (half_value ℓ j)) 1))
          where
            one : (j : ℕ) → j < 9 → Dec (half_value ℓ j ≡ u) → Dec (cand l₁ x (half_value ℓ j) ≡ 1) → IsSet l₂ x (half_value ℓ j)
            one j b (yes e) c = rw e (set_now x u s)
            one j b (no e) (yes c) =
                let r = value_narrow ℓ j b in
                absurd (e (lone.only (half_value ℓ j) (sym (cell f (half_value ℓ j)) ∙ c) (masked f (half_value ℓ j) r.0 r.1 (value_in ℓ j b))))
            one j b (no e) (no c) =
                set_never x (half_value ℓ j)
                (grown_gone s.grown x (half_value ℓ j) (omega (arith, value_narrow ℓ j b)) (omega (arith, cand_lt l₁ x (half_value ℓ j))))

-- ---- the ways out, as the code has them
module _ {n counter x mask : ℕ} {own : Bool} {l : List ℕ} (a : HalfAsk n l own counter x mask) where
  pub half_passed : own ≡ false → HalfDone n l l own counter x mask
  half_passed t = record { moved = moved_refl l; steps = done; halves = λ ℓ i h v b. half_pass a.ready b t }

  module _ (t : own ≡ true) where
    pub half_lower : CounterAsk l counter
    half_lower = half_countable a.ready a.half t

    module _ {r : ℕ} {l₁ : List ℕ} (e : (r ≡ get_or l counter 0 - 1) × (l₁ ≡ set l counter (get_or l counter 0 - 1))) where
      fell_one : Fell l l₁ counter
      fell_one = fell_lower a.ready.sized half_lower e.1

      lowered : Reason n l l₁
      lowered = still_lower a.ready.sized half_lower.from e.1

      pub half_more : (r ≡ 1 → ⊥) → HalfDone n l l₁ own counter x mask
      half_more d =
          record {
            moved = fell_moved fell_one (omega arith) (omega arith);
            steps = step lowered done;
            halves = λ ℓ i h v b. half_far a.ready b t fell_one (λ q. d (omega (arith, fell_one.here, e.0)));
          }

      module _ (k : get_or l₁ x 0 < 2 ^ 16) where
        pub half_empty : (ones (bit_and (get_or l₁ x 0) mask) ≡ 1 → ⊥) → HalfDone n l l₁ own counter x mask
        half_empty d =
            record {
              moved = fell_moved fell_one (omega arith) (omega arith);
              steps = step lowered done;
              halves = λ ℓ i h v b. half_none a.ready b t fell_one k d;
            }

        module _ (o : ones (bit_and (get_or l₁ x 0) mask) ≡ 1) where
          pub half_set_ask : SetAsk n l₁ (x / 9) (x % 9) (count_trailing_zeros 16 (bit_and (get_or l₁ x 0) mask))
          half_set_ask = half_ask a.ready a.half t fell_one k o

          pub half_settled : {l₂ : List ℕ} → Struck l₁ l₂ (SetHit (x / 9) (x % 9) (count_trailing_zeros 16 (bit_and (get_or l₁ x 0) mask))) →
              HalfDone n l l₂ own counter x mask
          half_settled s =
              record {
                moved = fell_moved (fell_struck half_lower.from fell_one s) (omega arith) (omega arith);
                steps = step lowered (step (half_reason a.ready a.half t fell_one k o s) done);
                halves = λ ℓ i h v b. half_set a.ready b t fell_one k o s;
              }
