-- The handler of a value's places in a line: its four ways out. Assumes nothing.
use Prim.Native.Nat.{ℕ, ◌+◌, ◌-◌, ◌*◌, ◌/◌, ◌%◌, ◌≤◌, ◌<◌}
use mathlib.Core.Path.{◌≡◌, refl, sym, ◌∙◌}
use mathlib.Core.Bool.{Bool, true, false, true≢false}
use mathlib.Core.List.{List}
use native.Mathlib.Omega.{arith}
use native.Mathlib.Decide.{ℕ_discrete, dec_lt}
use lib.ListN.{get_or, set}
use Rattle.rules.specs.Grid.{Line, across, down, index}
use Rattle.bits.specs.Sum.{sum_over}
use Rattle.bits.proofs.SumLaws.{sum_same, sum_has, sum_lone}
use Rattle.table.specs.Table.{places}
use Rattle.queue_state.specs.Layout.{counters_at, places_at}
use Rattle.queue_state.specs.Slab.{cand, table_in, Struck, CounterAsk}
use Rattle.queue_state.proofs.SlabLaws.{cand_lt}
use Rattle.queue_state.proofs.StruckLaws.{grown_gone, grown_sized}
use Rattle.queue_state.proofs.ReadyLaws.{ready_grown, ready_valid}
use Rattle.queue_state.specs.Ready.{Ready}
use Rattle.set_cell.specs.Setting.{SetHit, SetAsk}
use Rattle.line_laws.proofs.CellValues.{value_range}
use Rattle.counters.specs.Counters.{Fell, IsSet, AllSet, in_line, places_base, line_places, PlacesOf}
use Rattle.counters.proofs.CounterLaws.{fell_lower, fell_struck, fell_moved, moved_refl, ruled_pass, ruled_positive, ruled_most, ruled_done}
use Rattle.counters.proofs.Families.{fine_places}
use Rattle.counters.proofs.Lines.{in_grid, grid_place, place_yes, in_half, line_hit, counter_value, counter_used, counter_cell, counter_cand}
use Rattle.table.specs.Lines.{cell_of}
use Rattle.singles.proofs.ReasonLaws.{still_lower, taken_at}
use Rattle.singles.specs.Reasons.{Reason, hidden, done, step}
use Rattle.std.specs.Prelude.{Some, None}
use Rattle.singles.specs.Handling.{FindAsk, PlaceFound, PlacesAt, PlacesAsk, PlacesDone}
use Rattle.singles.proofs.HalfLaws.{set_now, set_never}

base_range : (ℓ : Line) → (places_at ≤ places_base ℓ) × (places_base ℓ ≤ places_at + 9 * 16)
base_range (across r) = omega arith
base_range (down c) = omega arith

module _ {n counter start stride v : ℕ} {own : Bool} {l : List ℕ} {ℓ : Line} {i h : ℕ} (ready : Ready n l)
    (a : PlacesAt n l own counter start stride v ℓ i h) where
  high : n ≤ 9
  high = ready.size.high

  narrow : v < 16
  narrow = omega (arith, value_range high a.value)

  line_small : index ℓ < 9
  line_small = omega (arith, a.line, high)

  from : counters_at ≤ counter
  from = omega (arith, a.at_counter, base_range ℓ)

  -- the strike is of a value that the line has not
  pub places_pass : own ≡ false → PlacesOf ℓ n l (h + 1)
  places_pass t =
      ruled_pass (line_places ℓ) 1 (AllSet (line_places ℓ)) (fine_places ℓ) n high narrow a.next a.places
      (λ k j u b e f. true≢false (sym (rw f at u.2) ∙ sym a.owned ∙ t))

  module _ (t : own ≡ true) where
    owned : in_line ℓ v ≡ true
    owned = sym a.owned ∙ t

    used : (line_places ℓ).used n (index ℓ * 16 + v)
    used = counter_used ℓ v narrow n a.line a.value owned

    pub places_countable : CounterAsk l counter
    places_countable =
        record {
          size = ready.sized.size;
          from = from;
          to = omega (arith, a.at_counter, base_range ℓ, line_small, narrow);
          positive = rw a.at_counter
              (ruled_positive (line_places ℓ) 1 (AllSet (line_places ℓ)) (fine_places ℓ) n high narrow a.next a.places (index ℓ * 16 + v) i used
              (omega (arith, a.place, high)) (counter_cell ℓ v narrow i) (counter_value ℓ v narrow));
        }

    module _ {l₂ : List ℕ} (f : Fell l l₂ counter) where
      fell : Fell l l₂ (places_base ℓ + (index ℓ * 16 + v))
      fell = rw a.at_counter at f

      most : sum_over 0 9 (λ (j : ℕ). cand l (cell_of ℓ j) v) ≤ get_or l₂ counter 0
      most =
          let m = ruled_most (line_places ℓ) 1 (AllSet (line_places ℓ)) (fine_places ℓ) n high narrow a.next a.places (index ℓ * 16 + v) i used
          (omega (arith, a.place, high)) (counter_cell ℓ v narrow i) (counter_value ℓ v narrow) fell in
          let e = sum_same 0 9 (λ (j : ℕ). cand l ((line_places ℓ).cell (index ℓ * 16 + v) j) ((index ℓ * 16 + v) % 16)) (λ (j : ℕ). cand l (cell_of ℓ j) v)
          (λ j p q. counter_cand ℓ v narrow l j) in
          rw a.at_counter (omega (arith, m, e))

      finish : (get_or l₂ counter 0 ≤ 1 → (j : ℕ) → j < 9 → IsSet l₂ (cell_of ℓ j) v) → PlacesOf ℓ n l₂ (h + 1)
      finish r =
          ruled_done (line_places ℓ) 1 (AllSet (line_places ℓ)) (fine_places ℓ) n high narrow a.next a.places (index ℓ * 16 + v) i used
          (omega (arith, a.place, high)) (counter_cell ℓ v narrow i) (counter_value ℓ v narrow) fell
          (λ m j b. rw (counter_cell ℓ v narrow j, counter_value ℓ v narrow) (r (rw a.at_counter m) j b))

      -- none is left, or more than one
      pub places_far : (get_or l₂ counter 0 ≡ 1 → ⊥) → PlacesOf ℓ n l₂ (h + 1)
      places_far d =
          finish (λ m j b.
          set_never (cell_of ℓ j) v
          (grown_gone f.grown (cell_of ℓ j) v narrow
          (zero (get_or l₂ counter 0) m d (omega (arith, most, sum_has 0 9 j (λ (j : ℕ). cand l (cell_of ℓ j) v) (omega arith) (omega arith))))))
        where
          zero : {y : ℕ} (k : ℕ) → k ≤ 1 → (k ≡ 1 → ⊥) → y ≤ k → y ≡ 0
          zero k m d e = omega arith

      -- a place of the line has the candidate only within the grid
      outside : (j : ℕ) → j < 9 → n ≤ j → cand l₂ (cell_of ℓ j) v ≡ 0
      outside j b k = one (ℕ_discrete (cand l₂ (cell_of ℓ j) v) 1)
        where
          one : Dec (cand l₂ (cell_of ℓ j) v ≡ 1) → cand l₂ (cell_of ℓ j) v ≡ 0
          one (yes e) =
              let u = ready_valid (ready_grown f.grown ready) (cell_of ℓ j) v narrow e in
              absurd (omega (arith, grid_place n ℓ j line_small b (u.row, u.column)))
          one (no e) = omega (arith, cand_lt l₂ (cell_of ℓ j) v)

      -- no place of the line has the candidate
      pub places_none : PlaceFound l₂ n start stride v None → PlacesOf ℓ n l₂ (h + 1)
      places_none g = finish (λ m j b. set_never (cell_of ℓ j) v (one j b (dec_lt j n)))
        where
          one : (j : ℕ) → j < 9 → Dec (j < n) → cand l₂ (cell_of ℓ j) v ≡ 0
          one j b (yes q) = rw (a.along j) at (g j q)
          one j b (no q) = outside j b (omega arith)

    -- one place is left: it is set to the value
    module _ {l₁ : List ℕ} {p : ℕ} (f : Fell l l₁ counter) (g : PlaceFound l₁ n start stride v (Some p)) where
      here : cand l₁ (cell_of ℓ p) v ≡ 1
      here = rw (a.along p) at g.1

      pub place_ask : SetAsk n l₁ ((start + p * stride) / 9) ((start + p * stride) % 9) v
      place_ask =
          let q = in_grid n ℓ p high a.line g.0 in
          rw (a.along p) (record { ready = ready_grown f.grown ready; row = q.0; column = q.1; value = a.value })

      module _ {l₂ : List ℕ} (s : Struck l₁ l₂ (SetHit ((start + p * stride) / 9) ((start + p * stride) % 9) v)) where
        at_place : Struck l₁ l₂ (SetHit (cell_of ℓ p / 9) (cell_of ℓ p % 9) v)
        at_place = rw (a.along p) at s

        pub place_set : PlacesOf ℓ n l₂ (h + 1)
        place_set = finish (fell_struck from f s) (λ m j b. one j b (ℕ_discrete p j))
          where
            one : (j : ℕ) → j < 9 → Dec (p ≡ j) → IsSet l₂ (cell_of ℓ j) v
            one j b (yes e) = rw (sym e) (set_now (cell_of ℓ p) v at_place)
            one j b (no e) =
                set_never (cell_of ℓ j) v (at_place.gone (cell_of ℓ j) v narrow (line_hit ℓ p j v line_small (omega (arith, high)) b e owned))

        pub place_reason : get_or l₁ counter 0 ≡ 1 → Reason n l₁ l₂
        place_reason o =
            hidden ℓ p v a.line g.0 (in_half n ℓ v a.value owned) (λ j b e. one j b e (ℕ_discrete j p))
            (taken_at ℓ p (cell_of ℓ p) v line_small (omega (arith, high)) refl at_place)
          where
            had : (j : ℕ) → cand l₁ (cell_of ℓ j) v ≡ 1 → cand l (cell_of ℓ j) v ≡ 1
            had j e = omega (arith, f.grown.sub (cell_of ℓ j) v narrow, cand_lt l (cell_of ℓ j) v)

            one : (j : ℕ) → j < n → places (table_in l₁) ℓ j v ≡ true → Dec (j ≡ p) → j ≡ p
            one j b e (yes q) = q
            one j b e (no q) =
                absurd (omega (
                  arith,
                  had j (place_yes l₁ ℓ j v e),
                  sum_lone 0 9 p j (λ (j : ℕ). cand l (cell_of ℓ j) v) (omega arith) (omega (arith, high)) (omega arith) (omega (arith, high)) q (had p here)
                      (omega (arith, most f)),
                ))

-- ---- the ways out, as the code has them
module _ {n counter start stride v : ℕ} {own : Bool} {l : List ℕ} (a : PlacesAsk n l own counter start stride v) where
  pub places_passed : own ≡ false → PlacesDone n l l own counter start stride v
  places_passed t = record { moved = moved_refl l; steps = done; places = λ ℓ i h b. places_pass a.ready b t }

  module _ (t : own ≡ true) where
    pub places_lower : CounterAsk l counter
    places_lower = places_countable a.ready a.counted t

    module _ {r : ℕ} {l₁ : List ℕ} (e : (r ≡ get_or l counter 0 - 1) × (l₁ ≡ set l counter (get_or l counter 0 - 1))) where
      fell_one : Fell l l₁ counter
      fell_one = fell_lower a.ready.sized places_lower e.1

      lowered : Reason n l l₁
      lowered = still_lower a.ready.sized places_lower.from e.1

      pub places_more : (r ≡ 1 → ⊥) → PlacesDone n l l₁ own counter start stride v
      places_more d =
          record {
            moved = fell_moved fell_one (omega arith) (omega arith);
            steps = step lowered done;
            places = λ ℓ i h b. places_far a.ready b t fell_one (λ q. d (omega (arith, fell_one.here, e.0)));
          }

      pub find_ask : FindAsk l₁ n v
      find_ask = record { sized = grown_sized fell_one.grown a.ready.sized; value = narrow a.ready a.counted; few = high a.ready a.counted }

      pub places_empty : PlaceFound l₁ n start stride v None → PlacesDone n l l₁ own counter start stride v
      places_empty g =
          record {
            moved = fell_moved fell_one (omega arith) (omega arith);
            steps = step lowered done;
            places = λ ℓ i h b. places_none a.ready b t fell_one g;
          }

      module _ {p : ℕ} (g : PlaceFound l₁ n start stride v (Some p)) where
        pub place_low : p < 9
        place_low = omega (arith, g.0, high a.ready a.counted)

        pub place_set_ask : SetAsk n l₁ ((start + p * stride) / 9) ((start + p * stride) % 9) v
        place_set_ask = place_ask a.ready a.counted t fell_one g

        pub place_settled : {l₂ : List ℕ} → r ≡ 1 → Struck l₁ l₂ (SetHit ((start + p * stride) / 9) ((start + p * stride) % 9) v) →
            PlacesDone n l l₂ own counter start stride v
        place_settled o s =
            record {
              moved = fell_moved (fell_struck places_lower.from fell_one s) (omega arith) (omega arith);
              steps = step lowered (step (place_reason a.ready a.counted t fell_one g s (omega (arith, fell_one.here, e.0, places_lower.positive))) done);
              places = λ ℓ i h b. place_set a.ready b t fell_one g s;
            }
