-- Handling one strike: the four handlers after each other. Assumes nothing.
use Prim.Native.Nat.{ℕ, ◌+◌, ◌-◌, ◌*◌, ◌≤◌, ◌<◌}
use mathlib.Core.Path.{◌≡◌, sym}
use mathlib.Core.Logic.{inl, inr}
use mathlib.Core.List.{List}
use native.Mathlib.Omega.{arith}
use Rattle.bits.specs.Sum.{same}
use Rattle.bits.proofs.SumLaws.{same_yes, sum_has}
use Rattle.queue_state.specs.Layout.{lengths_at, slab_size}
use Rattle.queue_state.specs.Slab.{cand, tail, entry, waits, lag, Grown}
use Rattle.queue_state.proofs.StruckLaws.{grown_trans}
use Rattle.queue_state.proofs.ReadyLaws.{ready_grown, next_grown}
use Rattle.queue_state.specs.Ready.{Next, Moved}
use Rattle.line_laws.proofs.CellValues.{value_range}
use Rattle.counters.proofs.Families.{halves_moved, places_moved, blacks_moved}
use Rattle.singles.proofs.HandlingLaws.{handling_grown}
use Rattle.singles.specs.Handling.{SingletonAsk, SingletonDone, HiddenAsk, HiddenDone, ConsistencyAsk, ConsistencyDone}
use Rattle.arcs.specs.Arc.{lives, Tallied, Arc, ArcAsk, ArcDone}
use Rattle.invariants.specs.State.{Counted}
use Rattle.invariants.proofs.StateLaws.{tallied_moved, arc_moved}
use Rattle.propagate.proofs.FlowLaws.{flows_both, steps_flow, pruned_flow}
use Rattle.propagate.specs.Update.{UpdateAsk, UpdateDone}

-- a strike that waits is not in the table
struck_gone : {l : List ℕ} {h x v : ℕ} → lag l 0 x v ≤ 1 → Next l h x v → cand l x v ≡ 0
unfolding lag waits
struck_gone {l} {h} {x} {v} o k =
    let s : same (x * 16 + v) (entry l h) ≡ 1 = same_yes (x * 16 + v) (entry l h) (sym k.is) in
    let q = sum_has 0 (tail l - 0) h (λ (i : ℕ). same (x * 16 + v) (entry l i)) (omega arith) (omega (arith, k.waiting)) in
    omega arith

module _ {n : ℕ} {l : List ℕ} {r c v : ℕ} (a : UpdateAsk n l r c v) where
  small : n ≤ 9
  small = a.strike.ready.size.high

  waiting : a.head < tail l
  waiting = a.strike.next.waiting

  pub update_first : SingletonAsk n l r c v
  update_first = record { head = a.head; strike = a.strike; halves = a.counted.halves }

  module _ {l₁ : List ℕ} (d₁ : SingletonDone n l l₁ r c v) where
    pub update_second : HiddenAsk n l₁ r c v
    update_second =
        record {
          head = a.head;
          strike = handling_grown d₁.moved.grown a.strike;
          places = places_moved small d₁.moved (omega (arith, waiting)) (inr (omega arith)) a.counted.places;
        }

    module _ {l₂ : List ℕ} (d₂ : HiddenDone n l₁ l₂ r c v) where
      both : Grown l l₂
      both = grown_trans d₁.moved.grown d₂.moved.grown

      pub update_third : ConsistencyAsk n l₂ r c v
      update_third =
          record {
            head = a.head;
            strike = handling_grown both a.strike;
            blacks = blacks_moved small d₂.moved (omega (arith, waiting, d₁.moved.grown.grows)) (inr (omega arith))
                (blacks_moved small d₁.moved (omega (arith, waiting)) (inr (omega arith)) a.counted.blacks);
          }

      module _ {l₃ : List ℕ} (d₃ : ConsistencyDone n l₂ l₃ r c v) where
        before : Grown l l₃
        before = grown_trans both d₃.moved.grown

        next₃ : (h : ℕ) → Next l h (r * 9 + c) v → Next l₃ h (r * 9 + c) v
        next₃ h x = next_grown before x

        tallied₃ : (ℓ : ℕ) → Tallied n ℓ (lives l ℓ) l → Tallied n ℓ (lives l₃ ℓ) l₃
        tallied₃ ℓ t = tallied_moved d₃.moved (omega arith) (tallied_moved d₂.moved (omega arith) (tallied_moved d₁.moved (omega arith) t))

        arc₃ : (ℓ h : ℕ) → h < tail l → Arc n ℓ l h → Arc n ℓ l₃ h
        arc₃ ℓ h k t =
            arc_moved d₃.moved (omega arith) (omega (arith, both.grows))
            (arc_moved d₂.moved (omega arith) (omega (arith, d₁.moved.grown.grows)) (arc_moved d₁.moved (omega arith) (omega arith) t))

        pub update_fourth : ArcAsk n l₃ r c v
        update_fourth =
            let w : v < 16 = omega (arith, value_range small a.strike.value) in
            record {
              ready = ready_grown before a.strike.ready;
              row = a.strike.row;
              column = a.strike.column;
              value = a.strike.value;
              gone = struck_gone (omega (arith, before.lags 0 (r * 9 + c) v (omega arith) w, a.once (r * 9 + c) v w)) (next₃ a.head a.strike.next);
              tallied = λ ℓ o. tallied₃ ℓ (a.counted.arcs ℓ o).tallied;
            }

        module _ {l₄ : List ℕ} (d₄ : ArcDone n l₃ l₄ r c v) where
          m₄ : Moved l₃ l₄ lengths_at slab_size
          m₄ = d₄.pruned.moved

          counted₄ : (h : ℕ) → Next l h (r * 9 + c) v → Counted n l h → Counted n l₄ (h + 1)
          counted₄ h x k =
              let t = x.waiting in
              let n₁ = next_grown d₁.moved.grown x in
              let n₂ = next_grown d₂.moved.grown n₁ in
              record {
                halves = halves_moved small m₄ (omega (arith, before.grows)) (inl (omega arith))
                    (halves_moved small d₃.moved (omega (arith, both.grows)) (inl (omega arith))
                    (halves_moved small d₂.moved (omega (arith, d₁.moved.grown.grows)) (inl (omega arith)) (d₁.halves h x k.halves)));
                places = places_moved small m₄ (omega (arith, before.grows)) (inl (omega arith))
                    (places_moved small d₃.moved (omega (arith, both.grows)) (inl (omega arith))
                    (d₂.places h n₁ (places_moved small d₁.moved (omega arith) (inr (omega arith)) k.places)));
                blacks = blacks_moved small m₄ (omega (arith, before.grows)) (inl (omega arith))
                    (d₃.blacks h n₂ (blacks_moved small d₂.moved (omega (arith, d₁.moved.grown.grows)) (inr (omega arith))
                    (blacks_moved small d₁.moved (omega arith) (inr (omega arith)) k.blacks)));
                arcs = d₄.arcs h (next₃ h x) (λ ℓ o. arc₃ ℓ h t (k.arcs ℓ o));
              }

          pub update_done : UpdateDone n l l₄ r c v
          update_done =
              record {
                grown = grown_trans before m₄.grown;
                flows = flows_both (steps_flow small (omega arith) d₁.moved d₁.steps)
                    (flows_both (steps_flow small (omega arith) d₂.moved d₂.steps)
                    (flows_both (steps_flow small (omega arith) d₃.moved d₃.steps) (pruned_flow small d₄.pruned)));
                counted = counted₄;
              }
