-- The opened state: its counters are right, and its lists hold each stable table, which lies within the state's. Assumes nothing.
use Prim.Native.Nat.{ℕ, ◌+◌, ◌-◌, ◌≤◌, ◌<◌}
use mathlib.Core.Path.{◌≡◌, sym, ap, ◌∙◌, subst}
use mathlib.Core.Logic.{inl, inr}
use mathlib.Core.List.Memᴰ
use mathlib.Core.List.{List, map, Memᴰ}
use native.Mathlib.Omega.{arith}
use borrow.Author.Tests.{lt-ltb, le-ltb}
use Rattle.tally.specs.Tally.{span}
use Rattle.tally.proofs.TallyLaws.{span_mem, span_in}
use Rattle.rules.specs.Size.{Size}
use Rattle.rules.specs.Grid.{Line, across, down, index, target, puzzle}
use Rattle.table.specs.Closed.{Arrangement, arrangements}
use Rattle.soundness.specs.Greatest.{KeepsStable, every_candidate}
use Rattle.queue_state.specs.Slab.{cand, table_in}
use Rattle.queue_state.proofs.SlabLaws.{cand_lt}
use Rattle.queue_state.proofs.ReadyLaws.{ready_grown}
use Rattle.queue_state.specs.Ready.{Valid}
use Rattle.table.specs.Value.{ValueOf}
use Rattle.words.specs.Word.{arrangement_of}
use Rattle.counters.proofs.Families.{halves_moved, places_moved, blacks_moved}
use Rattle.arcs.specs.Arc.{lives, live, Unsupported}
use Rattle.fresh.specs.Fresh.{Fresh}
use Rattle.fresh.proofs.FreshLaws.{fresh_lag, fresh_full, fresh_ready}
use Rattle.prepare.proofs.Started.{started_halves, started_places, started_blacks}
use Rattle.listing.specs.Listing.{target_at}
use Rattle.opening.specs.Opening.{Opened}
use Rattle.prepare.proofs.Held.{stable_holding, stable_within}
use Rattle.invariants.specs.State.{Kept, Occupied, Lagging}
use Rattle.table.specs.Lines.{line_number}
use Rattle.line_laws.proofs.LineNumbers.{number_of}

target_at_lem : (n : ℕ) (rows columns : List ℕ) (ℓ : Line) → n ≤ 9 → index ℓ < n → target_at rows columns (line_number ℓ) ≡ target (puzzle n rows columns) ℓ
unfolding target_at line_number index target
target_at_lem n rows columns (across r) z h = rw (lt-ltb r 9 (omega arith))
target_at_lem n rows columns (down c) z h = let e : 9 + c - 9 ≡ c = omega arith in rw (le-ltb (9 + c) 9 (omega arith), e)

module _ {n : ℕ} {rows columns l l' : List ℕ} (s : Size n) (f : Fresh n l) (o : Opened n rows columns l l') where
  small : n ≤ 9
  small = s.high

  pub begun_lagging : Lagging n l' 0
  unfolding Occupied ValueOf
  begun_lagging =
      let g = o.moved.grown in
      record {
        ready = ready_grown g (fresh_ready s f);
        upto = omega arith;
        once = λ x v h. omega (arith, g.lags 0 x v (omega arith) h, fresh_lag s f x v, cand_lt l x v);
        occupied = λ x a b. (
          8,
          omega arith,
          omega (
            arith,
            g.lags 0 x 8 (omega arith) (omega arith),
            fresh_lag s f x 8,
            fresh_full s f x 8 (omega arith) (record { row = a; column = b; value = inr (omega arith, omega arith) }),
          ),
        );
        counted = record {
          halves = halves_moved small o.moved (omega arith) (inl (omega arith)) (started_halves n l s f);
          places = places_moved small o.moved (omega arith) (inl (omega arith)) (started_places n l s f);
          blacks = blacks_moved small o.moved (omega arith) (inl (omega arith)) (started_blacks n l s f);
          arcs = o.arcs;
        };
      }

  list_is : (ℓ : Line) → index ℓ < n →
      map (arrangement_of n) (map (λ j. live l' (line_number ℓ) j) (span 0 (lives l' (line_number ℓ)))) ≡ arrangements n (target (puzzle n rows columns) ℓ)
  list_is ℓ h = o.listed (line_number ℓ) (number_of n ℓ h) ∙ ap (arrangements n) (target_at_lem n rows columns ℓ small h)

  all_listed : (ℓ : Line) → index ℓ < n → (a : Arrangement) → Memᴰ a (arrangements n (target (puzzle n rows columns) ℓ)) →
      (j : ℕ) × (j < lives l' (line_number ℓ)) × (arrangement_of n (live l' (line_number ℓ) j) ≡ a)
  all_listed ℓ h a m =
      let ids = map (λ i. live l' (line_number ℓ) i) (span 0 (lives l' (line_number ℓ))) in
      let q = Memᴰ.of_map (arrangement_of n) ids (subst (Memᴰ a) (sym (list_is ℓ h)) m) in
      let r = Memᴰ.of_map (λ i. live l' (line_number ℓ) i) (span 0 (lives l' (line_number ℓ))) q.1 in
      (r.0, omega (arith, span_in 0 (lives l' (line_number ℓ)) r.0 r.1), ap (arrangement_of n) r.2 ∙ q.2)

  bare : (x v : ℕ) → v < 16 → Valid n x v → cand l' x v ≡ 0 → Unsupported n l' x v
  bare x v h a e = o.struck x v h (fresh_full s f x v h a) e

  pub begun_kept : Kept (puzzle n rows columns) l'
  begun_kept =
      record {
        member = λ ℓ h j k. subst (Memᴰ (arrangement_of n (live l' (line_number ℓ) j))) (list_is ℓ h)
            (Memᴰ.map (arrangement_of n) (Memᴰ.map (λ i. live l' (line_number ℓ) i) (span_mem 0 (lives l' (line_number ℓ)) j (omega arith) (omega arith))));
        holds = λ t a _. stable_holding (puzzle n rows columns) s l' (λ k w. (o.arcs k w).tallied) all_listed bare t a;
      }

  pub begun_stable : KeepsStable (puzzle n rows columns) every_candidate (table_in l')
  begun_stable = record { keeps = λ t a _. stable_within (puzzle n rows columns) s l' (λ k w. (o.arcs k w).tallied) all_listed bare t a }
