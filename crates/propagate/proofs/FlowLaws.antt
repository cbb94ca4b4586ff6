-- Steps that lose nothing of a stable table: what the handlers do, one after the other. Assumes nothing.
use Prim.Native.Nat.{ℕ, ◌+◌, ◌*◌, ◌≤◌, ◌<◌}
use mathlib.Core.Path.{◌≡◌, refl, sym, ◌∙◌, subst}
use mathlib.Core.Bool.{Bool, true, false, true≢false}
use mathlib.Core.Logic.{inl}
use mathlib.Core.List.{List, Memᴰ}
use native.Mathlib.Omega.{arith}
use borrow.Author.Tests.{eq-eqb}
use Rattle.rules.specs.Grid.{Puzzle, target}
use Rattle.table.specs.Closed.{arrangements}
use Rattle.table.specs.Table.{Table}
use Rattle.table.specs.Stable.{Stable}
use Rattle.table.specs.Lines.{LineOf, line_number}
use Rattle.line_laws.proofs.CellValues.{value_small}
use Rattle.table.specs.Value.{IsValue}
use Rattle.soundness.proofs.SameLaws.{within_trans}
use Rattle.soundness.specs.SameGrids.{Within, SameGrids}
use Rattle.queue_state.specs.Layout.{lengths_at}
use Rattle.queue_state.specs.Slab.{cand, table_in}
use Rattle.queue_state.specs.Ready.{Moved}
use Rattle.words.specs.Word.{arrangement_of}
use Rattle.arcs.specs.Arc.{Older, Pruned}
use Rattle.invariants.specs.State.{candidates_in, Kept}
use Rattle.invariants.proofs.StateLaws.{candidate_at, within_sub, kept_moved}
use Rattle.soundness.specs.Greatest.{KeepsStable}
use Rattle.soundness.proofs.GridStable.{keeps_same}
use Rattle.soundness.proofs.StableLaws.{keeps_refl, keeps_trans, naked_stable, hidden_stable, crossed_stable}
use Rattle.singles.specs.Reasons.{TableIs, Reason, still, naked, hidden, crossed, Steps, done, step}
use Rattle.propagate.specs.Flow.{Flows}
use Rattle.line_laws.proofs.LineNumbers.{number_of}

pub flows_refl : (n : ℕ) (l : List ℕ) → Flows n l l
flows_refl n l = record { flow = λ p q k. (k, keeps_refl p (table_in l)) }

pub flows_both : {n : ℕ} {l l₁ l₂ : List ℕ} → Flows n l l₁ → Flows n l₁ l₂ → Flows n l l₂
flows_both a b = record { flow = λ p q k. let x = a.flow p q k in let y = b.flow p q x.0 in (y.0, keeps_trans x.1 y.1) }

-- ---- the counters' handlers

-- each step leaves a stable table that lies within there
module _ (p : Puzzle) (z : p.size ≤ 9) (s : Table) (a : Stable p s) where
  within_is : (l : List ℕ) {t : Table} → TableIs l t → Within p.size s t → Within p.size s (table_in l)
  within_is l h w =
      record { kept = λ r c v hr hc m e. h.is r c v (omega arith) (omega arith) (value_small p.size v z m) ∙ w.kept r c v hr hc m e }

  reason_within : {l l' : List ℕ} → Reason p.size l l' → Within p.size s (table_in l) → Within p.size s (table_in l')
  reason_within {l} {l'} (still e) w = within_is l' e w
  reason_within {l} {l'} (naked ℓ i v h k m f e) w = within_is l' e (naked_stable p (table_in l) s a w ℓ i h k v m f)
  reason_within {l} {l'} (hidden ℓ i v h k m f e) w = within_is l' e (hidden_stable p (table_in l) s a w ℓ i h k v m f)
  reason_within {l} {l'} (crossed ℓ i h k b d _ o) w = record { kept = λ r c v hr hc m e. stays r c v hr hc m e (table_in l' r c v) refl }
    where
      stays : (r c v : ℕ) → r < p.size → c < p.size → IsValue p.size v → s r c v ≡ true → (x : Bool) → table_in l' r c v ≡ x → table_in l' r c v ≡ true
      stays r c v hr hc m e true q = q
      stays r c v hr hc m e false q =
          let y = o r c v (omega arith) (omega arith) (value_small p.size v z m) (w.kept r c v hr hc m e) q in
          absurd (true≢false (sym e ∙ rw (y.0, y.1) (crossed_stable p (table_in l) s a w ℓ i h k z b d v m y.2)))

  steps_within : {l l' : List ℕ} → Steps p.size l l' → Within p.size s (table_in l) → Within p.size s (table_in l')
  steps_within done w = w
  steps_within (step r q) w = steps_within q (reason_within r w)

pub steps_flow : {n a b : ℕ} {l l' : List ℕ} → n ≤ 9 → b ≤ lengths_at → Moved l l' a b → Steps n l l' → Flows n l l'
steps_flow {n} {l = l} {l' = l'} z low m s =
    record {
      flow = λ p q k. let y : p.size ≤ 9 = subst (λ x. x ≤ 9) (sym q) z in
          let w = subst (λ x. Steps x l l') (sym q) s in
          (kept_moved m low y k, record { keeps = λ t a. steps_within p y t a w });
    }

-- ---- the arrangements

module _ (p : Puzzle) (z : p.size ≤ 9) {l l' : List ℕ} (pr : Pruned p.size l l') (k : Kept p l) where
  pruned_kept : Kept p l'
  unfolding Older
  pruned_kept =
      record {
        member = λ ℓ h j i. let o = pr.older (line_number ℓ) (number_of p.size ℓ h) j i in
            subst (λ y. Memᴰ (arrangement_of p.size y) (arrangements p.size (target p ℓ))) o.is (k.member ℓ h o.index o.among);
        holds = λ t a w. pr.holds (candidates_in p.size t) (k.holds t a (within_trans w (within_sub p.size l l' z pr.moved.grown.sub)));
      }

  pruned_keeps : KeepsStable p (table_in l) (table_in l')
  unfolding table_in LineOf
  pruned_keeps =
      record {
        keeps = λ t a w. record {
          kept = λ r c v hr hc m e. eq-eqb (cand l' (r * 9 + c) v) 1
              ((pr.holds (candidates_in p.size t) (k.holds t a w) 0 (inl (omega arith))).has (r * 9 + c) v (value_small p.size v z m)
              (candidate_at p.size t r c v hr hc z m e));
        };
      }

pub pruned_flow : {n : ℕ} {l l' : List ℕ} → n ≤ 9 → Pruned n l l' → Flows n l l'
pruned_flow {n} {l} {l'} z pr =
    record {
      flow = λ p q k. let y : p.size ≤ 9 = subst (λ x. x ≤ 9) (sym q) z in
          let w = subst (λ x. Pruned x l l') (sym q) pr in
          (pruned_kept p y w k, pruned_keeps p y w k);
    }

-- ---- what shrinks and loses nothing of a stable table loses no grid

pub grids_same : {n : ℕ} (l l' : List ℕ) → n ≤ 9 → ((x v : ℕ) → v < 16 → cand l' x v ≤ cand l x v) → (p : Puzzle) → p.size ≡ n →
    KeepsStable p (table_in l) (table_in l') → SameGrids p (table_in l) (table_in l')
grids_same {n} l l' z sub p q k =
    let y : p.size ≤ 9 = subst (λ x. x ≤ 9) (sym q) z in
    keeps_same y (within_sub p.size l l' y sub) k
