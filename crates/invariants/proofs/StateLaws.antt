-- What stays while only some counters move. Assumes nothing.
use Prim.Native.Nat.{ℕ, ◌+◌, ◌*◌, ◌/◌, ◌%◌, ◌≤◌, ◌<◌}
use mathlib.Core.Path.{◌≡◌, refl, sym, ap, ◌∙◌, subst}
use mathlib.Core.Bool.{Bool, true, false, not, ◌&&◌}
use mathlib.Core.Logic.{inr}
use mathlib.Core.List.{List, Memᴰ}
use native.Mathlib.Omega.{arith}
use native.Mathlib.Decide.{ℕ_discrete}
use lib.Dec.{eqb, ltb}
use lib.ListN.{get_or}
use borrow.Author.Tests.{eqb-true, eq-eqb, ne_eqb, ltb-true, lt-ltb}
use Rattle.tally.specs.Tally.{any}
use Rattle.tally.proofs.TallyLaws.{and_left, and_right, and_both, any_in, any_mem}
use Rattle.rules.specs.Grid.{Puzzle, target}
use Rattle.table.specs.Closed.{arrangements}
use Rattle.table.specs.Table.{Table, every_value}
use Rattle.line_laws.proofs.CellValues.{value_small}
use Rattle.table.specs.Value.{IsValue}
use Rattle.soundness.proofs.SameLaws.{within_trans}
use Rattle.soundness.specs.SameGrids.{Within}
use Rattle.table.specs.Steps.{struck}
use Rattle.set_cell.proofs.SetLaws.{yes_table, no_table}
use Rattle.bits.proofs.SumLaws.{sum_same}
use Rattle.queue_state.specs.Layout.{counters_at, lengths_at, length_place, live_place, support_place}
use Rattle.queue_state.specs.Slab.{cand, table_in, tail, lag, Grown, Struck, One}
use Rattle.queue_state.proofs.SlabLaws.{cand_lt}
use Rattle.queue_state.proofs.ReadyLaws.{ready_grown}
use Rattle.queue_state.specs.Ready.{Moved}
use Rattle.words.specs.Word.{arrangement_of, word_of, part}
use Rattle.counters.proofs.CounterLaws.{moved_struck}
use Rattle.counters.proofs.Families.{halves_moved, places_moved, blacks_moved}
use Rattle.arcs.specs.Arc.{lives, live, support, Tallied, Arc, Held, Holding}
use Rattle.arcs.proofs.AliveLaws.{alive_lags}
use Rattle.table.specs.Lines.{cell_at, black_at, line_number}
use Rattle.invariants.specs.State.{candidates_in, Kept, Occupied, Lagging}

-- ---- tables that shrink

-- a candidate of a table
pub candidate_at : (n : ℕ) (t : Table) (r c v : ℕ) → r < n → c < n → n ≤ 9 → IsValue n v → t r c v ≡ true → candidates_in n t (r * 9 + c) v ≡ true
unfolding candidates_in
candidate_at n t r c v hr hc z m e =
    let a : (r * 9 + c) / 9 ≡ r = omega arith in
    let b : (r * 9 + c) % 9 ≡ c = omega arith in
    rw (a, b) (and_both (lt-ltb r n hr) (and_both (lt-ltb c n hc) (and_both (any_mem m) e)))

pub table_kept : (l l' : List ℕ) → ((x v : ℕ) → v < 16 → cand l' x v ≤ cand l x v) → (r c v : ℕ) → v < 16 → table_in l' r c v ≡ true → table_in l r c v ≡ true
unfolding table_in
table_kept l l' s r c v h e =
    let q = eqb-true (cand l' (r * 9 + c) v) 1 e in
    eq-eqb (cand l (r * 9 + c) v) 1 (omega (arith, s (r * 9 + c) v h, cand_lt l (r * 9 + c) v))

-- a state with no more candidates has a table within
pub within_sub : (n : ℕ) (l l' : List ℕ) → n ≤ 9 → ((x v : ℕ) → v < 16 → cand l' x v ≤ cand l x v) → Within n (table_in l') (table_in l)
within_sub n l l' z s = record { kept = λ r c v h k m e. table_kept l l' s r c v (value_small n v z m) e }

-- the table after one strike
pub one_table : {l l' : List ℕ} (x v : ℕ) → Struck l l' (One x v) → (i j w : ℕ) → i < 9 → j < 9 → w < 16 → table_in l' i j w ≡ struck (table_in l) (x / 9) (x % 9) v i j w
unfolding One struck
one_table {l} {l'} x v s i j w hi hj hw = go (ℕ_discrete i (x / 9)) (ℕ_discrete j (x % 9)) (ℕ_discrete w v)
  where
    and_true : (b : Bool) → b ≡ (b && true)
    and_true true = refl
    and_true false = refl

    and_false : (b : Bool) → false ≡ (b && false)
    and_false true = refl
    and_false false = refl

    kept : (i ≡ x / 9 → j ≡ x % 9 → w ≡ v → ⊥) → table_in l' i j w ≡ table_in l i j w
    kept d = pick (ℕ_discrete (cand l (i * 9 + j) w) 1) (ℕ_discrete (cand l' (i * 9 + j) w) 0)
      where
        pick : Dec (cand l (i * 9 + j) w ≡ 1) → Dec (cand l' (i * 9 + j) w ≡ 0) → table_in l' i j w ≡ table_in l i j w
        pick (yes a) (yes b) = let h = s.only (i * 9 + j) w hw a b in absurd (d (omega (arith, h.0)) (omega (arith, h.0)) h.1)
        pick (yes a) (no b) = yes_table l' i j w (omega (arith, cand_lt l' (i * 9 + j) w)) ∙ sym (yes_table l i j w a)
        pick (no a) b =
            no_table l' i j w (omega (arith, s.grown.sub (i * 9 + j) w hw, cand_lt l (i * 9 + j) w)) ∙ sym (no_table l i j w (omega (arith, cand_lt l (i * 9 + j) w)))

    go : Dec (i ≡ x / 9) → Dec (j ≡ x % 9) → Dec (w ≡ v) → table_in l' i j w ≡ (table_in l i j w && not (eqb i (x / 9) && (eqb j (x % 9) && eqb w v)))
    go (yes a) (yes b) (yes e) =
        rw (eq-eqb i (x / 9) a, eq-eqb j (x % 9) b, eq-eqb w v e) (no_table l' i j w (s.gone (i * 9 + j) w hw (omega arith, e)) ∙ and_false (table_in l i j w))
    go (yes a) (yes b) (no e) = rw (eq-eqb i (x / 9) a, eq-eqb j (x % 9) b, ne_eqb w v e) (kept (λ _ _ q. e q) ∙ and_true (table_in l i j w))
    go (yes a) (no b) e = rw (eq-eqb i (x / 9) a, ne_eqb j (x % 9) b) (kept (λ _ q _. b q) ∙ and_true (table_in l i j w))
    go (no a) b e = rw (ne_eqb i (x / 9) a) (kept (λ q _ _. a q) ∙ and_true (table_in l i j w))

-- ---- the candidates of a table

-- The cell at place x is one of the grid, and the table has the value v there.
pub record Candidate (n : ℕ) (t : Table) (x v : ℕ) : Type 0 where
  pub row : x / 9 < n
  pub column : x % 9 < n
  pub value : IsValue n v
  pub there : t (x / 9) (x % 9) v ≡ true

pub of_candidate : (n : ℕ) (t : Table) (x v : ℕ) → candidates_in n t x v ≡ true → Candidate n t x v
unfolding candidates_in
of_candidate n t x v e =
    let rest = and_right (ltb (x / 9) n) _ e in
    let last = and_right (ltb (x % 9) n) _ rest in
    record {
      row = ltb-true (x / 9) n (and_left (ltb (x / 9) n) _ e);
      column = ltb-true (x % 9) n (and_left (ltb (x % 9) n) _ rest);
      value = any_in v (every_value n) (and_left (any (eqb v) (every_value n)) _ last);
      there = and_right (any (eqb v) (every_value n)) _ last;
    }

-- a table within the state's has its candidates there
pub within_cand : (n : ℕ) (t : Table) (l : List ℕ) → Within n t (table_in l) → (x v : ℕ) → candidates_in n t x v ≡ true → cand l x v ≡ 1
unfolding table_in
within_cand n t l w x v e =
    let c = of_candidate n t x v e in
    let s : x / 9 * 9 + x % 9 ≡ x = omega arith in
    rw s at (eqb-true (cand l (x / 9 * 9 + x % 9) v) 1 (w.kept (x / 9) (x % 9) v c.row c.column c.value c.there))

-- ---- steps that leave the arrangements alone

-- Nothing from the lengths of the lists on moves, and the table only shrinks.
pub record Shrunk (l l' : List ℕ) : Type 0 where
  pub rest : (q : ℕ) → lengths_at ≤ q → get_or l' q 0 ≡ get_or l q 0
  pub sub : (x v : ℕ) → v < 16 → cand l' x v ≤ cand l x v

module _ {l l' : List ℕ} (s : Shrunk l l') where
  lives_same : (ℓ : ℕ) → lives l' ℓ ≡ lives l ℓ
  lives_same ℓ = s.rest (length_place ℓ) (omega arith)

  live_same : (ℓ j : ℕ) → live l' ℓ j ≡ live l ℓ j
  live_same ℓ j = s.rest (live_place ℓ j) (omega arith)

  support_same : (y v : ℕ) → support l' y v ≡ support l y v
  support_same y v = s.rest (support_place y v) (omega arith)

  tallied_same : {n ℓ : ℕ} → Tallied n ℓ (lives l ℓ) l → Tallied n ℓ (lives l' ℓ) l'
  tallied_same {n} {ℓ} t =
      subst (λ k. Tallied n ℓ k l') (sym (lives_same ℓ)) (record {
        room = t.room;
        known = λ j h. rw (live_same ℓ j) (t.known j h);
        supports = λ p v h k. support_same (ℓ * 9 + p) v ∙ t.supports p v h k ∙
            sum_same 0 (lives l ℓ) (λ (j : ℕ). part (black_at ℓ) (word_of n (live l ℓ j)) p v) (λ (j : ℕ). part (black_at ℓ) (word_of n (live l' ℓ j)) p v)
            (λ j _ _. ap (λ i. part (black_at ℓ) (word_of n i) p v) (sym (live_same ℓ j)));
        backed = λ p v h k i e. omega (arith, s.sub (cell_at ℓ p) v k, t.backed p v h k i (sym (support_same (ℓ * 9 + p) v) ∙ e));
      })

  pub arc_same : {n ℓ : ℕ} (h h' : ℕ) → ((x v : ℕ) → v < 16 → lag l' h' x v ≡ lag l h x v) → Arc n ℓ l h → Arc n ℓ l' h'
  arc_same {n} {ℓ} h h' lags c =
      record {
        tallied = tallied_same c.tallied;
        alive = λ j i. rw (live_same ℓ j) (alive_lags n ℓ (live l ℓ j) h h' lags (c.alive j (subst (λ y. j < y) (lives_same ℓ) i)));
      }

  holding_shrunk : {n ℓ : ℕ} {K : ℕ → ℕ → Bool} → ((x v : ℕ) → K x v ≡ true → cand l' x v ≡ 1) → Holding n ℓ (lives l ℓ) l K → Holding n ℓ (lives l' ℓ) l' K
  holding_shrunk {n} {ℓ} {K} h t =
      record {
        has = λ x v _. h x v;
        uses = λ i v hi hv hh e. let u = t.uses i v hi hv hh e in (
          u.0,
          subst (λ y. u.0 < y) (sym (lives_same ℓ)) u.1,
          ap (λ y. part (black_at ℓ) (word_of n y) i v) (live_same ℓ u.0) ∙ u.2,
          subst (Held n ℓ K) (sym (live_same ℓ u.0)) u.3,
        );
      }

  pub kept_same : {p : Puzzle} → p.size ≤ 9 → Kept p l → Kept p l'
  kept_same {p} z q =
      record {
        member = λ ℓ h j i.
            subst (λ y. Memᴰ (arrangement_of p.size y) (arrangements p.size (target p ℓ))) (sym (live_same (line_number ℓ) j))
            (q.member ℓ h j (subst (λ y. j < y) (lives_same (line_number ℓ)) i));
        holds = λ t a w ℓ o. holding_shrunk (within_cand p.size t l' w) (q.holds t a (within_trans w (within_sub p.size l l' z s.sub)) ℓ o);
      }

-- counters before the lengths of the lists move, and strikes are made
module _ {l l' : List ℕ} {a b : ℕ} (m : Moved l l' a b) (low : b ≤ lengths_at) where
  above : Shrunk l l'
  above = record { rest = λ q h. m.rest q (omega arith) (inr (omega arith)); sub = m.grown.sub }

  pub tallied_moved : {n ℓ : ℕ} → Tallied n ℓ (lives l ℓ) l → Tallied n ℓ (lives l' ℓ) l'
  tallied_moved t = tallied_same above t

  pub arc_moved : {n ℓ h : ℕ} → h ≤ tail l → Arc n ℓ l h → Arc n ℓ l' h
  arc_moved {h = h} k c = arc_same above h h (λ x v w. m.grown.lags h x v k w) c

  pub kept_moved : {p : Puzzle} → p.size ≤ 9 → Kept p l → Kept p l'
  kept_moved z k = kept_same above z k

-- ---- strikes alone

pub kept_struck : {p : Puzzle} {l l' : List ℕ} {Hit : ℕ → ℕ → Type 0} → p.size ≤ 9 → Struck l l' Hit → Kept p l → Kept p l'
kept_struck {l = l} {l' = l'} z s k = let m : Moved l l' counters_at counters_at = moved_struck s in kept_moved m (omega arith) z k

pub occupied_grown : (n h : ℕ) {l l' : List ℕ} → Grown l l' → h ≤ tail l → Occupied n l h → Occupied n l' h
unfolding Occupied
occupied_grown n h g k f x a b = let o = f x a b in (o.0, o.1, omega (arith, g.lags h x o.0 k o.1, o.2))

pub lagging_struck : {n : ℕ} {l l' : List ℕ} {h : ℕ} {Hit : ℕ → ℕ → Type 0} → Struck l l' Hit → Lagging n l h → Lagging n l' h
lagging_struck {n} {l} {l'} {h} s g =
    let z = g.ready.size.high in
    let m : Moved l l' counters_at counters_at = moved_struck s in
    let c = g.counted in
    record {
      ready = ready_grown s.grown g.ready;
      upto = omega (arith, s.grown.grows, g.upto);
      once = λ x v k. omega (arith, s.grown.lags 0 x v (omega arith) k, g.once x v k);
      occupied = occupied_grown n h s.grown g.upto g.occupied;
      counted = record {
        halves = halves_moved z m g.upto (inr (omega arith)) c.halves;
        places = places_moved z m g.upto (inr (omega arith)) c.places;
        blacks = blacks_moved z m g.upto (inr (omega arith)) c.blacks;
        arcs = λ ℓ o. arc_moved m (omega arith) g.upto (c.arcs ℓ o);
      };
    }
