-- Rest: no strike waits, the queue is reset, and the table is closed. Assumes nothing.
use Prim.Native.Nat.{ℕ, ◌+◌, ◌*◌, ◌/◌, ◌%◌, ◌≤◌, ◌<◌}
use mathlib.Core.Path.{◌≡◌, sym, ap, ◌∙◌, subst}
use mathlib.Core.Bool.{true, true≢false}
use mathlib.Core.Logic.{◌≢◌}
use mathlib.Core.List.{List, Memᴰ}
use native.Mathlib.Omega.{arith}
use lib.Dec.{eqb}
use lib.ListN.{length, get_or, set, length-set}
use lib.Seq.{get_or-set_same, get_or-set_other}
use borrow.Author.Tests.{eq-eqb}
use Rattle.bits.proofs.SumLaws.{sum_same}
use Rattle.rules.specs.Grid.{Line, across, down, index, Puzzle, target}
use Rattle.table.specs.Closed.{arrangements, Supported, Closed}
use Rattle.rules.proofs.GridLaws.{in_line}
use Rattle.table.specs.Table.{places, first_black, half}
use Rattle.settled.specs.EmptyCell.{Empty}
use Rattle.soundness.specs.Greatest.{KeepsStable}
use Rattle.propagate.proofs.FlowLaws.{grids_same}
use Rattle.soundness.proofs.StableLaws.{keeps_trans, keeps_table}
use Rattle.queue_state.specs.Layout.{tail_at, counters_at, slab_size}
use Rattle.queue_state.specs.Slab.{cand, table_in, tail, lag, candidates_left, Mirrored}
use Rattle.queue_state.proofs.SlabLaws.{cand_lt, cand_same, mirrored_same}
use Rattle.queue_state.proofs.ReadyLaws.{lag_rest}
use Rattle.counters.specs.Counters.{Fam, Ruled, AllSet, NoBlacks, Halves, LinePlaces, Blacks, halves, line_places, cell_blacks}
use Rattle.counters.proofs.Closure.{AtRest, lone, single, crossed, crossed_back, lone_set, blacks}
use Rattle.arcs.specs.Arc.{lives, live}
use Rattle.words.specs.Word.{arrangement_of}
use Rattle.propagate.proofs.Supports.{Numbered, row_numbered, column_numbered, supported}
use Rattle.invariants.specs.State.{Kept, Occupied, Counted, Lagging, Propagated}
use Rattle.table.specs.Lines.{line_number}
use Rattle.invariants.proofs.StateLaws.{Shrunk, arc_same, kept_same}
use Rattle.line_laws.proofs.CellValues.{value_every}
use Rattle.line_laws.proofs.LineNumbers.{number_of}
use Rattle.propagate.proofs.Loop.{Propagating}

-- the queue reset, as the code does it
module _ (l l' : List ℕ) (size : length l ≡ slab_size) (is : l' ≡ set l tail_at 0) where
  reset_size : length l' ≡ length l
  reset_size = ap length is ∙ length-set l tail_at 0

  reset_tail : tail l' ≡ 0
  reset_tail = ap (λ y. get_or y tail_at 0) is ∙ get_or-set_same l tail_at 0 0 (omega arith)

  reset_rest : (q : ℕ) → q ≢ tail_at → get_or l' q 0 ≡ get_or l q 0
  reset_rest q d = ap (λ y. get_or y q 0) is ∙ get_or-set_other l tail_at q 0 0 d

  reset_cand : (x v : ℕ) → cand l' x v ≡ cand l x v
  reset_cand x v = cand_same l l' (λ q h. reset_rest q (λ e. omega arith)) x v

  reset_lag : (x v : ℕ) → lag l' 0 x v ≡ lag l (tail l) x v
  reset_lag x v = subst (λ h. lag l' h x v ≡ cand l' x v) reset_tail (lag_rest l' x v) ∙ reset_cand x v ∙ sym (lag_rest l x v)

  same_table : (i j v : ℕ) → table_in l i j v ≡ table_in l' i j v
  unfolding table_in
  same_table i j v = ap (λ (y : ℕ). eqb y 1) (sym (reset_cand (i * 9 + j) v))

  -- a family of counters, whose rule speaks of candidates alone
  reset_ruled : (F : Fam) (low : ℕ) (Rule : List ℕ → ℕ → Type 0) → counters_at ≤ F.base → ((i : ℕ) → Rule l i → Rule l' i) → {n : ℕ} →
      Ruled F low Rule n l (tail l) → Ruled F low Rule n l' 0
  reset_ruled F low Rule from same w =
      let there : (i : ℕ) → get_or l' (F.base + i) 0 ≡ get_or l (F.base + i) 0 = λ i. reset_rest (F.base + i) (λ e. omega arith) in
      record {
        counts = λ i u. there i ∙ w.counts i u ∙
            sum_same 0 F.n (λ (j : ℕ). lag l (tail l) (F.cell i j) (F.value i j)) (λ (j : ℕ). lag l' 0 (F.cell i j) (F.value i j)) (λ j _ _. sym (reset_lag (F.cell i j) (F.value i j)));
        rule = λ i u h. same i (w.rule i u (omega (arith, there i)));
      }

  reset_set : (F : Fam) (i : ℕ) → AllSet F l i → AllSet F l' i
  reset_set F i a j h =
      record { struck = λ e y v k hit. reset_cand y v ∙ (a j h).struck (sym (reset_cand (F.cell i j) (F.value i j)) ∙ e) y v k hit }

  reset_blacks : (k i : ℕ) → NoBlacks k l i → NoBlacks k l' i
  reset_blacks k i a = (reset_cand i k ∙ a.0, reset_cand i (k + 1) ∙ a.1)

  shrunk : Shrunk l l'
  shrunk = record { rest = λ q h. reset_rest q (λ e. omega arith); sub = λ x v h. omega (arith, reset_cand x v) }

  reset_counted : {n : ℕ} → Counted n l (tail l) → Counted n l' 0
  reset_counted c =
      record {
        halves = record {
          rows = reset_ruled (halves (across 0)) 1 (AllSet (halves (across 0))) (omega arith) (reset_set (halves (across 0))) c.halves.rows;
          columns = reset_ruled (halves (down 0)) 1 (AllSet (halves (down 0))) (omega arith) (reset_set (halves (down 0))) c.halves.columns;
        };
        places = record {
          rows = reset_ruled (line_places (across 0)) 1 (AllSet (line_places (across 0))) (omega arith) (reset_set (line_places (across 0))) c.places.rows;
          columns = reset_ruled (line_places (down 0)) 1 (AllSet (line_places (down 0))) (omega arith) (reset_set (line_places (down 0))) c.places.columns;
        };
        blacks = record {
          rows = reset_ruled (cell_blacks (across 0)) 0 (NoBlacks 10) (omega arith) (reset_blacks 10) c.blacks.rows;
          columns = reset_ruled (cell_blacks (down 0)) 0 (NoBlacks 8) (omega arith) (reset_blacks 8) c.blacks.columns;
        };
        arcs = λ ℓ o. arc_same shrunk (tail l) 0 (λ x v h. reset_lag x v) (c.arcs ℓ o);
      }

  reset_left : candidates_left l' ≡ candidates_left l
  unfolding candidates_left
  reset_left = sum_same 0 1296 (λ i. cand l' (i / 16) (i % 16)) (λ i. cand l (i / 16) (i % 16)) (λ i _ _. reset_cand (i / 16) (i % 16))

  reset_masks : Mirrored l → Mirrored l'
  reset_masks = mirrored_same l l' (λ q h. reset_rest q (λ e. omega arith)) (λ q h _. reset_rest q (λ e. omega arith))

  reset_lagging : {n : ℕ} → Lagging n l (tail l) → Lagging n l' 0
  unfolding Occupied lag
  reset_lagging g =
      record {
        ready = record {
          sized = record { size = reset_size ∙ size; room = omega (arith, reset_tail, reset_left, g.ready.sized.room); masks = reset_masks g.ready.sized.masks };
          size = g.ready.size;
          proper = λ x v h k. g.ready.proper x v h (omega (arith, reset_lag x v, lag_rest l x v));
        };
        upto = omega arith;
        once = λ x v h. omega (arith, reset_lag x v, lag_rest l x v, cand_lt l x v);
        occupied = λ x a b. let o = g.occupied x a b in (o.0, o.1, omega (arith, reset_lag x o.0, o.2));
        counted = reset_counted g.counted;
      }

-- ---- a state at rest is closed

numbered : (n : ℕ) → n ≤ 9 → (ℓ : Line) → index ℓ < n → Numbered ℓ (line_number ℓ)
unfolding line_number index
numbered n z (across r) h = row_numbered r (omega arith)
numbered n z (down c) h = column_numbered c

module _ {n : ℕ} {l : List ℕ} (empty : tail l ≡ 0) (g : Lagging n l 0) where
  at_rest : AtRest n l
  at_rest =
      record {
        ready = g.ready;
        halves = subst (Halves n l) (sym empty) g.counted.halves;
        places = subst (LinePlaces n l) (sym empty) g.counted.places;
        blacks = subst (Blacks n l) (sym empty) g.counted.blacks;
      }

  nothing_waits : (x v : ℕ) → lag l 0 x v ≡ cand l x v
  nothing_waits x v = subst (λ h. lag l h x v ≡ cand l x v) empty (lag_rest l x v)

  rest_filled : (r c : ℕ) → r < n → c < n → Empty n (table_in l) r c → ⊥
  unfolding Occupied table_in
  rest_filled r c hr hc e =
      let o = g.occupied (r * 9 + c) (omega (arith, g.ready.size.high)) (omega (arith, g.ready.size.high)) in
      let has : cand l (r * 9 + c) o.0 ≡ 1 = omega (arith, o.2, nothing_waits (r * 9 + c) o.0, cand_lt l (r * 9 + c) o.0) in
      let value = (g.ready.proper (r * 9 + c) o.0 o.1 o.2).value in
      true≢false (sym (eq-eqb (cand l (r * 9 + c) o.0) 1 has) ∙ e o.0 (value_every n o.0 g.ready.size.high value))

  rest_supported : (p : Puzzle) → p.size ≡ n → Kept p l → (ℓ : Line) → index ℓ < n → (i v : ℕ) → i < n → Memᴰ v (half n (first_black ℓ)) →
      places (table_in l) ℓ i v ≡ true → Supported n (first_black ℓ) (target p ℓ) (places (table_in l) ℓ) i v
  rest_supported p q k ℓ h =
      supported n ℓ (line_number ℓ) l 0 (target p ℓ) g.ready.size (numbered n g.ready.size.high ℓ h) (g.counted.arcs (line_number ℓ) (number_of n ℓ h)) nothing_waits
      (subst (λ m. (j : ℕ) → j < lives l (line_number ℓ) → Memᴰ (arrangement_of m (live l (line_number ℓ) j)) (arrangements m (target p ℓ))) q
      (k.member ℓ (subst (λ m. index ℓ < m) (sym q) h)))

  rest_closed : (p : Puzzle) → p.size ≡ n → Kept p l → Closed p (table_in l)
  rest_closed p q k = go n q at_rest (rest_supported p q k)
    where
      go : (m : ℕ) → p.size ≡ m → AtRest m l →
          ((ℓ : Line) → index ℓ < m → (i v : ℕ) → i < m → Memᴰ v (half m (first_black ℓ)) → places (table_in l) ℓ i v ≡ true →
          Supported m (first_black ℓ) (target p ℓ) (places (table_in l) ℓ) i v) → Closed p (table_in l)
      go m q a s =
          let a₁ = subst (λ y. AtRest y l) (sym q) a in
          let s₁ = subst (λ y. (ℓ : Line) → index ℓ < y → (i v : ℕ) → i < y → Memᴰ v (half y (first_black ℓ)) → places (table_in l) ℓ i v ≡ true →
          Supported y (first_black ℓ) (target p ℓ) (places (table_in l) ℓ) i v) (sym q) s in
          record {
            lines = λ ℓ k. let h = in_line p.size ℓ k in record { lone = lone a₁ ℓ h; single = single a₁ ℓ h; supported = s₁ ℓ h };
            crossed = crossed a₁;
            crossed_back = crossed_back a₁;
            blacks = blacks a₁;
          }

-- ---- the end of the loop

pub loop_end : {n : ℕ} {l₀ l l' : List ℕ} {head : ℕ} → Propagating n l₀ l head → tail l ≤ head → l' ≡ set l tail_at 0 → Propagated n l₀ l' true
loop_end {n} {l₀} {l} {l'} {head} g stop is =
    let z = g.lagging.ready.sized.size in
    let at : head ≡ tail l = omega (arith, g.lagging.upto) in
    let r = reset_lagging l l' z is (subst (Lagging n l) at g.lagging) in
    let e = reset_tail l l' z is in
    let kept : (p : Puzzle) → p.size ≡ n → Kept p l₀ → Kept p l' =
    λ p q k. kept_same (shrunk l l' z is) (subst (λ m. m ≤ 9) (sym q) g.lagging.ready.size.high) (g.flows.flow p q k).0 in
    let stable : (p : Puzzle) → p.size ≡ n → Kept p l₀ → KeepsStable p (table_in l₀) (table_in l') =
    λ p q k. keeps_trans (g.flows.flow p q k).1 (keeps_table p (table_in l) (table_in l') (λ i j v. same_table l l' z is i j v)) in
    let sub : (x v : ℕ) → v < 16 → cand l' x v ≤ cand l₀ x v = λ x v h. omega (arith, reset_cand l l' z is x v, g.sub x v h) in
    record {
      size = reset_size l l' z is ∙ g.size;
      sub = sub;
      sound = λ p q k. grids_same l₀ l' g.lagging.ready.size.high sub p q (stable p q k);
      stable = stable;
      emptied = λ f. absurd (true≢false f);
      lagging = λ _. r;
      kept = λ _. kept;
      closed = λ _ p q k. rest_closed e r p q (kept p q k);
      lone_set = λ _. lone_set (at_rest e r);
      filled = λ _. rest_filled e r;
    }
