-- A state whose live lists are the arrangements of the targets, and that misses only what has no support, holds each stable table of the puzzle.
-- Assumes nothing.
use Prim.Native.Nat.{ℕ, ◌+◌, ◌*◌, ◌/◌, ◌%◌, ◌<◌}
use mathlib.Core.Path.{◌≡◌, sym, ap, ◌∙◌, subst}
use mathlib.Core.Bool.{true}
use mathlib.Core.List.{List, Memᴰ}
use native.Mathlib.Omega.{arith}
use native.Mathlib.Decide.{ℕ_discrete}
use borrow.Author.Tests.{eq-eqb}
use Rattle.rules.specs.Size.{Size}
use Rattle.rules.specs.Grid.{Puzzle, Line, index, target}
use Rattle.table.specs.Closed.{Arrangement, arrangements, place, Live, Supported}
use Rattle.table.specs.Stable.{Stable}
use Rattle.rules.proofs.GridLaws.{line_in}
use Rattle.line_laws.proofs.Arranged.{IsArrangement, arranged, allows_half, step_lt, live_mono}
use Rattle.soundness.specs.SameGrids.{Within}
use Rattle.table.proofs.ClosedTest.{Covers, covers}
use Rattle.table.specs.Table.{Table, places, first_black, half}
use Rattle.line_laws.proofs.GridLines.{place_in, places_cell}
use Rattle.table.specs.Lines.{row_of, column_of, line_at, cell_at, black_at, LineOf, line_number}
use Rattle.line_laws.proofs.CellValues.{half_every, value_of, value_small, value_half}
use Rattle.table.specs.Value.{IsValue, InHalf, HalfOf}
use Rattle.queue_state.specs.Slab.{cand, table_in}
use Rattle.queue_state.proofs.SlabLaws.{cand_lt}
use Rattle.queue_state.specs.Ready.{Valid}
use Rattle.words.specs.Word.{Known, arrangement_of, word_of, pattern, part}
use Rattle.words.proofs.PatternLaws.{part_yes}
use Rattle.words.proofs.Arranged.{known_length, pattern_allows}
use Rattle.arcs.specs.Arc.{lives, live, Tallied, Held, Backs, Holding, Unsupported}
use Rattle.arcs.proofs.KillLaws.{black_low}
use Rattle.arcs.proofs.LineLaws.{line_places, sum_each}
use Rattle.invariants.specs.State.{candidates_in}
use Rattle.invariants.proofs.StateLaws.{candidate_at, Candidate, of_candidate}
use Rattle.line_laws.proofs.LineNumbers.{Lined, lined}

-- ---- the candidates of a table

at_candidate : (n : ℕ) (t : Table) (r c v : ℕ) → c < 9 → candidates_in n t (r * 9 + c) v ≡ true → IsValue n v × (t r c v ≡ true)
at_candidate n t r c v hc e =
    let a : (r * 9 + c) / 9 ≡ r = omega arith in
    let b : (r * 9 + c) % 9 ≡ c = omega arith in
    let o = of_candidate n t (r * 9 + c) v e in
    (o.value, rw (a, b) at o.there)

-- ---- a known arrangement: its word has what it covers

covers_part : (n k id : ℕ) → Size n → Known n id → (i v : ℕ) → Covers n (black_at k) (arrangement_of n id) i v → part (black_at k) (word_of n id) i v ≡ 1
covers_part n k id z y i v c =
    part_yes (black_at k) (word_of n id) i v
    (ap (λ q. pattern (black_at k) (word_of n id) q v) (sym c.there)
    ∙ pattern_allows n id z y (black_at k) c.step v (black_low k) (omega (arith, c.within, known_length n id z y))
    ∙ c.allowed)

-- ---- a stable table of the puzzle

module _ (p : Puzzle) (z : Size p.size) (t : Table) (s : Stable p t) (k : ℕ) (o : Lined p.size k) where
  abbrev ℓ : Line
  ℓ = line_at k

  -- what it has at a place of the line is a candidate of it, and the reverse
  place_candidate : (i v : ℕ) → i < p.size → InHalf p.size ℓ v → places t ℓ i v ≡ true → candidates_in p.size t (cell_at k i) v ≡ true
  place_candidate i v h m e =
      let q = place_in p.size ℓ i o.inside h in
      subst (λ x. candidates_in p.size t x v ≡ true) (sym (o.cells i))
      (candidate_at p.size t (row_of ℓ i) (column_of ℓ i) v q.0 q.1 z.high (half_every p.size ℓ v m) (sym (places_cell t ℓ i v) ∙ e))

  candidate_place : (i v : ℕ) → i < p.size → HalfOf (black_at k) v → candidates_in p.size t (cell_at k i) v ≡ true →
      InHalf p.size ℓ v × (places t ℓ i v ≡ true)
  candidate_place i v h a e =
      let q = place_in p.size ℓ i o.inside h in
      let c = at_candidate p.size t (row_of ℓ i) (column_of ℓ i) v (omega (arith, q.1, z.high)) (subst (λ x. candidates_in p.size t x v ≡ true) (o.cells i) e) in
      (subst (λ b. Memᴰ v (half p.size b)) o.black (value_half p.size (black_at k) v c.0 a), places_cell t ℓ i v ∙ c.1)

  -- An arrangement that is live in it is held.
  live_held : (id : ℕ) → IsArrangement p.size (target p ℓ) (arrangement_of p.size id) →
      Live p.size (first_black ℓ) (places t ℓ) (arrangement_of p.size id) → Held p.size k (candidates_in p.size t) id
  live_held id w alive l has =
      subst (λ b. Live p.size b (places (table_in l) ℓ) (arrangement_of p.size id)) (sym o.black)
      (live_mono p.size (first_black ℓ) (arrangement_of p.size id) (places t ℓ) (places (table_in l) ℓ) (λ j v h a e.
      shows (place p.size (arrangement_of p.size id) j) v (step_lt p.size (target p ℓ) (arrangement_of p.size id) w j h)
      (allows_half p.size (target p ℓ) (arrangement_of p.size id) w (first_black ℓ) j v h a) e) alive)
    where
      shows : (i v : ℕ) → i < p.size → InHalf p.size ℓ v → places t ℓ i v ≡ true → places (table_in l) ℓ i v ≡ true
      shows i v h m e =
          line_places l k i v
          ∙ eq-eqb (cand l (cell_at k i) v) 1 (has (cell_at k i) v (value_small p.size v z.high (half_every p.size ℓ v m)) (place_candidate i v h m e))

-- ---- a state

module _ (p : Puzzle) (z : Size p.size) (l : List ℕ)
    (tallied : (k : ℕ) → LineOf p.size k → Tallied p.size k (lives l k) l)
    (listed : (ℓ : Line) → index ℓ < p.size → (a : Arrangement) → Memᴰ a (arrangements p.size (target p ℓ)) →
    (j : ℕ) × (j < lives l (line_number ℓ)) × (arrangement_of p.size (live l (line_number ℓ) j) ≡ a))
    (struck : (x v : ℕ) → v < 16 → Valid p.size x v → cand l x v ≡ 0 → Unsupported p.size l x v) where
  -- ---- a stable table of the puzzle

  module _ (t : Table) (s : Stable p t) where
    -- What it has in a line lies in a live arrangement that is held.
    stable_uses : (k : ℕ) → LineOf p.size k → (i v : ℕ) → i < p.size → HalfOf (black_at k) v → candidates_in p.size t (cell_at k i) v ≡ true →
        Backs p.size k (lives l k) l (candidates_in p.size t) i v
    stable_uses k of i v h a e =
        let y = (tallied k of).known r.0 r.1 in (
          r.0,
          r.1,
          covers_part n k (live l k r.0) z y i v (subst (λ x. Covers n (black_at k) x i v) (sym r.2) (subst (λ b. Covers n b u.arrangement i v) (sym o.black)
              ((covers n (first_black ℓ) u.arrangement i v).holds u.covers))),
          live_held p z t s k o (live l k r.0) (subst (IsArrangement n (target p ℓ)) (sym r.2) (arranged n (target p ℓ) u.arrangement z.low u.listed))
              (subst (Live n (first_black ℓ) (places t ℓ)) (sym r.2) u.alive),
        )
      where
        n : ℕ
        n = p.size

        ℓ : Line
        ℓ = line_at k

        o : Lined p.size k
        o = lined p.size k z of

        u : Supported p.size (first_black (line_at k)) (target p (line_at k)) (places t (line_at k)) i v
        u = let m = candidate_place p z t s k o i v h a e in
            (s.closed.lines (line_at k) (line_in p.size (line_at k) o.inside)).supported i v h m.0 m.1

        r : (j : ℕ) × (j < lives l k) × (arrangement_of p.size (live l k j) ≡ u.arrangement)
        r = subst (λ k. (j : ℕ) × (j < lives l k) × (arrangement_of p.size (live l k j) ≡ u.arrangement)) o.numbered (listed ℓ o.inside u.arrangement u.listed)

    -- What it has is a candidate of the state.
    stable_has : (x v : ℕ) → v < 16 → candidates_in p.size t x v ≡ true → cand l x v ≡ 1
    stable_has x v h e = go (ℕ_discrete (cand l x v) 0)
      where
        c : Candidate p.size t x v
        c = of_candidate p.size t x v e

        go : Dec (cand l x v ≡ 0) → cand l x v ≡ 1
        go (no q) = omega (arith, cand_lt l x v)
        go (yes q) =
            let u = struck x v h (record { row = c.row; column = c.column; value = value_of p.size v c.value }) q in
            let y = tallied u.line u.of in
            let r = stable_uses u.line u.of u.at v u.within u.half (rw u.there at e) in
            let none = sum_each (lives l u.line) (λ (j : ℕ). part (black_at u.line) (word_of p.size (live l u.line j)) u.at v)
            (sym (y.supports u.at v (omega (arith, u.within, z.high)) h) ∙ u.none) r.0 r.1 in
            absurd (omega (arith, r.2))

    -- It is held by the live arrangements of each line.
    pub stable_holding : (k : ℕ) → LineOf p.size k → Holding p.size k (lives l k) l (candidates_in p.size t)
    stable_holding k of = record { has = stable_has; uses = λ i v h _ a e. stable_uses k of i v h a e }

    -- And it lies within the state's.
    pub stable_within : Within p.size t (table_in l)
    unfolding table_in
    stable_within =
        record {
          kept = λ r c v hr hc m e.
              eq-eqb (cand l (r * 9 + c) v) 1
              (stable_has (r * 9 + c) v (value_small p.size v z.high m) (candidate_at p.size t r c v hr hc z.high m e));
        }
