-- The written table from the state at rest, and the answer from it. Assumes nothing.
use Prim.Native.Nat.{ℕ, ◌≤◌, ◌<◌}
use mathlib.Core.Path.{◌≡◌, refl, sym, ap, ◌∙◌}
use mathlib.Core.Bool.{Bool, true, false, ◌&&◌, true≢false, or-true}
use mathlib.Core.Logic.{◌≢◌, inl, inr}
use mathlib.Core.List.{List, Memᴰ}
use native.Mathlib.Omega.{arith}
use native.Mathlib.Decide.{ℕ_discrete, dec_lt}
use lib.Dec.{ltb}
use lib.ListN.{length}
use borrow.Author.Tests.{lt-ltb, le-leb}
use Rattle.tally.specs.Tally.{any}
use Rattle.tally.proofs.TallyLaws.{and_left, and_right, and_both, false_of}
use Rattle.std.specs.Prelude.{⊤, Result, Ok, Err}
use Rattle.refusal.specs.declared.Refusal.{Refusal}
use Rattle.units.specs.declared.Unit.{Unit}
use Rattle.rules.specs.Grid.{Puzzle, across, down, keeps}
use Rattle.rules.specs.Mark.{rejects, mark_row, mark_column, mark_value}
use Rattle.rules.proofs.GridLaws.{solution_way}
use Rattle.rules.specs.Check.{checked, solve_checks}
use Rattle.rules.specs.Number.{solves, number, Solution}
use Rattle.number.specs.VerdictLaws.{some_grid}
use Rattle.table.specs.Table.{Table, first_black, every_value, fits, table_of, in_row, in_column, same_half}
use Rattle.table.specs.Steps.{marked_all}
use Rattle.table.specs.Closed.{Closed}
use Rattle.table.proofs.Decides.{refuted, is}
use Rattle.table.proofs.Decides as decides
use Rattle.line_laws.proofs.Half.{first_in, second_in}
use Rattle.line_laws.specs.Grids.{GridOf}
use Rattle.settled.proofs.EmptyLaws.{empty_left}
use Rattle.settled.specs.EmptyCell.{Empty}
use Rattle.line_laws.proofs.CellValues.{CellValue, digit_value, row_black, column_black, cell_value, half_every, value_small, value_every}
use Rattle.table.specs.Value.{IsValue}
use Rattle.soundness.proofs.SameLaws.{same_left, same_ext, same_trans}
use Rattle.soundness.proofs.StableLaws.{or_none, one_of, stable_fits}
use Rattle.soundness.specs.SameGrids.{SameGrids}
use Rattle.soundness.specs.Greatest.{GreatestAfter}
use Rattle.soundness.proofs.Taken.{same_half_lem}
use Rattle.soundness.proofs.MarkLaws.{marks_fits, rejected_gone, taken_alone}
use Rattle.soundness.proofs.GridStable.{stable_whole}
use Rattle.soundness.specs.Marks.{AcceptedMark, Whole}
use Rattle.soundness.proofs.MarkLaws as marks
use Rattle.queue_state.specs.Slab.{table_in}
use Rattle.invariants.specs.State.{Propagated}
use Rattle.invariants.proofs.StateLaws.{table_kept}
use Rattle.written.specs.Published.{PublishedTable}
use Rattle.written.proofs.MaskLaws.{published_table}
use Rattle.prepare.specs.Prepared.{Marked}
use Rattle.engine.proofs.CountLaws.{count_left}
use Rattle.engine.proofs.SolveLaws.{SolveAsk, solve_small}
use Rattle.candidates.specs.declared.Outcome.TheVariants.{Contradicted, Written}
use Rattle.candidates.specs.Remaining.{Remaining, WrittenTable, TableGiven}
use Rattle.candidates.proofs.SameClosed.{closed_same, lone_set_same}

-- ---- a value that is alone in its half is there

module _ (p : Puzzle) (t : Table) (small : p.size ≤ 9) (closed : Closed p t) (r c : ℕ) (row : r < p.size) (column : c < p.size) where
  module _ (v : ℕ) (none : (w : ℕ) → IsValue p.size w → same_half v w ≡ true → t r c w ≡ false) where
    digit_none : v < 8 → Empty p.size t r c
    digit_none h w m =
        none w m (rw (lt-ltb v 10 (omega arith), lt-ltb v 8 h) (elim (dec_lt w 10) [
          | yes g ↦ rw (lt-ltb w 10 g)
          | no g ↦ rw (le-leb 10 w (omega arith), or-true (ltb w 8)) (or-true (in_row w))
        ]))

    row_none : 8 ≤ v → v < 10 → Empty p.size t r c
    unfolding first_black
    row_none h g w m =
        let n = p.size in
        let low : (x : ℕ) → IsValue n x → x < 10 → t r c x ≡ false = λ x q l. none x q (rw (lt-ltb v 10 g, lt-ltb x 10 l)) in
        let eight = low 8 (half_every n (across 0) 8 (first_in n 8)) (omega arith) in
        let nine = low 9 (half_every n (across 0) 9 (second_in n 8)) (omega arith) in
        let both = or_none (t r c 10) (t r c 11) (sym (closed.blacks r c row column) ∙ rw (eight, nine)) in
        go (cell_value n w m) low both
      where
        go : CellValue p.size w → ((x : ℕ) → IsValue p.size x → x < 10 → t r c x ≡ false) → (t r c 10 ≡ false) × (t r c 11 ≡ false) → t r c w ≡ false
        go (digit_value q l) low both = low w m (omega (arith, small))
        go (row_black q l u) low both = low w m u
        go (column_black q l u) low both = one_of 10 w (λ x. t r c x ≡ false) both.0 both.1 l u

    column_none : 10 ≤ v → v < 12 → Empty p.size t r c
    unfolding first_black
    column_none h g w m =
        let n = p.size in
        let shared : (x : ℕ) → (in_column x) ≡ true → same_half v x ≡ true = λ x e. rw (e, le-leb 10 v h, or-true (ltb v 8)) (or-true (in_row v && in_row x)) in
        let digit : (x : ℕ) → IsValue n x → x < 8 → t r c x ≡ false = λ x q l. none x q (shared x (rw (lt-ltb x 8 l))) in
        let high : (x : ℕ) → IsValue n x → 10 ≤ x → t r c x ≡ false = λ x q l. none x q (shared x (rw (le-leb 10 x l) (or-true (ltb x 8)))) in
        let ten = high 10 (half_every n (down 0) 10 (first_in n 10)) (omega arith) in
        let eleven = high 11 (half_every n (down 0) 11 (second_in n 10)) (omega arith) in
        let both = or_none (t r c 8) (t r c 9) (closed.blacks r c row column ∙ rw (ten, eleven)) in
        go (cell_value n w m) digit high both
      where
        go : CellValue p.size w → ((x : ℕ) → IsValue p.size x → x < 8 → t r c x ≡ false) → ((x : ℕ) → IsValue p.size x → 10 ≤ x → t r c x ≡ false) →
            (t r c 8 ≡ false) × (t r c 9 ≡ false) → t r c w ≡ false
        go (digit_value q l) digit high both = digit w m (omega (arith, small))
        go (row_black q l u) digit high both = one_of 8 w (λ x. t r c x ≡ false) both.0 both.1 l u
        go (column_black q l u) digit high both = high w m l

  -- A half with no other value than v has v, if the cell is not empty.
  alone_there : (v : ℕ) → IsValue p.size v → (Empty p.size t r c → ⊥) →
      ((w : ℕ) → IsValue p.size w → w ≢ v → same_half v w ≡ true → t r c w ≡ false) → t r c v ≡ true
  alone_there v m some alone = go (t r c v) refl
    where
      empty : t r c v ≡ false → CellValue p.size v → Empty p.size t r c
      empty e k =
          let none : (w : ℕ) → IsValue p.size w → same_half v w ≡ true → t r c w ≡ false =
          λ w q s. elim (ℕ_discrete w v) [ yes z ↦ ap (t r c) z ∙ e | no z ↦ alone w q z s ] in
          elim k [
            | digit_value q l ↦ digit_none v none (omega (arith, small))
            | row_black q l u ↦ row_none v none l u
            | column_black q l u ↦ column_none v none l u
          ]

      go : (b : Bool) → t r c v ≡ b → t r c v ≡ true
      go true e = e
      go false e = absurd (some (empty e (cell_value p.size v m)))

-- ---- the table at rest

module _ {p : Puzzle} {ms : List ℕ} {len : ℕ} (a : SolveAsk p ms len) where
  mark_in : (m : ℕ) → Memᴰ m ms → AcceptedMark p.size m
  mark_in = marks.accepted p.size ms a.count.marks

  module _ {l : List ℕ} (m : Marked p ms l) where
    -- the table before the marks has each grid of the puzzle
    whole : Whole p (table_in m.before)
    whole = stable_whole p (solve_small a) (table_in m.before) m.rested.stable

    -- the state's table is that one after the marks
    marked_same : SameGrids p (marked_all (table_in m.before) ms) (table_in l)
    marked_same =
        same_ext p (solve_small a) (λ r c v hr hc k. sym (m.table r c v (omega (arith, solve_small a)) (omega (arith, solve_small a)) (value_small p.size v (solve_small a) k)))

    marked_at : (x v : ℕ) → Memᴰ x ms → IsValue p.size v → marked_all (table_in m.before) ms (mark_row x) (mark_column x) v ≡ false →
        table_in l (mark_row x) (mark_column x) v ≡ false
    marked_at x v k q e =
        let w = mark_in x k in
        m.table (mark_row x) (mark_column x) v (omega (arith, solve_small a, w.row_in)) (omega (arith, solve_small a, w.column_in)) (value_small p.size v (solve_small a) q) ∙ e

    pub left_none : {l' : List ℕ} {b : Bool} → Propagated p.size l l' b → b ≡ false → number p ms ≡ 0
    left_none d e =
        let x = d.emptied e in
        sym (count_left a.count m) ∙ same_left (d.sound p refl m.kept) ∙ empty_left p _ (solve_small a) x.row x.column x.row_in x.column_in x.empty

    module _ {l' table : List ℕ} (d : Propagated p.size l l' true) (w : PublishedTable p.size l' table) where
      t : Table
      t = table_of p.size table

      same : (r c v : ℕ) → r < p.size → c < p.size → IsValue p.size v → t r c v ≡ table_in l' r c v
      unfolding t
      same r c v hr hc k =
          ap (λ x. table_of p.size x r c v) w.masks ∙ published_table (d.lagging refl).ready r c hr hc v k

      -- every grid that keeps puzzle and marks fits
      fits_grids : (g : List ℕ) → Solution p ms g → fits p.size t g ≡ true
      unfolding solves
      fits_grids g s =
          let k : GridOf p g = record { filled = solution_way s; kept = and_left _ _ s.right } in
          let All-same = same_trans (marked_same) (same_trans (d.sound p refl m.kept) (same_ext p (solve_small a) (λ r c v hr hc q. sym (same r c v hr hc q)))) in
          sym (All-same.same g k) ∙ marks_fits p (solve_small a) (table_in m.before) ms mark_in g k ∙ and_both (whole.whole g k) (and_right (keeps p g) _ s.right)

      gone : (x v : ℕ) → Memᴰ x ms → IsValue p.size v → marked_all (table_in m.before) ms (mark_row x) (mark_column x) v ≡ false →
          t (mark_row x) (mark_column x) v ≡ false
      gone x v k q e =
          let i = mark_in x k in
          same (mark_row x) (mark_column x) v i.row_in i.column_in q
          ∙ false_of _ (λ s. true≢false (sym (table_kept l l' d.sub (mark_row x) (mark_column x) v (value_small p.size v (solve_small a) q) s) ∙ marked_at x v k q e))

      others_gone : (x v : ℕ) → Memᴰ x ms → rejects x ≡ false → IsValue p.size v → v ≢ mark_value x → same_half (mark_value x) v ≡ true →
          t (mark_row x) (mark_column x) v ≡ false
      others_gone x v k e q ne h = gone x v k q (taken_alone (table_in m.before) k e v h ne)

      closed : Closed p t
      closed = closed_same p (table_in l') t same a.count.puzzle.size.low (d.closed refl p refl m.kept)

      some : (r c : ℕ) → r < p.size → c < p.size → Empty p.size t r c → ⊥
      some r c hr hc e = d.filled refl r c hr hc (λ v k. sym (same r c v hr hc k) ∙ e v k)

      filled : (r c : ℕ) → r < p.size → c < p.size → any (t r c) (every_value p.size) ≡ true
      filled r c hr hc = go (any (t r c) (every_value p.size)) refl
        where
          go : (b : Bool) → any (t r c) (every_value p.size) ≡ b → any (t r c) (every_value p.size) ≡ true
          go true e = e
          go false e = absurd (some r c hr hc (λ v m. false_of (t r c v) (λ q. refuted (decides.some (λ w. is (t r c w)) (every_value p.size)) e (v, m, q))))

      remaining : Remaining p ms t
      remaining =
          record {
            grids = fits_grids;
            filled = filled;
            closed = closed;
            rejected = λ x k e. gone x (mark_value x) k (mark_in x k).value_in (rejected_gone (table_in m.before) k e);
            taken = λ x k e. let i = mark_in x k in
                alone_there p t (solve_small a) closed (mark_row x) (mark_column x) i.row_in i.column_in (mark_value x) i.value_in
                (some (mark_row x) (mark_column x) i.row_in i.column_in) (λ v q ne h. others_gone x v k e q ne h);
            alone = λ x v ℓ k e q h ne. others_gone x v k e (half_every p.size ℓ v h) ne (same_half_lem p.size (solve_small a) ℓ (mark_value x) v q h);
          }

      -- Where a grid is left, both tables at rest are the greatest.
      greatest : (g : List ℕ) → Solution p ms g → GreatestAfter p ms t
      unfolding solves
      greatest g s =
          record {
            before = table_in m.before;
            first = record {
              within = record { kept = λ r c v hr hc q e. refl };
              stable = stable_fits p (solve_small a) (table_in m.before) m.rested.closed m.rested.lone_set g k (whole.whole g k);
              greatest = m.rested.stable;
            };
            after = record {
              within = record {
                kept = λ r c v hr hc q e. sym (marked r c v hr hc q)
                    ∙ table_kept l l' d.sub r c v (value_small p.size v (solve_small a) q) (sym (same r c v hr hc q) ∙ e);
              };
              stable = stable_fits p (solve_small a) t closed (lone_set_same p (table_in l') t same (d.lone_set refl)) g k (fits_grids g s);
              greatest = record {
                keeps = λ x y z. record {
                  kept = λ r c v hr hc q e. same r c v hr hc q ∙ ((d.stable p refl m.kept).keeps x y (record {
                    kept = λ r c v hr hc q e. marked r c v hr hc q ∙ z.kept r c v hr hc q e;
                  })).kept r c v hr hc q e;
                };
              };
            };
          }
        where
          k : GridOf p g
          k = record { filled = solution_way s; kept = and_left _ _ s.right }

          marked : (r c v : ℕ) → r < p.size → c < p.size → IsValue p.size v → table_in l r c v ≡ marked_all (table_in m.before) ms r c v
          marked r c v hr hc q = m.table r c v (omega (arith, solve_small a)) (omega (arith, solve_small a)) (value_small p.size v (solve_small a) q)

      pub written_table : length table ≡ len → WrittenTable p ms table
      unfolding t
      written_table e =
          record {
            size = e ∙ a.room;
            remaining = remaining;
            plain = λ r c b hr hc q. let u = w.plain r c hr hc b q in (u.0, value_every p.size u.0 (solve_small a) u.1, u.2);
            greatest = λ h. let s = some_grid p ms h in greatest s.0 s.1;
          }

-- ---- the answers

pub table_refused : {u : Unit} {p : Puzzle} {ms table : List ℕ} (k : Refusal) → Err k ≡ checked (solve_checks u p ms (length table)) → TableGiven u p ms (Err k) table table
table_refused k d =
    record {
      refused = λ j e. let z : ◌≡◌ {A = Result ⊤ Refusal} (Err k) (Err j) = d ∙ e in let q : k ≡ j = cc in (ap Err q, refl);
      answered = λ e. let z : ◌≡◌ {A = Result ⊤ Refusal} (Err k) (Ok tt) = d ∙ e in cc;
    }

module _ {u : Unit} {p : Puzzle} {ms table table' : List ℕ} (d : Ok tt ≡ checked (solve_checks u p ms (length table))) where
  pub table_given : WrittenTable p ms table' → TableGiven u p ms (Ok Written) table table'
  table_given t = record { refused = λ k x. let z : Ok tt ≡ Err k = d ∙ x in cc; answered = λ _. inl (refl, t) }

  pub table_none : (number p ms ≡ 0) × (table' ≡ table) → TableGiven u p ms (Ok Contradicted) table table'
  table_none t = record { refused = λ k x. let z : Ok tt ≡ Err k = d ∙ x in cc; answered = λ _. inr (refl, t.0, t.1) }
