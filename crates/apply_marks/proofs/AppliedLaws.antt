-- Marks applied one after the other: each is a strike or a cell set, and together they are the list. Assumes nothing.
use Prim.Native.Nat.{ℕ, ◌+◌, ◌*◌, ◌/◌, ◌%◌, ◌≤◌, ◌<◌}
use mathlib.Core.Path.{◌≡◌, refl, sym, ap, ◌∙◌, subst}
use mathlib.Core.Bool.{true, false, cond}
use mathlib.Core.List.Memᴰ
use mathlib.Core.List.{List, [], ◌∷◌}
use native.Mathlib.Omega.{arith}
use lib.ListN.{length, drop}
use Rattle.tally.specs.Tally.{join}
use Rattle.rules.specs.Mark.{rejects, mark_row, mark_column, mark_value, marks_of}
use Rattle.rules.specs.Check.{refusal, check_mark}
use Rattle.rules.specs.CheckParts.{mark_checks}
use Rattle.rules.proofs.CheckLaws.{refusal_none_right}
use Rattle.table.specs.Table.{Table}
use Rattle.table.specs.Steps.{struck, taken, marked, marked_all}
use Rattle.soundness.proofs.MarkLaws.{accepted}
use Rattle.soundness.specs.Marks.{AcceptedMark}
use Rattle.queue_state.specs.Slab.{table_in, Sized, Struck, One}
use Rattle.table.specs.Value.{ValueOf}
use Rattle.set_cell.specs.Setting.{SetHit, SetAsk}
use Rattle.set_cell.proofs.SetLaws.{set_table}
use Rattle.invariants.specs.State.{Lagging}
use Rattle.invariants.proofs.StateLaws.{one_table, kept_struck, lagging_struck}
use Rattle.line_laws.proofs.CellValues.{value_of, value_small}
use Rattle.mark_list.specs.declared.Mark.{Mark}
use Rattle.mark_list.specs.Unpacked.{unpacked, word_at}
use Rattle.mark_list.proofs.MarkLaws.{marks_next, marks_end, mark_numbered}
use Rattle.apply_marks.specs.Applied.{MarkAsk, MarksAsk, MarksApplied}

-- ---- tables

-- a mark looks at one place of the table
marked_same : (t u : Table) (m i j w : ℕ) → t i j w ≡ u i j w → marked t m i j w ≡ marked u m i j w
unfolding marked struck taken
marked_same t u m i j w e =
    let r = mark_row m in
    let c = mark_column m in
    let v = mark_value m in
    elim (rejects m) as (λ b. cond b (struck t r c v) (taken t r c v) i j w ≡ cond b (struck u r c v) (taken u r c v) i j w)
    [ true ↦ rw e | false ↦ rw e ]

-- so do marks
marks_same : (t u : Table) (ms : List ℕ) (i j w : ℕ) → t i j w ≡ u i j w → marked_all t ms i j w ≡ marked_all u ms i j w
unfolding marked_all
marks_same t u [] i j w e = e
marks_same t u (m ∷ ms) i j w e = marks_same (marked t m) (marked u m) ms i j w (marked_same t u m i j w e)

-- ---- one mark

-- strikes that make the table of a mark apply it
struck_applied : {n m : ℕ} {l l' : List ℕ} {Hit : ℕ → ℕ → Type 0} → MarkAsk n l m → Struck l l' Hit →
    ((r c v : ℕ) → r < 9 → c < 9 → v < 16 → table_in l' r c v ≡ marked (table_in l) m r c v) → MarksApplied n l l' (m ∷ [])
unfolding marked_all
struck_applied a s t =
    record {
      size = s.grown.size;
      lagging = lagging_struck s a.lagging;
      kept = λ p e k. kept_struck (omega (arith, e, a.lagging.ready.size.high)) s k;
      table = t;
    }

-- the fields of a mark, as the code has them
module _ {n w : ℕ} {l : List ℕ} {m : Mark} (u : m ≡ unpacked w) (a : MarkAsk n l w) where
  row_is : m.candidate.row ≡ mark_row w
  row_is = ap (λ (x : Mark). x.candidate.row) u

  column_is : m.candidate.column ≡ mark_column w
  column_is = ap (λ (x : Mark). x.candidate.column) u

  value_is : m.candidate.value ≡ mark_value w
  value_is = ap (λ (x : Mark). x.candidate.value) u

  rejects_is : m.rejects ≡ rejects w
  rejects_is = ap (λ (x : Mark). x.rejects) u

  pub mark_row_lem : m.candidate.row < 9
  mark_row_lem = omega (arith, row_is, a.accepted.row_in, a.lagging.ready.size.high)

  pub mark_column_lem : m.candidate.column < 9
  mark_column_lem = omega (arith, column_is, a.accepted.column_in, a.lagging.ready.size.high)

  pub mark_clears : Sized l × (m.candidate.row * 9 + m.candidate.column < 81) × (m.candidate.value < 16)
  mark_clears = (
    a.lagging.ready.sized,
    omega (arith, mark_row_lem, mark_column_lem),
    omega (arith, value_is, value_small n (mark_value w) a.lagging.ready.size.high a.accepted.value_in),
  )

  pub mark_sets : SetAsk n l m.candidate.row m.candidate.column m.candidate.value
  mark_sets =
      record {
        ready = a.lagging.ready;
        row = omega (arith, row_is, a.accepted.row_in);
        column = omega (arith, column_is, a.accepted.column_in);
        value = subst (ValueOf n) (sym value_is) (value_of n (mark_value w) a.accepted.value_in);
      }

  pub mark_rejected : {l' : List ℕ} → m.rejects ≡ true → Struck l l' (One (m.candidate.row * 9 + m.candidate.column) m.candidate.value) → MarksApplied n l l' (w ∷ [])
  unfolding marked
  mark_rejected {l'} t s =
      let er : (m.candidate.row * 9 + m.candidate.column) / 9 ≡ mark_row w = omega (arith, mark_column_lem, row_is) in
      let ec : (m.candidate.row * 9 + m.candidate.column) % 9 ≡ mark_column w = omega (arith, mark_column_lem, column_is) in
      let y : rejects w ≡ true = sym rejects_is ∙ t in
      struck_applied a s (λ i j v hi hj hv. rw (y, ← er, ← ec, ← value_is) (one_table (m.candidate.row * 9 + m.candidate.column) m.candidate.value s i j v hi hj hv))

  pub mark_taken : {l' : List ℕ} → m.rejects ≡ false → Struck l l' (SetHit m.candidate.row m.candidate.column m.candidate.value) → MarksApplied n l l' (w ∷ [])
  unfolding marked
  mark_taken {l'} t s =
      let y : rejects w ≡ false = sym rejects_is ∙ t in
      struck_applied a s (λ i j v hi hj hv. rw (y, ← row_is, ← column_is, ← value_is) (set_table m.candidate.row m.candidate.column m.candidate.value s i j v hi hj hv))

-- ---- a list of marks

applied_none : {n : ℕ} {l : List ℕ} → Lagging n l 0 → MarksApplied n l l []
unfolding marked_all
applied_none g = record { size = refl; lagging = g; kept = λ p e k. k; table = λ r c v hr hc hv. refl }

applied_cons : {n m : ℕ} {l₀ l₁ l₂ ms : List ℕ} → MarksApplied n l₀ l₁ (m ∷ []) → MarksApplied n l₁ l₂ ms → MarksApplied n l₀ l₂ (m ∷ ms)
unfolding marked_all
applied_cons {m = m} {l₀ = l₀} {l₁ = l₁} {ms = ms} a b =
    record {
      size = b.size ∙ a.size;
      lagging = b.lagging;
      kept = λ p e k. b.kept p e (a.kept p e k);
      table = λ r c v hr hc hv. b.table r c v hr hc hv ∙ marks_same (table_in l₁) (marked (table_in l₀) m) ms r c v (a.table r c v hr hc hv);
    }

-- The marks before mark i are applied: the others may be, and applying them completes the list.
pub record Halfway (n : ℕ) (l₀ l bytes : List ℕ) (i : ℕ) : Type 0 where
  pub size : length l ≡ length l₀
  pub lagging : Lagging n l 0
  pub accepted : refusal (mark_checks n (marks_of (drop (2 * i) bytes))) ≡ 0
  pub completes : {l' : List ℕ} → MarksApplied n l l' (marks_of (drop (2 * i) bytes)) → MarksApplied n l₀ l' (marks_of bytes)

pub marks_begin : {n : ℕ} {l bytes : List ℕ} → MarksAsk n l bytes → Halfway n l l bytes 0
marks_begin a = record { size = refl; lagging = a.lagging; accepted = a.accepted; completes = λ b. b }

module _ {n : ℕ} {l₀ l bytes : List ℕ} (i : ℕ) (b : Halfway n l₀ l bytes i) where
  pub mark_asks : {w : ℕ} → w ≡ word_at bytes i → 2 * i < length bytes → MarkAsk n l w
  mark_asks e h =
      record {
        lagging = b.lagging;
        accepted = subst (AcceptedMark n) (sym e) (accepted n (word_at bytes i ∷ marks_of (drop (2 * (i + 1)) bytes))
            (ap (λ ms. refusal (mark_checks n ms)) (sym (marks_next bytes i h)) ∙ b.accepted) (word_at bytes i) (Memᴰ.head refl));
      }

  pub marks_step : {w : ℕ} {l₁ : List ℕ} → w ≡ word_at bytes i → 2 * i < length bytes → MarksApplied n l l₁ (w ∷ []) → Halfway n l₀ l₁ bytes (i + 1)
  unfolding join
  marks_step {w} {l₁} e h a =
      let next = marks_next bytes i h in
      let first = subst (λ y. MarksApplied n l l₁ (y ∷ [])) e a in
      record {
        size = a.size ∙ b.size;
        lagging = a.lagging;
        accepted =
            refusal_none_right (check_mark n (word_at bytes i)) (mark_checks n (marks_of (drop (2 * (i + 1)) bytes))) (mark_numbered n (word_at bytes i))
            (ap (λ ms. refusal (mark_checks n ms)) (sym next) ∙ b.accepted);
        completes = λ {l'} q. b.completes (subst (MarksApplied n l l') (sym next) (applied_cons first q));
      }

  pub marks_done : length bytes ≤ 2 * i → MarksApplied n l₀ l (marks_of bytes)
  marks_done h = b.completes (subst (MarksApplied n l l) (sym (marks_end bytes i h)) (applied_none b.lagging))
