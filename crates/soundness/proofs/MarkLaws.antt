-- Marks: what accepted ones say, which grids they leave, and which candidates. Assumes nothing.
use Prim.Native.Nat.{ℕ, ◌-◌, ◌≤◌}
use mathlib.Core.Path.{◌≡◌, refl, sym, ap, ◌∙◌, subst}
use mathlib.Core.Bool.{true, false, not, ◌&&◌, ◌||◌, cond, true≢false, and_assoc, and-true}
use mathlib.Core.Logic.{◌≢◌, ⊎_elim}
use mathlib.Core.List.Memᴰ
use mathlib.Core.List.{List, [], ◌∷◌, Memᴰ}
use native.Mathlib.Omega.{arith}
use native.Mathlib.Decide.{ℕ_discrete}
use lib.Dec.{ltb, leb}
use borrow.Author.Tests.{ltb-true, leb-true}
use Rattle.tally.specs.Tally.{all, join}
use Rattle.tally.proofs.TallyLaws.{and_left, and_right, span_mem, or_split, false_of}
use Rattle.rules.specs.Grid.{digits, Puzzle, across, down}
use Rattle.rules.specs.Mark.{rejects, mark_row, mark_column, mark_value, has, keeps_mark}
use Rattle.rules.specs.Short.{keeps_marks}
use Rattle.rules.specs.Number.{solves, number}
use Rattle.refusal.specs.declared.Refusal.TheVariants.{MarkSpare, MarkPlace, MarkValue}
use Rattle.rules.specs.Check.{refusal, named, check_mark}
use Rattle.rules.specs.CheckParts.{mark_checks}
use Rattle.rules.proofs.CheckLaws.{lacks, refusal_none, refusal_none_left, refusal_none_right}
use Rattle.table.specs.Table.{Table, first_black, fits, left, in_row, in_column}
use Rattle.table.specs.Steps.{struck, taken, marked, marked_all}
use Rattle.line_laws.proofs.Half.{digit_in, first_in, second_in}
use Rattle.line_laws.specs.Grids.{GridOf}
use Rattle.line_laws.proofs.CellValues.{half_every}
use Rattle.table.specs.Value.{IsValue}
use Rattle.soundness.proofs.SameLaws.{count_grids}
use Rattle.soundness.proofs.Taken.{strikes_here, taken_gone, struck_gone, taken_fits, struck_fits}
use Rattle.soundness.specs.Marks.{AcceptedMark, Whole}

-- ---- accepted marks

named_in : (n v : ℕ) → named n v ≡ true → IsValue n v
unfolding named digits first_black
named_in n v t =
    ⊎_elim
    (λ q. let a = leb-true 1 v (and_left _ _ q) in let b = leb-true v (n - 2) (and_right (leb 1 v) _ q) in
    half_every n (across 0) v (digit_in n 8 (span_mem 1 (n - 2) v a (omega arith))))
    (λ q. let a = leb-true 8 v (and_left _ _ q) in let b = leb-true v 11 (and_right (leb 8 v) _ q) in
    elim (ℕ_discrete v 8) [
      | yes e ↦ half_every n (across 0) v (Memᴰ.cast e (first_in n 8))
      | no e ↦
          elim (ℕ_discrete v 9) [
            | yes f ↦ half_every n (across 0) v (Memᴰ.cast f (second_in n 8))
            | no f ↦
                elim (ℕ_discrete v 10) [
                  | yes h ↦ half_every n (down 0) v (Memᴰ.cast h (first_in n 10))
                  | no h ↦ half_every n (down 0) v (Memᴰ.cast (omega arith) (second_in n 10))
                ]
          ]
    ])
    (or_split (leb 1 v && leb v (n - 2)) (leb 8 v && leb v 11) t)

-- Marks that are not refused are accepted.
pub accepted : (n : ℕ) (ms : List ℕ) → refusal (mark_checks n ms) ≡ 0 → (m : ℕ) → Memᴰ m ms → AcceptedMark n m
unfolding join
accepted n [] e m k = absurd (Memᴰ.not-nil k)
accepted n (x ∷ ms) e m (Memᴰ.head q) =
    let a = refusal_none MarkSpare _ _ (refusal_none_left (check_mark n x) (mark_checks n ms) e) in
    let b = refusal_none MarkPlace (ltb (mark_row x) n && ltb (mark_column x) n) _ a.1 in
    let c = refusal_none MarkValue (named n (mark_value x)) [] b.1 in
    subst (AcceptedMark n) (sym q) (record {
      row_in = ltb-true (mark_row x) n (and_left _ _ b.0);
      column_in = ltb-true (mark_column x) n (and_right (ltb (mark_row x) n) _ b.0);
      value_in = named_in n (mark_value x) c.0;
    })
accepted n (x ∷ ms) e m (Memᴰ.tail k) = accepted n ms (refusal_none_right (check_mark n x) (mark_checks n ms) (unfold lacks in refl) e) m k

-- ---- which grids marks leave

module _ (p : Puzzle) (small : p.size ≤ 9) where
  pub marked_fits : (t : Table) (m : ℕ) → AcceptedMark p.size m → (g : List ℕ) → GridOf p g →
      fits p.size (marked t m) g ≡ (fits p.size t g && keeps_mark p.size g m)
  unfolding marked keeps_mark
  marked_fits t m a g d =
      let n = p.size in
      let r = mark_row m in
      let c = mark_column m in
      let v = mark_value m in
      elim (rejects m) as (λ x. fits n (cond x (struck t r c v) (taken t r c v)) g ≡ (fits n t g && cond x (not (has n g r c v)) (has n g r c v))) [
        | true ↦ struck_fits p small t r c v a.row_in a.column_in a.value_in g d
        | false ↦ taken_fits p small t r c v a.row_in a.column_in a.value_in g d
      ]

  -- Marks leave just the grids that keep them.
  pub marks_fits : (t : Table) (ms : List ℕ) → ((m : ℕ) → Memᴰ m ms → AcceptedMark p.size m) → (g : List ℕ) → GridOf p g →
      fits p.size (marked_all t ms) g ≡ (fits p.size t g && keeps_marks p.size ms g)
  unfolding marked_all all
  marks_fits t [] a g d = sym (and-true (fits p.size t g))
  marks_fits t (m ∷ ms) a g d =
      marks_fits (marked t m) ms (λ x k. a x (Memᴰ.tail k)) g d
      ∙ ap (λ b. b && all (keeps_mark p.size g) ms) (marked_fits t m (a m (Memᴰ.head refl)) g d)
      ∙ and_assoc (fits p.size t g) (keeps_mark p.size g m) (all (keeps_mark p.size g) ms)

module _ (p : Puzzle) (small : p.size ≤ 9) (t : Table) where
  module _ (ms : List ℕ) (a : (m : ℕ) → Memᴰ m ms → AcceptedMark p.size m) where
    -- After the marks, the number is what is left.
    pub marks_number : Whole p t → number p ms ≡ left p (marked_all t ms)
    unfolding number solves left
    marks_number w =
        count_grids p (keeps_marks p.size ms) (fits p.size (marked_all t ms))
        (λ g d. sym (marks_fits p small t ms a g d ∙ ap (λ b. b && keeps_marks p.size ms g) (w.whole g d)))

-- ---- which candidates marks leave

marked_kept : (t : Table) (m i j w : ℕ) → marked t m i j w ≡ true → t i j w ≡ true
unfolding marked struck taken
marked_kept t m i j w =
    let r = mark_row m in
    let c = mark_column m in
    let v = mark_value m in
    elim (rejects m) as (λ b. cond b (struck t r c v) (taken t r c v) i j w ≡ true → t i j w ≡ true)
    [ true ↦ λ e. and_left (t i j w) _ e | false ↦ λ e. and_left (t i j w) _ e ]

pub marks_kept : (t : Table) (ms : List ℕ) (i j w : ℕ) → marked_all t ms i j w ≡ true → t i j w ≡ true
unfolding marked_all
marks_kept t [] i j w e = e
marks_kept t (m ∷ ms) i j w e = marked_kept t m i j w (marks_kept (marked t m) ms i j w e)

-- what one mark strikes of any table is gone after all of them
marks_gone : {m : ℕ} (t : Table) (i j w : ℕ) {ms : List ℕ} → Memᴰ m ms → ((u : Table) → marked u m i j w ≡ false) → marked_all t ms i j w ≡ false
unfolding marked_all
marks_gone t i j w (Memᴰ.head {x = x} {xs = xs} e) f =
    false_of (marked_all (marked t x) xs i j w) (λ s. true≢false (sym (marks_kept (marked t x) xs i j w s) ∙ subst (λ y. marked t y i j w ≡ false) e (f t)))
marks_gone t i j w (Memᴰ.tail {x = x} k) f = marks_gone (marked t x) i j w k f

module _ (t : Table) {m : ℕ} {ms : List ℕ} (k : Memᴰ m ms) where
  -- A rejected value is gone.
  pub rejected_gone : rejects m ≡ true → marked_all t ms (mark_row m) (mark_column m) (mark_value m) ≡ false
  unfolding marked
  rejected_gone e = marks_gone t (mark_row m) (mark_column m) (mark_value m) k (λ u. rw e (struck_gone u (mark_row m) (mark_column m) (mark_value m)))

  -- A taken value is alone in its half.
  pub taken_alone : rejects m ≡ false → (w : ℕ) → ((in_row (mark_value m) && in_row w) || (in_column (mark_value m) && in_column w)) ≡ true → w ≢ mark_value m →
      marked_all t ms (mark_row m) (mark_column m) w ≡ false
  unfolding marked
  taken_alone e w h ne =
      marks_gone t (mark_row m) (mark_column m) w k (λ u. rw e (taken_gone u (mark_row m) (mark_column m) (mark_value m) (mark_row m) (mark_column m) w
      (strikes_here (mark_row m) (mark_column m) (mark_value m) w h ne)))
