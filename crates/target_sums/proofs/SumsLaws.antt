-- The checks of the target sums, one after the other, and what input that passes those in front of the lines is. Assumes nothing.
use Prim.Native.Nat.{ℕ, zero, suc, ◌*◌}
use mathlib.Core.Path.{◌≡◌, refl, sym, ◌∙◌}
use mathlib.Core.Bool.{true, false}
use mathlib.Core.List.{List, ◌++◌}
use lib.Dec.{eqb}
use lib.ListN.{length}
use borrow.Author.Tests.{eq-eqb, ne_eqb, eqb-true}
use Rattle.tally.specs.Tally.{join}
use Rattle.tally.proofs.TallyLaws.{and_left, and_right}
use Rattle.std.specs.Prelude.{⊤, Result, Ok, Err}
use Rattle.refusal.specs.declared.Refusal.{Refusal}
use Rattle.refusal.specs.declared.Refusal.TheVariants.{Size as SizeFault, SizeLimit, CellsLength, TargetLengths}
use Rattle.refusal.specs.Number.{refusal_number}
use Rattle.units.specs.declared.Unit.{Unit}
use Rattle.units.specs.Limits.{takes_size}
use Rattle.rules.specs.Grid.{line_sum}
use Rattle.rules.specs.Check.{Check, checked, refusal, check_line, sums_checks}
use Rattle.rules.specs.CheckParts.{size_fits, targets_fit}
use Rattle.rules.proofs.CheckLaws.{checked_skip, checked_stop, passed_number, number_positive, refusal_none}
use Rattle.rules.proofs.StridedLaws.{checks_each, rows_each, columns_each}
use Rattle.rules.specs.Strided.{each}
use Rattle.rules.specs.Sums.{summed_as, target_sums}
use Rattle.puzzle.proofs.PuzzleLaws.{size_checks, size_refused}
use Rattle.target_sums.specs.Answer.{SumsAnswered}
use Rattle.target_sums.specs.Front.{front_checks}

module _ (u : Unit) (n : ℕ) (g : List ℕ) (r c : ℕ) where
  -- ---- the checks in front of those of the lines

  pub front_size : (k : Refusal) → Err k ≡ checked (size_checks u n) → Err k ≡ checked (front_checks u n g r c)
  unfolding front_checks
  front_size = size_refused u n _

  pub front_7 : size_fits n ≡ true → takes_size u n ≡ true → (length g ≡ n * n → ⊥) → Err CellsLength ≡ checked (front_checks u n g r c)
  unfolding front_checks checked
  front_7 h s e = rw (h, s, ne_eqb (length g) (n * n) e)

  pub front_2 : size_fits n ≡ true → takes_size u n ≡ true → length g ≡ n * n → targets_fit n r c ≡ false → Err TargetLengths ≡ checked (front_checks u n g r c)
  unfolding front_checks checked
  front_2 h s e t = rw (h, s, eq-eqb (length g) (n * n) e, t)

  pub front_0 : size_fits n ≡ true → takes_size u n ≡ true → length g ≡ n * n → targets_fit n r c ≡ true → Ok tt ≡ checked (front_checks u n g r c)
  unfolding front_checks checked
  front_0 h s e t = rw (h, s, eq-eqb (length g) (n * n) e, t)

  -- what input that passes them is
  pub record Fits : Type 0 where
    pub cells_fit : length g ≡ n * n
    pub rows_long : r ≡ n
    pub columns_long : c ≡ n

  pub front_fits : Ok tt ≡ checked (front_checks u n g r c) → Fits
  unfolding front_checks
  front_fits e =
      let a = refusal_none SizeFault (size_fits n) _ (passed_number (front_checks u n g r c) (sym e)) in
      let b = refusal_none CellsLength (eqb (length g) (n * n)) _ (refusal_none SizeLimit (takes_size u n) _ a.1).1 in
      let d = refusal_none TargetLengths (targets_fit n r c) _ b.1 in
      record {
        cells_fit = eqb-true (length g) (n * n) b.0;
        rows_long = eqb-true r n (and_left (eqb r n) (eqb c n) d.0);
        columns_long = eqb-true c n (and_right (eqb r n) (eqb c n) d.0);
      }

  -- ---- all checks: those in front, then the rows, then the columns

  abbrev pub check_rows : List Check
  check_rows = join (each check_line n 1 g n n)

  abbrev pub check_columns : List Check
  check_columns = join (each check_line 1 n g n n)

  all_checks : sums_checks u n g r c ≡ front_checks u n g r c ++ (check_rows ++ check_columns)
  unfolding sums_checks front_checks
  all_checks = rw (checks_each n g)

  pub sums_front : (k : Refusal) → Err k ≡ checked (front_checks u n g r c) → Err k ≡ checked (sums_checks u n g r c)
  sums_front k e = rw all_checks (sym (checked_stop (front_checks u n g r c) (check_rows ++ check_columns) k (sym e)))

  module _ (f : Ok tt ≡ checked (front_checks u n g r c)) where
    past_front : checked (sums_checks u n g r c) ≡ checked (check_rows ++ check_columns)
    past_front = rw all_checks (checked_skip (front_checks u n g r c) (check_rows ++ check_columns) (sym f))

    pub sums_rows : (k : Refusal) → Err k ≡ checked check_rows → Err k ≡ checked (sums_checks u n g r c)
    sums_rows k e = sym (past_front ∙ checked_stop check_rows check_columns k (sym e))

    pub sums_columns : Ok tt ≡ checked check_rows → {m : Result ⊤ Refusal} → m ≡ checked check_columns → m ≡ checked (sums_checks u n g r c)
    sums_columns e d = d ∙ sym (past_front ∙ checked_skip check_rows check_columns (sym e))

-- ---- the answer

summed_refused : (k n : ℕ) (g rows columns : List ℕ) → (k ≡ 0 → ⊥) → summed_as k n g rows columns ≡ (k, rows, columns)
summed_refused zero n g rows columns z = absurd (z refl)
summed_refused (suc k) n g rows columns z = refl

pub refused : (u : Unit) (n : ℕ) (g rows columns : List ℕ) (k : Refusal) → Err k ≡ checked (sums_checks u n g (length rows) (length columns)) →
    SumsAnswered (target_sums u n g rows columns) (Err k) rows columns
unfolding target_sums refusal
refused u n g rows columns k e =
    rw (← e, summed_refused (refusal_number k) n g rows columns (number_positive k)) (record { answer_is = refl; rows_are = refl; columns_are = refl })

pub done : (u : Unit) (n : ℕ) (g rows columns rows' columns' : List ℕ) → Ok tt ≡ checked (sums_checks u n g (length rows) (length columns)) →
    rows' ≡ each line_sum n 1 g n n → columns' ≡ each line_sum 1 n g n n → SumsAnswered (target_sums u n g rows columns) (Ok tt) rows' columns'
unfolding target_sums refusal
done u n g rows columns rows' columns' d r c =
    rw (← d) (record { answer_is = refl; rows_are = r ∙ sym (rows_each line_sum n g); columns_are = c ∙ sym (columns_each line_sum n g) })
