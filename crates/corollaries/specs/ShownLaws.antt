-- The grid that Solve shows: it comes before every other, and which marks leave it shown. Assumes nothing.
use Rattle.std.specs.Prelude.{ℕ, ◌<◌, ◌≡◌, ◌⊎◌, Bool, true, length}
use Rattle.std.proofs.Math.Path.{sym, ap, subst}
use Rattle.std.proofs.Common.{◌∙◌, inl, inr, ⊎_elim, arith}
use mathlib.Core.List.Memᴰ
use mathlib.Core.List.{List, [], ◌∷◌, Permᴰ, Memᴰ}
use Rattle.tally.specs.Tally.{keep, ordered}
use Rattle.tally.proofs.TallyLaws.{and_left}
use Rattle.tally.proofs.WayLaws.{all_each}
use Rattle.units.specs.declared.Unit.{Unit}
use Rattle.rules.specs.Grid.{Puzzle}
use Rattle.rules.specs.Mark.{keeps_mark}
use Rattle.rules.specs.Check.{refusal, solve_checks}
use Rattle.rules.specs.Number.{Solution, number}
use Rattle.rules.specs.Order.{sequence, precedes, found, first_or}
use Rattle.grid_order.proofs.FoundLaws.{solution_found, found_length, found_ordered, found_more, found_order}
use Rattle.engine.specs.Answer.{solve_cells}
use Rattle.corollaries.specs.Acceptance.{solve_accepted, order_passes, less_passes, order_shorter, less_shorter}

-- What is not refused shows the first of the grids.
cells_first : (u : Unit) (p : Puzzle) (ms cells : List ℕ) → refusal (solve_checks u p ms (length cells)) ≡ 0 → solve_cells u p ms cells ≡ first_or cells (found p ms)
cells_first u p ms cells e = rw e

-- of some grids in order, the first precedes each, and of those that pass a test which it passes it is the first too
module _ (p : Puzzle) (cells : List ℕ) where
  first_precedes : (gs : List (List ℕ)) → ordered (precedes p.size (sequence p.size)) gs ≡ true → (g : List ℕ) → Memᴰ g gs →
      (precedes p.size (sequence p.size) (first_or cells gs) g ≡ true) ⊎ (first_or cells gs ≡ g)
  unfolding ordered first_or
  first_precedes [] o g m = absurd (Memᴰ.not-nil m)
  first_precedes (h ∷ gs) o g m =
      ⊎_elim (λ e. inr (sym e)) (λ k. inl (all_each (precedes p.size (sequence p.size) h) k (and_left _ _ o))) (Memᴰ.cases_cons m)

  first_kept : (q : List ℕ → Bool) (gs : List (List ℕ)) → 0 < length gs → q (first_or cells gs) ≡ true → first_or cells (keep q gs) ≡ first_or cells gs
  unfolding first_or keep
  first_kept q [] h e = absurd (omega arith)
  first_kept q (g ∷ gs) h e = rw e

module _ (u : Unit) (p : Puzzle) (ms cells : List ℕ) where
  -- FIRST: every other solution comes behind it.
  pub shown_first : refusal (solve_checks u p ms (length cells)) ≡ 0 → (g : List ℕ) → Solution p ms g →
      (precedes p.size (sequence p.size) (solve_cells u p ms cells) g ≡ true) ⊎ (solve_cells u p ms cells ≡ g)
  shown_first e g s = rw (cells_first u p ms cells e) (first_precedes p cells (found p ms) (found_ordered p ms) g (solution_found p ms s))

  -- ORDER: the same marks in any order show the same grid.
  pub shown_order : (ns : List ℕ) → Permᴰ ms ns → refusal (solve_checks u p ms (length cells)) ≡ 0 → solve_cells u p ms cells ≡ solve_cells u p ns cells
  shown_order ns d e =
      cells_first u p ms cells e
      ∙ ap (first_or cells) (found_order p d)
      ∙ sym (cells_first u p ns cells (solve_accepted u p ms ns (order_shorter d) (order_passes p d) (length cells) e))

  -- ONE MARK MORE: a grid that keeps it is still the one that is shown.
  pub shown_more : (m : ℕ) → refusal (solve_checks u p (m ∷ ms) (length cells)) ≡ 0 → 0 < number p ms → keeps_mark p.size (solve_cells u p ms cells) m ≡ true →
      solve_cells u p (m ∷ ms) cells ≡ solve_cells u p ms cells
  shown_more m e h k =
      let f = cells_first u p ms cells (solve_accepted u p (m ∷ ms) ms (less_shorter [] m ms) (less_passes p [] m ms) (length cells) e) in
      cells_first u p (m ∷ ms) cells e
      ∙ ap (first_or cells) (found_more p ms m)
      ∙ first_kept p cells (λ g. keeps_mark p.size g m) (found p ms) (omega (arith, found_length p ms)) (subst (λ g. keeps_mark p.size g m ≡ true) f k)
      ∙ sym f
