-- The checks of marking, and the sheet, line by line. Assumes nothing.
use Prim.Native.Nat.{ℕ, ◌*◌}
use mathlib.Core.Path.{◌≡◌, sym, ap, ◌∙◌}
use mathlib.Core.Bool.{Bool, true, false, ◌&&◌}
use mathlib.Core.List.{List, [], ◌∷◌}
use lib.ListN.{length, get_or}
use borrow.Author.Tests.{eq-eqb, ne_eqb, eqb-true}
use Rattle.std.specs.Prelude.{Ok, Err}
use Rattle.tally.specs.Tally.{all, span}
use Rattle.refusal.specs.declared.Refusal.{Refusal}
use Rattle.refusal.specs.declared.Refusal.TheVariants.{CellsLength}
use Rattle.units.specs.declared.Unit.{Unit}
use Rattle.rules.specs.Grid.{keeps_line, keeps, Puzzle, target, puzzle}
use Rattle.rules.specs.Check.{checked, check_buffer, puzzle_checks, sheet_checks}
use Rattle.rules.specs.Strided.{strided}
use Rattle.rules.proofs.CheckLaws.{checked_skip, checked_stop, passed_number, refusal_none, refusal_none_right}
use Rattle.rules.proofs.StridedLaws.{all_each_line}
use Rattle.puzzle.proofs.PuzzleLaws.{puzzle_numbered}
use Rattle.grid_lines.specs.declared.Lines.{Lines}
use Rattle.sheet_marking.specs.Answer.{mark_sheet}

-- line i of those that start at 0, step, .. keeps its target
abbrev pub keeps_at : ℕ → ℕ → List ℕ → ℕ → List ℕ → ℕ → Bool
keeps_at step stride g n ts i = keeps_line n (get_or ts i 0) (strided (i * step) stride g n)

-- each of the lines does
abbrev pub lines_kept : Lines → List ℕ → Bool
lines_kept lines ts = all (keeps_at lines.step lines.stride lines.cells.now lines.count ts) (span 0 lines.count)

-- ---- the checks

module _ (u : Unit) (p : Puzzle) (g : List ℕ) where
  pub sheet_puzzle : (k : Refusal) → Err k ≡ checked (puzzle_checks u p) → Err k ≡ checked (sheet_checks u p g)
  unfolding sheet_checks
  sheet_puzzle k d = sym (checked_stop (puzzle_checks u p) (check_buffer p.size (length g) ∷ []) k (sym d))

  module _ (d : Ok tt ≡ checked (puzzle_checks u p)) where
    past : checked (sheet_checks u p g) ≡ checked (check_buffer p.size (length g) ∷ [])
    unfolding sheet_checks
    past = checked_skip (puzzle_checks u p) (check_buffer p.size (length g) ∷ []) (sym d)

    pub sheet_7 : (length g ≡ p.size * p.size → ⊥) → Err CellsLength ≡ checked (sheet_checks u p g)
    unfolding checked
    sheet_7 l = sym (past ∙ rw (ne_eqb (length g) (p.size * p.size) l))

    pub sheet_0 : length g ≡ p.size * p.size → Ok tt ≡ checked (sheet_checks u p g)
    unfolding checked
    sheet_0 l = sym (past ∙ rw (eq-eqb (length g) (p.size * p.size) l))

-- ---- the sheet

pub fit : (u : Unit) (p : Puzzle) (g : List ℕ) → Ok tt ≡ checked (sheet_checks u p g) → length g ≡ p.size * p.size
unfolding sheet_checks
fit u p g q =
    let e = passed_number _ (sym q) in
    let b = refusal_none CellsLength _ _ (refusal_none_right (puzzle_checks u p) (check_buffer p.size (length g) ∷ []) (puzzle_numbered u p) e) in
    eqb-true (length g) (p.size * p.size) b.0

module _ (n : ℕ) (rows columns g : List ℕ) (across down : Lines)
    (a : (across.cells.now ≡ g) × (across.step ≡ n) × (across.stride ≡ 1) × (across.count ≡ n))
    (d : (down.cells.now ≡ g) × (down.step ≡ 1) × (down.stride ≡ n) × (down.count ≡ n)) where
  split : keeps (puzzle n rows columns) g ≡ (lines_kept across rows && lines_kept down columns)
  unfolding keeps target
  split = rw (a.0, a.1, a.2, a.3, d.0, d.1, d.2, d.3) (all_each_line (λ ℓ l. keeps_line n (target (puzzle n rows columns) ℓ) l) n g)

  pub row_fails : false ≡ lines_kept across rows → false ≡ keeps (puzzle n rows columns) g
  row_fails r = sym (split ∙ ap (λ b. b && lines_kept down columns) (sym r))

  pub by_columns : true ≡ lines_kept across rows → (b : Bool) → b ≡ lines_kept down columns → b ≡ keeps (puzzle n rows columns) g
  by_columns r b e = e ∙ sym (split ∙ ap (λ c. c && lines_kept down columns) (sym r))

-- ---- the answer

pub marked_refused : (u : Unit) (p : Puzzle) (g : List ℕ) (k : Refusal) → Err k ≡ checked (sheet_checks u p g) → Err k ≡ mark_sheet u p g
unfolding mark_sheet
marked_refused u p g k e = rw (← e)

pub marked : (u : Unit) (p : Puzzle) (g : List ℕ) → Ok tt ≡ checked (sheet_checks u p g) → (b : Bool) → b ≡ keeps p g → Ok b ≡ mark_sheet u p g
unfolding mark_sheet
marked u p g e b k = rw (← e, k)
