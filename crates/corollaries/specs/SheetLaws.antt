-- A sheet that is marked right, among the grids that Count counts and beside the one that Solve writes. Assumes nothing.
use Rattle.std.specs.Prelude.{ℕ, zero, suc, ◌*◌, ◌<◌, min, ◌≡◌, refl, Bool, true, false, ◌⊎◌, length, ⊤, Option, None, Some, Result, Ok, Err}
use Rattle.std.proofs.Math.Path.{sym, subst}
use Rattle.std.proofs.Common.{ap, ◌∙◌, inl, inr, arith}
use mathlib.Core.List.{List, [], ◌∷◌}
use borrow.Author.Tests.{eqb-true, eq-eqb, le-leb}
use Rattle.tally.specs.Tally.{all, join}
use Rattle.tally.proofs.TallyLaws.{and_left, and_both}
use Rattle.tally.proofs.WayLaws.{way_length}
use Rattle.refusal.specs.declared.Refusal.{Refusal}
use Rattle.refusal.specs.declared.Refusal.TheVariants.{CellsLength, ListLimit}
use Rattle.units.specs.declared.Unit.{Unit}
use Rattle.units.specs.Limits.{within, takes_list}
use Rattle.rules.specs.Grid.{Puzzle, keeps}
use Rattle.rules.specs.Check.{checked, answered, refusal, check_buffer, puzzle_checks, count_checks, solve_checks, sheet_checks}
use Rattle.rules.specs.CheckParts.{list_checks}
use Rattle.rules.specs.Number.{number, capped, solves, Solution}
use Rattle.rules.specs.Size.{Size}
use Rattle.rules.proofs.CheckLaws.{passed_number, passed_checks, refusal_skip, refusal_pass, refusal_none, refusal_none_left, refusal_none_right}
use Rattle.rules.proofs.GridLaws.{solution_way, way_solution}
use Rattle.number.specs.VerdictLaws.{zero_none, one_only}
use Rattle.line_laws.proofs.Filled.{sheet_grid}
use Rattle.puzzle.proofs.PuzzleLaws.{puzzle_numbered}
use Rattle.engine.specs.declared.Verdict.TheVariants.{Unique, Multiple}
use Rattle.engine.specs.Answer.{count_answer, verdict_on, solve_answer, solve_cells}
use Rattle.grid_order.proofs.FoundLaws.{first_solution}
use Rattle.engine.proofs.CountLaws.{count_asked}
use Rattle.engine.proofs.SolveLaws.{solve_counts}
use Rattle.corollaries.specs.CountLaws.{answer_counted}
use Rattle.corollaries.specs.VerdictLaws.{one_answered}
use Rattle.sheet_marking.specs.Answer.{mark_sheet}

-- ---- the checks: marking asks what Count asks without marks, and for n * n cells

-- every unit takes the empty list
none_taken : (limit : Option ℕ) → within limit 0 ≡ true
none_taken None = refl
none_taken (Some most) = le-leb 0 most (omega arith)

module _ (u : Unit) (p : Puzzle) (cells : List ℕ) where
  sheet_count : refusal (sheet_checks u p cells) ≡ 0 → refusal (count_checks u p []) ≡ 0
  unfolding sheet_checks count_checks refusal checked join
  sheet_count e =
      refusal_skip (puzzle_checks u p) (list_checks u p.size []) (puzzle_numbered u p)
      (refusal_none_left (puzzle_checks u p) (check_buffer p.size (length cells) ∷ []) e)
      ∙ refusal_pass ListLimit (takes_list u 0) [] (none_taken u.longest)

  sheet_long : refusal (sheet_checks u p cells) ≡ 0 → length cells ≡ p.size * p.size
  unfolding sheet_checks
  sheet_long e = eqb-true _ _ (refusal_none CellsLength _ _ (refusal_none_right (puzzle_checks u p) (check_buffer p.size (length cells) ∷ []) (puzzle_numbered u p) e)).0

  count_sheet : refusal (count_checks u p []) ≡ 0 → length cells ≡ p.size * p.size → refusal (sheet_checks u p cells) ≡ 0
  unfolding sheet_checks count_checks refusal checked
  count_sheet e l =
      refusal_skip (puzzle_checks u p) (check_buffer p.size (length cells) ∷ []) (puzzle_numbered u p) (refusal_none_left (puzzle_checks u p) (list_checks u p.size []) e)
      ∙ rw (eq-eqb (length cells) (p.size * p.size) l)

count_size : (u : Unit) (p : Puzzle) → refusal (count_checks u p []) ≡ 0 → Size p.size
count_size u p e = (count_asked u p [] e).puzzle.size

-- The answer is right where nothing is refused and the test passes.
right_as : (r : Result ⊤ Refusal) (b : Bool) → answered r b ≡ Ok true → (r ≡ Ok tt) × (b ≡ true)
right_as (Ok tt) true e = (refl, refl)
right_as (Ok tt) false e = (refl, cc)
right_as (Err k) b e = (cc, cc)

-- ---- RIGHT: exactly the grids that are counted without marks

module _ (u : Unit) (p : Puzzle) (cells : List ℕ) where
  pub right_counted : mark_sheet u p cells ≡ Ok true → (refusal (count_checks u p []) ≡ 0) × Solution p [] cells
  unfolding mark_sheet solves all
  right_counted e =
      let r = right_as _ _ e in
      let q = passed_number _ r.0 in
      let c = sheet_count u p cells q in
      (c, way_solution (sheet_grid p cells (count_size u p c) (sheet_long u p cells q) r.1).filled (and_both r.1 refl))

  pub counted_right : refusal (count_checks u p []) ≡ 0 → Solution p [] cells → mark_sheet u p cells ≡ Ok true
  unfolding mark_sheet solves
  counted_right c s = rw (passed_checks _ (count_sheet u p cells c (way_length (solution_way s))), and_left (keeps p cells) _ s.right)

-- NONE: if the count is 0 under a cap above 0, no sheet is right.
pub none_right : (u : Unit) (p : Puzzle) (cap : ℕ) → 0 < cap → count_answer u p [] cap ≡ Ok 0 → (cells : List ℕ) → mark_sheet u p cells ≡ Ok true → ⊥
unfolding capped
none_right u p cap h a cells e =
    let r = right_counted u p cells e in
    let z = answer_counted u p [] cap r.0 in
    let is : min cap (number p []) ≡ 0 = cc in
    zero_none p [] (count_size u p r.0).high (omega arith) cells r.1

-- ---- the grid that Solve writes without marks

multiple_some : (r : Result ⊤ Refusal) (grids : ℕ) → answered r (verdict_on grids) ≡ Ok Multiple → (r ≡ Ok tt) × (0 < grids)
multiple_some (Ok tt) zero e = (refl, cc)
multiple_some (Ok tt) (suc m) e = (refl, omega arith)
multiple_some (Err k) m e = (cc, cc)

shown : (r : Result ⊤ Refusal) (grids : ℕ) → (answered r (verdict_on grids) ≡ Ok Unique) ⊎ (answered r (verdict_on grids) ≡ Ok Multiple) → (r ≡ Ok tt) × (0 < grids)
shown r grids (inl e) = let o = one_answered r grids e in (o.0, omega (arith, o.1))
shown r grids (inr e) = multiple_some r grids e

module _ (u : Unit) (p : Puzzle) (cells key : List ℕ) (w : key ≡ solve_cells u p [] cells) where
  -- WRITTEN: it is marked right.
  pub key_right : (solve_answer u p [] (length cells) ≡ Ok Unique) ⊎ (solve_answer u p [] (length cells) ≡ Ok Multiple) → mark_sheet u p key ≡ Ok true
  key_right e =
      let s = shown (checked (solve_checks u p [] (length cells))) (number p []) e in
      let q = passed_number _ s.0 in
      counted_right u p key (solve_counts u p [] (length cells) q) (subst (Solution p []) (sym (w ∙ rw q)) (first_solution p [] s.1 cells))

  -- THE KEY: if the verdict is unique, a sheet is right exactly when it equals that grid.
  pub key_only : solve_answer u p [] (length cells) ≡ Ok Unique → (sheet : List ℕ) → (mark_sheet u p sheet ≡ Ok true → sheet ≡ key) × (sheet ≡ key → mark_sheet u p sheet ≡ Ok true)
  key_only e sheet =
      let a = right_counted u p key (key_right (inl e)) in (
        λ r. one_only p [] (count_size u p a.0).high (one_answered (checked (solve_checks u p [] (length cells))) (number p []) e).1 key sheet a.1 (right_counted u p sheet r).1,
        λ q. ap (mark_sheet u p) q ∙ key_right (inl e),
      )
