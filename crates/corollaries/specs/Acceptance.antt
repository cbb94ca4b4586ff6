-- Marks are accepted in any order, and with one of them left out: each is checked by itself, and the list is not longer. Assumes nothing.
use Rattle.std.specs.Prelude.{ℕ, ◌≤◌, ◌≡◌, refl, Bool, true, eqb, length}
use Rattle.std.proofs.Common.{sym, ◌∙◌, arith, eqb-true, eq-eqb}
use mathlib.Core.List.{List, [], ◌∷◌, ◌++◌, Permᴰ}
use Rattle.tally.specs.Tally.{all, join}
use Rattle.tally.proofs.TallyLaws.{and_left, and_right, and_both, all_less, all_perm}
use Rattle.refusal.specs.declared.Refusal.TheVariants.{ListLimit}
use Rattle.units.specs.declared.Unit.{Unit}
use Rattle.units.specs.Limits.{takes_list}
use Rattle.units.proofs.LimitLaws.{within_shorter}
use Rattle.rules.specs.Grid.{Puzzle}
use Rattle.rules.specs.Check.{checked, refusal, check_mark, puzzle_checks, count_checks, check_buffer, solve_checks}
use Rattle.rules.specs.CheckParts.{mark_checks, list_checks}
use Rattle.rules.proofs.CheckLaws.{refusal_skip, refusal_pass, refusal_none, refusal_none_left, refusal_none_right}
use Rattle.puzzle.proofs.PuzzleLaws.{puzzle_numbered}
use Rattle.mark_list.proofs.MarkLaws.{mark_numbered}
use Rattle.engine.proofs.SolveLaws.{count_numbered}

-- A mark passes its own checks.
unfoldable pub passes : ℕ → ℕ → Bool
passes n m = eqb (refusal (check_mark n m)) 0

marks_pass : (n : ℕ) (ms : List ℕ) → refusal (mark_checks n ms) ≡ 0 → all (passes n) ms ≡ true
unfolding all join passes
marks_pass n [] e = refl
marks_pass n (m ∷ ms) e =
    and_both (eq-eqb _ 0 (refusal_none_left (check_mark n m) (mark_checks n ms) e))
    (marks_pass n ms (refusal_none_right (check_mark n m) (mark_checks n ms) (mark_numbered n m) e))

pass_marks : (n : ℕ) (ms : List ℕ) → all (passes n) ms ≡ true → refusal (mark_checks n ms) ≡ 0
unfolding all join passes refusal checked
pass_marks n [] t = refl
pass_marks n (m ∷ ms) t =
    refusal_skip (check_mark n m) (mark_checks n ms) (mark_numbered n m) (eqb-true _ 0 (and_left _ _ t)) ∙ pass_marks n ms (and_right (passes n m) _ t)

-- if the marks of one list pass where those of another do, and there are not more of them, the list is accepted where the other is
module _ (u : Unit) (p : Puzzle) (ms ns : List ℕ) (shorter : length ns ≤ length ms) (less : all (passes p.size) ms ≡ true → all (passes p.size) ns ≡ true) where
  pub count_accepted : refusal (count_checks u p ms) ≡ 0 → refusal (count_checks u p ns) ≡ 0
  unfolding count_checks
  count_accepted e =
      let n = p.size in
      let l = refusal_none ListLimit (takes_list u (length ms)) (mark_checks n ms) (refusal_none_right (puzzle_checks u p) (list_checks u n ms) (puzzle_numbered u p) e) in
      refusal_skip (puzzle_checks u p) (list_checks u n ns) (puzzle_numbered u p) (refusal_none_left (puzzle_checks u p) (list_checks u n ms) e)
      ∙ refusal_pass ListLimit (takes_list u (length ns)) (mark_checks n ns) (within_shorter u.longest (length ns) (length ms) shorter l.0)
      ∙ pass_marks n ns (less (marks_pass n ms l.1))

  pub solve_accepted : (len : ℕ) → refusal (solve_checks u p ms len) ≡ 0 → refusal (solve_checks u p ns len) ≡ 0
  unfolding solve_checks
  solve_accepted len e =
      refusal_skip (count_checks u p ns) (check_buffer p.size len ∷ []) (count_numbered u p ns)
      (count_accepted (refusal_none_left (count_checks u p ms) (check_buffer p.size len ∷ []) e))
      ∙ refusal_none_right (count_checks u p ms) (check_buffer p.size len ∷ []) (count_numbered u p ms) e

-- ORDER
pub order_passes : (p : Puzzle) {ms ns : List ℕ} → Permᴰ ms ns → all (passes p.size) ms ≡ true → all (passes p.size) ns ≡ true
order_passes p d t = sym (all_perm (passes p.size) d) ∙ t

-- ONE MARK LESS
pub less_passes : (p : Puzzle) (ms : List ℕ) (m : ℕ) (ns : List ℕ) → all (passes p.size) (ms ++ m ∷ ns) ≡ true → all (passes p.size) (ms ++ ns) ≡ true
less_passes p ms m ns t = all_less (passes p.size) ms m ns t

-- ---- the lengths of such lists

perm_length : {ms ns : List ℕ} → Permᴰ ms ns → length ms ≡ length ns
perm_length Permᴰ.nil = refl
perm_length (Permᴰ.cons e d) = let l = perm_length d in omega arith
perm_length (Permᴰ.swap e₁ e₂) = refl
perm_length (Permᴰ.trans d₁ d₂) = perm_length d₁ ∙ perm_length d₂

pub order_shorter : {ms ns : List ℕ} → Permᴰ ms ns → length ns ≤ length ms
order_shorter d = let l = perm_length d in omega arith

pub less_shorter : (ms : List ℕ) (m : ℕ) (ns : List ℕ) → length (ms ++ ns) ≤ length (ms ++ m ∷ ns)
less_shorter [] m ns = omega arith
less_shorter (x ∷ ms) m ns = let l = less_shorter ms m ns in omega arith
