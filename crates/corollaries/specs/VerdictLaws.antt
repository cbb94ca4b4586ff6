-- The verdicts of Solve under other marks, by the laws of the number. Assumes nothing.
use Rattle.std.specs.Prelude.{ℕ, zero, suc, ◌≤◌, min, ◌≡◌, refl, ◌⊎◌, ⊤, Result, Ok, Err}
use Rattle.std.proofs.Common.{sym, ap, ◌∙◌, inl, inr, ⊎_elim, arith}
use mathlib.Core.List.{List, [], ◌∷◌, ◌++◌, Permᴰ, Memᴰ}
use Rattle.refusal.specs.declared.Refusal.{Refusal}
use Rattle.units.specs.declared.Unit.{Unit}
use Rattle.rules.specs.Grid.{Puzzle}
use Rattle.rules.specs.Check.{answered, refusal, solve_checks}
use Rattle.rules.specs.Number.{number, capped}
use Rattle.rules.proofs.CheckLaws.{passed_checks}
use Rattle.number.specs.NumberLaws.{number_order, number_more, number_repeat}
use Rattle.engine.specs.declared.Verdict.{Verdict}
use Rattle.engine.specs.declared.Verdict.TheVariants.{Unsolvable, Unique}
use Rattle.engine.specs.Answer.{count_answer, verdict_on, solve_answer}
use Rattle.engine.proofs.SolveLaws.{solve_counts, verdict_capped}
use Rattle.corollaries.specs.Acceptance.{solve_accepted, order_passes, less_passes, order_shorter, less_shorter}
use Rattle.corollaries.specs.CountLaws.{answer_counted}

-- What is not refused has its verdict.
pub answer_solved : (u : Unit) (p : Puzzle) (ms : List ℕ) (len : ℕ) → refusal (solve_checks u p ms len) ≡ 0 → solve_answer u p ms len ≡ Ok (verdict_on (number p ms))
answer_solved u p ms len e = ap (λ r. answered r (verdict_on (number p ms))) (passed_checks _ e)

both_solved : (u : Unit) (p : Puzzle) (ms ns : List ℕ) (len : ℕ) → refusal (solve_checks u p ms len) ≡ 0 → refusal (solve_checks u p ns len) ≡ 0 → number p ms ≡ number p ns →
    solve_answer u p ms len ≡ solve_answer u p ns len
both_solved u p ms ns len a b e = answer_solved u p ms len a ∙ ap (λ k. Ok (verdict_on k)) e ∙ sym (answer_solved u p ns len b)

-- ORDER: the same marks in any order give the same verdict.
pub verdict_order : (u : Unit) (p : Puzzle) (ms ns : List ℕ) (len : ℕ) → Permᴰ ms ns → refusal (solve_checks u p ms len) ≡ 0 → solve_answer u p ms len ≡ solve_answer u p ns len
verdict_order u p ms ns len d e = both_solved u p ms ns len e (solve_accepted u p ms ns (order_shorter d) (order_passes p d) len e) (number_order p d)

-- REPEATS: a mark once more gives the same verdict.
pub verdict_repeat : (u : Unit) (p : Puzzle) (m : ℕ) (ms : List ℕ) (len : ℕ) → Memᴰ m ms → refusal (solve_checks u p (m ∷ ms) len) ≡ 0 →
    solve_answer u p (m ∷ ms) len ≡ solve_answer u p ms len
verdict_repeat u p m ms len k e = both_solved u p (m ∷ ms) ms len e (solve_accepted u p (m ∷ ms) ms (less_shorter [] m ms) (less_passes p [] m ms) len e) (number_repeat p k)

-- The answer tells none and one.
none_answered : (k : ℕ) → ◌≡◌ {A = Result Verdict Refusal} (Ok (verdict_on k)) (Ok Unsolvable) → k ≡ 0
none_answered zero e = refl
none_answered (suc zero) e = cc
none_answered (suc (suc k)) e = cc

pub one_answered : (r : Result ⊤ Refusal) (grids : ℕ) → answered r (verdict_on grids) ≡ Ok Unique → (r ≡ Ok tt) × (grids ≡ 1)
one_answered (Ok tt) zero e = (refl, cc)
one_answered (Ok tt) (suc zero) e = (refl, refl)
one_answered (Ok tt) (suc (suc m)) e = (refl, cc)
one_answered (Err k) grids e = (cc, cc)

none_below : (k l : ℕ) → k ≤ l → l ≡ 0 → ◌≡◌ {A = Result Verdict Refusal} (Ok (verdict_on k)) (Ok Unsolvable)
none_below k l h e = let z : k ≡ 0 = omega arith in rw z

one_below : (k l : ℕ) → k ≤ l → l ≡ 1 → (◌≡◌ {A = Result Verdict Refusal} (Ok (verdict_on k)) (Ok Unsolvable)) ⊎ (◌≡◌ {A = Result Verdict Refusal} (Ok (verdict_on k)) (Ok Unique))
one_below zero l h e = inl refl
one_below (suc zero) l h e = inr refl
one_below (suc (suc k)) l h e = absurd (omega arith)

-- ONE MARK MORE: what was unsolvable stays so, and what was unique is unique or unsolvable.
module _ (u : Unit) (p : Puzzle) (ms : List ℕ) (m : ℕ) (ns : List ℕ) (len : ℕ) (e : refusal (solve_checks u p (ms ++ m ∷ ns) len) ≡ 0) where
  with_mark : solve_answer u p (ms ++ m ∷ ns) len ≡ Ok (verdict_on (number p (ms ++ m ∷ ns)))
  with_mark = answer_solved u p (ms ++ m ∷ ns) len e

  -- it is accepted without the mark too
  without_mark : solve_answer u p (ms ++ ns) len ≡ Ok (verdict_on (number p (ms ++ ns)))
  without_mark = answer_solved u p (ms ++ ns) len (solve_accepted u p (ms ++ m ∷ ns) (ms ++ ns) (less_shorter ms m ns) (less_passes p ms m ns) len e)

  pub verdict_more_none : solve_answer u p (ms ++ ns) len ≡ Ok Unsolvable → solve_answer u p (ms ++ m ∷ ns) len ≡ Ok Unsolvable
  verdict_more_none a =
      let v = none_answered (number p (ms ++ ns)) (sym without_mark ∙ a) in
      with_mark ∙ none_below (number p (ms ++ m ∷ ns)) (number p (ms ++ ns)) (number_more p ms m ns) v

  pub verdict_more_one : solve_answer u p (ms ++ ns) len ≡ Ok Unique →
      (solve_answer u p (ms ++ m ∷ ns) len ≡ Ok Unsolvable) ⊎ (solve_answer u p (ms ++ m ∷ ns) len ≡ Ok Unique)
  verdict_more_one a =
      let v = (one_answered (Ok tt) (number p (ms ++ ns)) (sym without_mark ∙ a)).1 in
      ⊎_elim (λ q. inl (with_mark ∙ q)) (λ q. inr (with_mark ∙ q))
      (one_below (number p (ms ++ m ∷ ns)) (number p (ms ++ ns)) (number_more p ms m ns) v)

-- A HIGHER CAP: the answer of Count to any cap above 1 tells that of Solve.
pub verdict_cap : (u : Unit) (p : Puzzle) (ms : List ℕ) (cap : ℕ) → 2 ≤ cap → (len c : ℕ) → refusal (solve_checks u p ms len) ≡ 0 → count_answer u p ms cap ≡ Ok c →
    solve_answer u p ms len ≡ Ok (verdict_on c)
unfolding capped
verdict_cap u p ms cap h len c e a =
    let k : ℕ = number p ms in
    let same : min 2 (min cap k) ≡ min 2 k = omega arith in
    let counts = answer_counted u p ms cap (solve_counts u p ms len e) in
    let is : min cap k ≡ c = cc in
    answer_solved u p ms len e ∙ ap Ok (sym (verdict_capped k) ∙ ap verdict_on (sym same) ∙ verdict_capped (min cap k) ∙ ap verdict_on is)
