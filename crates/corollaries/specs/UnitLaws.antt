-- The same input in two units that both take it. What a unit refuses by its limits stands with the checks: crates/rules/proofs/UnitLaws.antt. Assumes
-- nothing.
use Rattle.std.specs.Prelude.{⊤, ℕ, ◌<◌, ◌≡◌, ◌⊎◌, true, cond, eqb, List, length, Result, Ok, Err}
use Rattle.std.proofs.Math.Path.{refl, sym, ap}
use Rattle.std.proofs.Common.{◌∙◌, inl, inr, arith}
use Rattle.refusal.specs.declared.Refusal.{Refusal}
use Rattle.units.specs.declared.Unit.{Unit}
use Rattle.units.specs.Limits.{takes_size, takes_list}
use Rattle.rules.specs.Grid.{Puzzle, keeps}
use Rattle.rules.specs.Check.{checked, answered, refusal, solve_checks}
use Rattle.rules.specs.Number.{number, capped}
use Rattle.rules.specs.Order.{found, first_or}
use Rattle.rules.specs.Sums.{summed_as, target_sums}
use Rattle.rules.proofs.UnitLaws.{alike_sums, alike_sheet, alike_count, alike_solve}
use Rattle.sheet_marking.specs.Answer.{mark_sheet}
use Rattle.engine.specs.Answer.{count_answer, verdict_on, solve_answer, solve_cells}
use Rattle.candidates.specs.declared.Outcome.{Outcome}
use Rattle.candidates.specs.declared.Outcome.TheVariants.{Contradicted, Written}
use Rattle.candidates.specs.Remaining.{WrittenTable, TableGiven}
use Rattle.corollaries.specs.TableLaws.{one_written}

-- Target sums: the same number, and the same bytes in both target slices.
pub same_sums : (u v : Unit) (n : ℕ) → takes_size u n ≡ true → takes_size v n ≡ true → (cells rows columns : List ℕ) →
    target_sums u n cells rows columns ≡ target_sums v n cells rows columns
unfolding target_sums
same_sums u v n a b cells rows columns =
    ap (λ qs. summed_as (refusal qs) n cells rows columns) (alike_sums u v n (a ∙ sym b) cells (length rows) (length columns))

module _ (u v : Unit) (p : Puzzle) (a : takes_size u p.size ≡ true) (b : takes_size v p.size ≡ true) where
  -- Marking: the same answer.
  pub same_sheet : (cells : List ℕ) → mark_sheet u p cells ≡ mark_sheet v p cells
  unfolding mark_sheet
  same_sheet cells = ap (λ qs. answered (checked qs) (keeps p cells)) (alike_sheet u v p (a ∙ sym b) cells)

  module _ (ms : List ℕ) (c : takes_list u (length ms) ≡ true) (d : takes_list v (length ms) ≡ true) where
    -- Count: the same answer, under every cap.
    pub same_count : (cap : ℕ) → count_answer u p ms cap ≡ count_answer v p ms cap
    same_count cap = ap (λ qs. answered (checked qs) (capped cap p ms)) (alike_count u v p (a ∙ sym b) ms (c ∙ sym d))

    -- the refusal of Solve and of Candidates
    refused_alike : (len : ℕ) → refusal (solve_checks u p ms len) ≡ refusal (solve_checks v p ms len)
    refused_alike len = ap refusal (alike_solve u v p (a ∙ sym b) ms (c ∙ sym d) len)

    -- Solve: the same answer, and the same cells.
    pub same_solve : (len : ℕ) → solve_answer u p ms len ≡ solve_answer v p ms len
    same_solve len = ap (λ qs. answered (checked qs) (verdict_on (number p ms))) (alike_solve u v p (a ∙ sym b) ms (c ∙ sym d) len)

    pub same_cells : (cells : List ℕ) → solve_cells u p ms cells ≡ solve_cells v p ms cells
    same_cells cells = ap (λ k. cond (eqb k 0) (first_or cells (found p ms)) cells) (refused_alike (length cells))

    -- Candidates: what one unit may answer and leave in the table, the other may.
    pub same_table : (answer : Result Outcome Refusal) (table table' : List ℕ) → TableGiven u p ms answer table table' → TableGiven v p ms answer table table'
    same_table answer table table' w =
        let e = ap checked (alike_solve u v p (a ∙ sym b) ms (c ∙ sym d) (length table)) in
        record {
          refused = λ k z. w.refused k (e ∙ z);
          answered = λ z. w.answered (e ∙ z);
        }

    -- Where a grid is left, the answer is the same, and so is the table.
    pub same_masks : (x y : Result Outcome Refusal) (table left right : List ℕ) → 0 < number p ms → TableGiven u p ms x table left →
        TableGiven v p ms y table right → (x ≡ y) × (left ≡ right)
    same_masks x y table left right h w z = go (checked (solve_checks v p ms (length table))) refl
      where
        e : checked (solve_checks u p ms (length table)) ≡ checked (solve_checks v p ms (length table))
        e = ap checked (alike_solve u v p (a ∙ sym b) ms (c ∙ sym d) (length table))

        given : ((x ≡ Ok Written) × WrittenTable p ms left) ⊎ ((x ≡ Ok Contradicted) × (number p ms ≡ 0) × (left ≡ table)) →
            ((y ≡ Ok Written) × WrittenTable p ms right) ⊎ ((y ≡ Ok Contradicted) × (number p ms ≡ 0) × (right ≡ table)) → (x ≡ y) × (left ≡ right)
        given (inl s) (inl t) = (s.0 ∙ sym t.0, one_written p ms left right h s.1 t.1)
        given (inl s) (inr t) = absurd (omega (arith, t.1))
        given (inr s) t = absurd (omega (arith, s.1))

        go : (k : Result ⊤ Refusal) → checked (solve_checks v p ms (length table)) ≡ k → (x ≡ y) × (left ≡ right)
        go (Err k) q = let i = w.refused k (e ∙ q) in let j = z.refused k q in (i.0 ∙ sym j.0, i.1 ∙ sym j.1)
        go (Ok tt) q = given (w.answered (e ∙ q)) (z.answered q)
