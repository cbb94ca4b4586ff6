-- Laws of records of checked lines. Assumes nothing.
use Rattle.std.proofs.Common.{ℕ, ◌≡◌, sym, ap, ◌∙◌, Bool, false, not, List, [], ◌∷◌, length, get_or, Option}
use borrow.Author.Tests.{not-false}
use Rattle.rules.specs.CheckParts.{size_fits}
use Rattle.rules.specs.Strided.{strided}
use Rattle.rules.proofs.StridedLaws.{strided_whole}
use Rattle.sheet_marking.specs.declared.LineFault.{LineFault}
use Rattle.sheet_marking.specs.Fault.{line_fault}
use Rattle.record_fields.specs.Fields.{field, record_size}
use Rattle.record_fields.specs.Recorded.{Says}
use Rattle.record_fields.proofs.RecordedLaws.{says_also}
use Rattle.replay_records.specs.Agreement.{step_number, LineAgrees}

-- The check of a line was called on the record's size, target and cells.
pub line_called :
    (xs : List ℕ) (n : ℕ) (fits : Bool) (cells first : List ℕ) (target : ℕ) (fault : Option LineFault) (number : ℕ) (b : Bool) → n ≡ record_size xs
    → fits ≡ size_fits n → not fits ≡ false → cells ≡ field xs 2 → length cells ≡ n → first ≡ field xs 1 → target ≡ get_or first 0 0
    → fault ≡ line_fault n target (strided 0 1 cells n) → number ≡ step_number fault → Says b (field xs 3 ≡ number ∷ []) → Says b (LineAgrees xs)
line_called xs n fits cells first target fault number b is-n is-fits h is-cells long is-first is-target is-fault is_number s =
    let e : number ≡ step_number (line_fault (record_size xs) (get_or (field xs 1) 0 0) (field xs 2)) = cc (strided_whole cells n long) in
    says_also s
    (λ q. record {
      size_ok = rw is-n at (sym is-fits ∙ not-false fits h);
      cells_fit = sym (ap length is-cells) ∙ long ∙ is-n;
      step_is = q ∙ ap (λ k. k ∷ []) e;
    })
    (λ p. p.step_is ∙ ap (λ k. k ∷ []) (sym e))
