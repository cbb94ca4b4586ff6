-- A text that answers a line, a line of which only the first bytes are kept, and a stream that goes on. Assumes nothing.
use Rattle.std.specs.Fmt.{decimal}
use Rattle.std.specs.Fmt.{digits as decimal_digits}
use Rattle.std.proofs.Common.{ℕ, zero, suc, ◌≤◌, ◌<◌, ◌≡◌, refl, sym, ap, subst, ◌∙◌, true, List, [], ◌∷◌, ◌++◌, append_assoc, append-nil, length, take, arith}
use native.Mathlib.Decide.{dec_lt}
use lib.Dec.{leb}
use lib.ListN.{length-take}
use lib.Seq.{take_all}
use borrow.Author.Tests.{lt-leb, leb-true}
use Rattle.tally.specs.Tally.{span, all}
use Rattle.tally.proofs.TallyLaws.{span_mem}
use Rattle.tally.proofs.WayLaws.{all_each}
use Rattle.refusal.specs.declared.Refusal.TheVariants.{Size, TextLine}
use Rattle.rules.specs.Check.{checked, refusal}
use Rattle.rules.specs.Number.{Verdict, unsolvable, unique, multiple, number, verdict_of}
use Rattle.rules.proofs.CheckLaws.{refusal_none, refusal_small}
use Rattle.rules.proofs.SizeLaws.{size_in}
use Rattle.text_rules.specs.Fields.{well_formed, puzzle_from, line_puzzle, number_checks, line_checks}
use Rattle.text_rules.specs.Text.{refused_word, answer_text}
use Rattle.rules.specs.Order.{found, first_or}
use Rattle.text_rules.specs.Answered.{line_answer, Answered}
use Rattle.text_rules.specs.Stream.{line_end, Written, nothing, byte, ended}
use Rattle.text_answer.proofs.RowLaws.{grid_short}

-- ---- a line of which 81 bytes are kept

refused_11 : (line : List ℕ) → 80 < length line → refusal (line_checks line) ≡ 11
unfolding refusal checked line_checks well_formed
refused_11 line h = rw (lt-leb (length line) 80 h)

too_long : (line : List ℕ) → 80 < length line → line_answer line ≡ refused_word ++ decimal 11
unfolding line_answer answer_text
too_long line h =
    ap (λ k. answer_text k (verdict_of (number (line_puzzle line) [])) (line_puzzle line).size (first_or [] (found (line_puzzle line) []))) (refused_11 line h)

pub answered_kept : (line text : List ℕ) → Answered (take 81 line) text → Answered line text
answered_kept line text a = go (dec_lt (length line) 81)
  where
    go : Dec (length line < 81) → Answered line text
    go (yes h) = subst (λ l. Answered l text) (take_all 81 line (omega arith)) a
    go (no h) =
        a ∙ too_long (take 81 line) (rw (length-take 81 line) (omega arith)) ∙ sym (too_long line (omega arith))

-- ---- how long a text is

decimals_short : all (λ k. leb (length (decimal k)) 2) (span 0 100) ≡ true
unfolding decimal_digits all span
decimals_short = refl

decimal_short : (k : ℕ) → k < 100 → length (decimal k) ≤ 2
decimal_short k h = leb-true _ _ (all_each (λ k. leb (length (decimal k)) 2) (span_mem 0 100 k (omega arith) (omega arith)) decimals_short)

text_short : (k : ℕ) (v : Verdict) (n : ℕ) (g : List ℕ) → k < 100 → (k ≡ 0 → n ≤ 9) → length (answer_text k v n g) ≤ 100
unfolding answer_text
text_short (suc k) v n g s h = omega (arith, decimal_short (suc k) s)
text_short zero unsolvable n g s h = omega arith
text_short zero unique n g s h = omega (arith, grid_short n g (h refl))
text_short zero multiple n g s h = omega (arith, grid_short n g (h refl))

size_small : (line : List ℕ) → refusal (line_checks line) ≡ 0 → (line_puzzle line).size ≤ 9
unfolding line_checks number_checks puzzle_from
size_small line e = (size_in _ (refusal_none Size _ _ (refusal_none TextLine _ _ e).1).0).high

pub answered_short : (line text : List ℕ) → Answered line text → length text ≤ 100
unfolding line_answer
answered_short line text a =
    let short = text_short _ (verdict_of (number (line_puzzle line) [])) (line_puzzle line).size (first_or [] (found (line_puzzle line) []))
    (refusal_small (line_checks line)) (size_small line) in
    omega (arith, ap length a, short)

-- ---- one stream behind another

pub written_then : {a i b o j c q : List ℕ} → Written a i b o → Written b j c q → Written a (i ++ j) c (o ++ q)
written_then {a} {i} {b} {o} v nothing = rw (append-nil i, append-nil o) v
written_then {a} {i} {b} {o} v (byte {i = j} x h w) = rw (← append_assoc i j (x ∷ [])) (byte x h (written_then v w))
written_then {a} {i} {b} {o} v (ended {i = j} {o = q} t h w) =
    rw (← append_assoc i j (line_end ∷ []), ← append_assoc o q (t ++ line_end ∷ [])) (ended t h (written_then v w))
