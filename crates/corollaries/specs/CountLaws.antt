-- The answers of Count under other marks and other caps, by the laws of the number. Assumes nothing.
use Rattle.std.specs.Prelude.{ℕ, ◌≤◌, ◌<◌, min, ◌≡◌, Ok}
use Rattle.std.proofs.Common.{sym, ap, ◌∙◌, arith}
use mathlib.Core.List.{List, [], ◌∷◌, ◌++◌, Permᴰ, Memᴰ}
use Rattle.units.specs.declared.Unit.{Unit}
use Rattle.rules.specs.Grid.{Puzzle}
use Rattle.rules.specs.Check.{answered, refusal, count_checks}
use Rattle.rules.specs.Number.{capped}
use Rattle.rules.proofs.CheckLaws.{passed_checks}
use Rattle.number.specs.NumberLaws.{number_order, number_more, number_repeat}
use Rattle.number.specs.CapLaws.{capped_rising, capped_steady}
use Rattle.engine.specs.Answer.{count_answer}
use Rattle.corollaries.specs.Acceptance.{count_accepted, order_passes, less_passes, order_shorter, less_shorter}

-- What is not refused is counted.
pub answer_counted : (u : Unit) (p : Puzzle) (ms : List ℕ) (cap : ℕ) → refusal (count_checks u p ms) ≡ 0 → count_answer u p ms cap ≡ Ok (capped cap p ms)
answer_counted u p ms cap e = ap (λ r. answered r (capped cap p ms)) (passed_checks _ e)

-- Two answers of accepted input agree if the counts do.
both_counted : (u : Unit) (p : Puzzle) (ms ns : List ℕ) (c d : ℕ) → refusal (count_checks u p ms) ≡ 0 → refusal (count_checks u p ns) ≡ 0 → capped c p ms ≡ capped d p ns →
    count_answer u p ms c ≡ count_answer u p ns d
both_counted u p ms ns c d a b e = answer_counted u p ms c a ∙ ap Ok e ∙ sym (answer_counted u p ns d b)

-- ORDER: the same marks in any order give the same answer.
pub count_order : (u : Unit) (p : Puzzle) (ms ns : List ℕ) (cap : ℕ) → Permᴰ ms ns → refusal (count_checks u p ms) ≡ 0 → count_answer u p ms cap ≡ count_answer u p ns cap
unfolding capped
count_order u p ms ns cap d e = both_counted u p ms ns cap cap e (count_accepted u p ms ns (order_shorter d) (order_passes p d) e) (ap (min cap) (number_order p d))

-- REPEATS: a mark once more gives the same answer.
pub count_repeat : (u : Unit) (p : Puzzle) (m : ℕ) (ms : List ℕ) (cap : ℕ) → Memᴰ m ms → refusal (count_checks u p (m ∷ ms)) ≡ 0 → count_answer u p (m ∷ ms) cap ≡ count_answer u p ms cap
unfolding capped
count_repeat u p m ms cap k e =
    both_counted u p (m ∷ ms) ms cap cap e (count_accepted u p (m ∷ ms) ms (less_shorter [] m ms) (less_passes p [] m ms) e) (ap (min cap) (number_repeat p k))

-- ONE MARK MORE: it is accepted without the mark too, and the count is not smaller there.
pub count_more : (u : Unit) (p : Puzzle) (ms : List ℕ) (m : ℕ) (ns : List ℕ) (cap : ℕ) → refusal (count_checks u p (ms ++ m ∷ ns)) ≡ 0 →
    (c : ℕ) × (d : ℕ) × (count_answer u p (ms ++ m ∷ ns) cap ≡ Ok c) × (count_answer u p (ms ++ ns) cap ≡ Ok d) × (c ≤ d)
unfolding capped
count_more u p ms m ns cap e =
    let more = number_more p ms m ns in (
      capped cap p (ms ++ m ∷ ns),
      capped cap p (ms ++ ns),
      answer_counted u p (ms ++ m ∷ ns) cap e,
      answer_counted u p (ms ++ ns) cap (count_accepted u p (ms ++ m ∷ ns) (ms ++ ns) (less_shorter ms m ns) (less_passes p ms m ns) e),
      omega arith,
    )

-- A HIGHER CAP: the count is not smaller, and it is the same if it was below its cap.
pub count_higher : (u : Unit) (p : Puzzle) (ms : List ℕ) (cap higher : ℕ) → cap ≤ higher → refusal (count_checks u p ms) ≡ 0 →
    (c : ℕ) × (d : ℕ) × (count_answer u p ms cap ≡ Ok c) × (count_answer u p ms higher ≡ Ok d) × (c ≤ d) × (c < cap → d ≡ c)
count_higher u p ms cap higher h e = (
  capped cap p ms,
  capped higher p ms,
  answer_counted u p ms cap e,
  answer_counted u p ms higher e,
  capped_rising p ms cap higher h,
  capped_steady p ms cap higher h,
)
