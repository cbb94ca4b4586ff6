-- The checks of a line, one after the other, and the text of each. Assumes nothing.
use Rattle.std.specs.Fmt.{decimal}
use Rattle.std.specs.Fmt.{digits as decimal_digits}
use Prim.Native.Nat.{ℕ, ◌+◌, ◌-◌, ◌*◌, ◌≤◌, ◌<◌}
use mathlib.Core.Path.{◌≡◌, refl, sym, ap, subst, ◌∙◌}
use mathlib.Core.Bool.{true, false, cond}
use lib.Dec.{eqb}
use mathlib.Core.List.{List, [], ◌∷◌, ◌++◌, map}
use native.Mathlib.Omega.{arith}
use lib.ListN.{length, get_or, take, drop, length-drop}
use lib.Seq.{take_all}
use borrow.Author.Tests.{eqb-true, eq-eqb, ne_eqb}
use Rattle.units.specs.Limits.{hall}
use Rattle.rules.specs.Check.{checked, refusal, puzzle_checks}
use Rattle.rules.proofs.CheckLaws.{number_positive, passed_number, checked_stop, refusal_none}
use Rattle.refusal.specs.declared.Refusal.{Refusal}
use Rattle.refusal.specs.declared.Refusal.TheVariants.{Size, TargetLengths, TextLine}
use Rattle.refusal.specs.Number.{refusal_number, number_of}
use Rattle.rules.specs.CheckParts.{size_fits}
use Rattle.rules.proofs.UnitLaws.{plain_checks, hall_puzzle}
use Rattle.rules.specs.Grid.{puzzle}
use Rattle.text_rules.specs.Fields.{fields, in_first, value, well_formed, puzzle_from, number_checks, numbers, line_checks}
use Rattle.text_rules.specs.Text.{refused_word}
use Rattle.text_rules.specs.Answered.{line_answer}
use Rattle.std.specs.Prelude.{Ok, Err}
use Rattle.text_line.specs.Line.{LineText, LineGiven, TargetsAsk, PuzzleText}
use Rattle.text_line.proofs.PuzzleTextLaws.{refused_same, front_long}

-- ---- the numbers

-- where there are twice as many targets, the lengths of the rows and the columns fit
checks_same : (ns : List ℕ) → length (drop 1 ns) ≡ 2 * get_or ns 0 0 → refusal (number_checks ns) ≡ refusal (puzzle_checks hall (puzzle_from ns))
unfolding refusal checked number_checks puzzle_from
checks_same ns h =
    let n : ℕ = get_or ns 0 0 in
    let r = sym (front_long n (drop 1 ns) (omega arith)) in
    let c : length (drop n (drop 1 ns)) ≡ n = length-drop n (drop 1 ns) ∙ omega arith in
    let plain : refusal (number_checks ns) ≡ refusal (plain_checks (puzzle_from ns)) =
    rw (eq-eqb _ (2 * get_or ns 0 0) h, eq-eqb (length (take (get_or ns 0 0) (drop 1 ns))) _ r, eq-eqb (length (drop (get_or ns 0 0) (drop 1 ns))) _ c) in
    plain ∙ sym (hall_puzzle (puzzle_from ns))

module _ (ns : List ℕ) {n : ℕ} (e : n ≡ get_or ns 0 0) where
  pub form_1 : size_fits n ≡ false → Err Size ≡ checked (take 2 (number_checks ns))
  unfolding checked number_checks
  form_1 s = rw (← e, s)

  module _ (some : 0 < length ns) (s : size_fits n ≡ true) where
    pub form_2 : (length ns ≡ 2 * n + 1 → ⊥) → Err TargetLengths ≡ checked (take 2 (number_checks ns))
    unfolding checked number_checks
    form_2 h = rw (← e, s, ne_eqb (length (drop 1 ns)) (2 * n) (λ q. h (omega (arith, length-drop 1 ns))))

    pub form_0 : length ns ≡ 2 * n + 1 → Ok tt ≡ checked (take 2 (number_checks ns))
    unfolding checked number_checks
    form_0 h = rw (← e, s, eq-eqb (length (drop 1 ns)) (2 * n) (omega (arith, length-drop 1 ns)))

module _ (ns : List ℕ) where
  pub form_refused : (k : Refusal) → Err k ≡ checked (take 2 (number_checks ns)) → checked (number_checks ns) ≡ Err k
  unfolding number_checks
  form_refused k e = checked_stop (take 2 (number_checks ns)) (drop 2 (number_checks ns)) k (sym e)

  module _ (p : Ok tt ≡ checked (take 2 (number_checks ns))) where
    form_long : length (drop 1 ns) ≡ 2 * get_or ns 0 0
    unfolding number_checks
    form_long =
        let r = refusal_none Size (size_fits (get_or ns 0 0)) _ (passed_number (take 2 (number_checks ns)) (sym p)) in
        eqb-true _ _ (refusal_none TargetLengths (eqb (length (drop 1 ns)) (2 * get_or ns 0 0)) [] r.1).0

    targets_same : take (length ns - 1) (drop 1 ns) ≡ drop 1 ns
    targets_same = take_all (length ns - 1) (drop 1 ns) (omega (arith, length-drop 1 ns))

    module _ {n : ℕ} (e : n ≡ get_or ns 0 0) where
      pub form_ask : {room : ℕ} → 99 ≤ room → TargetsAsk n (take (length ns - 1) (drop 1 ns)) room
      form_ask h = record { long = ap length targets_same ∙ omega (arith, form_long, e); fits = h }

      puzzle_same : puzzle n (take n (take (length ns - 1) (drop 1 ns))) (drop n (take (length ns - 1) (drop 1 ns))) ≡ puzzle_from ns
      unfolding puzzle_from
      puzzle_same =
          ap (λ t. puzzle n (take n t) (drop n t)) targets_same ∙ ap (λ m. puzzle m (take m (drop 1 ns)) (drop m (drop 1 ns))) e

      pub form_text : {out l : List ℕ}
          → PuzzleText (puzzle n (take n (take (length ns - 1) (drop 1 ns))) (drop n (take (length ns - 1) (drop 1 ns)))) out l
          → PuzzleText (puzzle_from ns) out l
      form_text {out} {l} w = subst (λ p. PuzzleText p out l) puzzle_same w

-- ---- the line

-- a line has at least one field
some_number : (line : List ℕ) → 0 < length (numbers line)
unfolding numbers fields in_first
some_number [] = omega arith
some_number (b ∷ line) =
    elim (eqb b 32) as (λ t. 0 < length (map value (cond t ([] ∷ fields line) (in_first b (fields line))))) [
      | true ↦ omega arith
      | false ↦ some_first b (fields line)
    ]
  where
    some_first : (b : ℕ) (fs : List (List ℕ)) → 0 < length (map value (in_first b fs))
    some_first b [] = omega arith
    some_first b (f ∷ fs) = omega arith

pub line_some : (line ns : List ℕ) → ns ≡ numbers line → 0 < length ns
line_some line ns e = rw e (some_number line)

module _ (line : List ℕ) where
  pub line_11 : well_formed line ≡ false → checked (line_checks line) ≡ Err TextLine
  unfolding checked line_checks
  line_11 e = rw e

  module _ (ns : List ℕ) (e : (well_formed line ≡ true) × (ns ≡ numbers line)) where
    pub line_refused : (k : Refusal) → Err k ≡ checked (take 2 (number_checks ns)) → checked (line_checks line) ≡ Err k
    unfolding checked line_checks
    line_refused k r = rw (e.0, ← e.1) (form_refused ns k r)

    pub line_text : {n : ℕ} {out l : List ℕ} → (Ok tt ≡ checked (take 2 (number_checks ns))) × (n ≡ get_or ns 0 0)
        → PuzzleText (puzzle n (take n (take (length ns - 1) (drop 1 ns))) (drop n (take (length ns - 1) (drop 1 ns)))) out l → LineText line out l
    unfolding refusal checked line_checks puzzle_from line_answer
    line_text {n} {out} {l} p w =
        let v : PuzzleText (puzzle_from (numbers line)) out l = subst (λ ns. PuzzleText (puzzle_from ns) out l) e.1 (form_text ns p.0 p.1 w) in
        let c : refusal (number_checks (numbers line)) ≡ refusal (puzzle_checks hall (puzzle_from (numbers line))) =
        subst (λ ns. refusal (number_checks ns) ≡ refusal (puzzle_checks hall (puzzle_from ns))) e.1 (checks_same ns (form_long ns p.0)) in
        let d : refusal (line_checks line) ≡ refusal (puzzle_checks hall (puzzle_from (numbers line))) = rw e.0 c in
        record { text = _; answers = rw d; put = v.put }

-- The text of the refusal of a line that has no numbers, byte by byte.
pub text_11 : {l : List ℕ} (out : List ℕ) → l ≡ out ++ (114 ∷ 101 ∷ 102 ∷ 117 ∷ 115 ∷ 101 ∷ 100 ∷ 32 ∷ 49 ∷ 49 ∷ []) → l ≡ out ++ (refused_word ++ decimal (refusal_number TextLine))
unfolding decimal_digits
text_11 out e = e

module _ {line out : List ℕ} where
  pub refused_text : {l : List ℕ} (k : Refusal) → checked (line_checks line) ≡ Err k
      → l ≡ out ++ (refused_word ++ decimal (refusal_number k)) → LineText line out l
  unfolding refusal line_answer
  refused_text k e w =
      let r : refusal (line_checks line) ≡ refusal_number k = ap number_of e in
      record {
        text = refused_word ++ decimal (refusal_number k);
        answers = rw r (refused_same (refusal_number k) _ _ _ (number_positive k));
        put = w;
      }

  pub given : {E : Type 0} {l : List ℕ} {room : ℕ} → 100 ≤ room → LineText line out l → LineGiven {E = E} line room (Ok (tt {0})) out l
  given h t = record { short = λ g. absurd (omega arith); answered = λ _. (refl, t) }
