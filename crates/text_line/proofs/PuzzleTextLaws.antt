-- The text of an answer of Solve is that of the puzzle. Assumes nothing.
use Rattle.std.specs.Fmt.{decimal}
use Prim.Native.Nat.{ℕ, zero, suc, ◌-◌, ◌*◌, ◌≤◌, ◌<◌}
use mathlib.Core.Path.{◌≡◌, refl, sym, ap, subst, ◌∙◌}
use mathlib.Core.Bool.{true, true≢false}
use mathlib.Core.List.{List, [], ◌++◌, Memᴰ}
use native.Mathlib.Omega.{arith}
use lib.ListN.{length, take, drop, length-take, length-drop}
use lib.Seq.{take_all}
use borrow.Author.Tests.{eq-eqb, ne_eqb, le-leb}
use Rattle.tally.specs.Tally.{all, join}
use Rattle.tally.specs.Way.{Way, done, put}
use Rattle.tally.proofs.TallyLaws.{span_in, and_both}
use Rattle.std.specs.Prelude.{⊤, Result, Ok, Err}
use Rattle.refusal.specs.declared.Refusal.{Refusal}
use Rattle.refusal.specs.Number.{refusal_number, number_of}
use Rattle.units.specs.Limits.{hall}
use Rattle.rules.specs.Grid.{digits, Puzzle, puzzle}
use Rattle.rules.specs.Mark.{marks_of}
use Rattle.rules.proofs.GridLaws.{solution_way}
use Rattle.rules.specs.Check.{checked, answered, refusal, puzzle_checks, count_checks, solve_checks}
use Rattle.rules.proofs.CheckLaws.{number_positive, passed_number}
use Rattle.rules.specs.Number.{Verdict as Found, number, verdict_of}
use Rattle.rules.specs.Order.{found, first_or}
use Rattle.grid_order.proofs.FoundLaws.{first_solution, first_same}
use Rattle.rules.specs.Short.{symbols}
use Rattle.rules.specs.Size.{Size}
use Rattle.engine.specs.declared.Verdict.{Verdict}
use Rattle.engine.specs.Answer.{verdict_on, solve_answer, solve_cells}
use Rattle.text_rules.specs.Text.{refused_word, answer_text}
use Rattle.text_answer.specs.Shown.{shown, SolvedAsk}
use Rattle.text_line.specs.Line.{solved_text, shows_grid, AnswerAsk, SolveTargetsAsk, TargetsAsk, PuzzleText}

-- ---- the text of an answer

pub answer_ask : {a b : Result Verdict Refusal} {g : List ℕ} {room : ℕ} → AnswerAsk a g room → a ≡ b → shows_grid b ≡ true → (k : ℕ) → k ≤ 9 → SolvedAsk k g room
answer_ask w e s k h =
    record { cells = w.cells (ap shows_grid e ∙ s); fits = omega (arith, w.fits) }

pub answer_put : {a b : Result Verdict Refusal} {l : List ℕ} (out : List ℕ) (n : ℕ) (g : List ℕ) → a ≡ b → l ≡ out ++ solved_text b n g → l ≡ out ++ solved_text a n g
answer_put out n g e w = rw e w

-- ---- the cells of a solution have a text

cell_shown : (n c : ℕ) → n ≤ 9 → Memᴰ c (symbols n) → shown c ≡ true
unfolding digits
cell_shown n c h (Memᴰ.head e) = rw (eq-eqb c 255 e)
cell_shown n c h (Memᴰ.tail m) =
    let i = span_in 1 (n - 2) c m in rw (ne_eqb c 255 (λ e. omega arith)) (le-leb c 9 (omega arith))

way_shown : (n : ℕ) → n ≤ 9 → {k : ℕ} {g : List ℕ} → Way (symbols n) k g → all shown g ≡ true
unfolding all
way_shown n h done = refl
way_shown n h (put {c = c} m w) = and_both (cell_shown n c h m) (way_shown n h w)

-- ---- the answer of Solve

shows : (r : Result ⊤ Refusal) (m : ℕ) → shows_grid (answered r (verdict_on m)) ≡ true → (r ≡ Ok tt) × (0 < m)
shows (Err k) m e = absurd (true≢false (sym e))
shows (Ok tt) zero e = absurd (true≢false (sym e))
shows (Ok tt) (suc zero) e = (refl, omega arith)
shows (Ok tt) (suc (suc m)) e = (refl, omega arith)

pub refused_same : (k : ℕ) (v : Found) (n : ℕ) (g : List ℕ) → (k ≡ 0 → ⊥) → refused_word ++ decimal k ≡ answer_text k v n g
unfolding answer_text
refused_same zero v n g z = absurd (z refl)
refused_same (suc k) v n g z = refl

-- the grid counts only where one is shown
text_same : (r : Result ⊤ Refusal) (m n : ℕ) (g h : List ℕ) → (r ≡ Ok tt → 0 < m → g ≡ h) →
    solved_text (answered r (verdict_on m)) n g ≡ answer_text (number_of r) (verdict_of m) n h
unfolding answer_text verdict_of
text_same (Err k) m n g h e = refused_same (refusal_number k) (verdict_of m) n h (number_positive k)
text_same (Ok tt) zero n g h e = refl
text_same (Ok tt) (suc zero) n g h e = rw (e refl (omega arith))
text_same (Ok tt) (suc (suc m)) n g h e = rw (e refl (omega arith))

-- with no marks and cells of the size only the puzzle is checked
only_puzzle : (p : Puzzle) (len : ℕ) → len ≡ p.size * p.size → checked (solve_checks hall p [] len) ≡ checked (puzzle_checks hall p)
unfolding checked solve_checks count_checks join
only_puzzle p len e = rw (eq-eqb len (p.size * p.size) e)

module _ {n : ℕ} {ts : List ℕ} {room : ℕ} {answer : Result Verdict Refusal} (cells : List ℕ) {cells' : List ℕ} (a : SolveTargetsAsk n ts (length cells) room)
    (s : (answer ≡ solve_answer hall (puzzle n (take n ts) (take (length ts - n) (drop n ts))) (marks_of []) (length cells))
    × (cells' ≡ solve_cells hall (puzzle n (take n ts) (take (length ts - n) (drop n ts))) (marks_of []) cells)) (long : length cells' ≡ length cells) where
  abbrev p : Puzzle
  p = puzzle n (take n ts) (take (length ts - n) (drop n ts))

  same : p ≡ puzzle n (take n ts) (drop n ts)
  same = ap (puzzle n (take n ts)) (take_all (length ts - n) (drop n ts) (omega (arith, length-drop n ts)))

  accepted : checked (solve_checks hall p [] (length cells)) ≡ checked (puzzle_checks hall p)
  accepted = only_puzzle p (length cells) a.square

  is : answer ≡ answered (checked (puzzle_checks hall p)) (verdict_on (number p []))
  unfolding marks_of
  is = s.0 ∙ ap (λ r. answered r (verdict_on (number p []))) accepted

  -- the cells, where the puzzle is not refused and has a grid
  first_cells : checked (puzzle_checks hall p) ≡ Ok tt → cells' ≡ first_or cells (found p [])
  unfolding marks_of
  first_cells e = s.1 ∙ rw (passed_number _ (accepted ∙ e))

  pub solve_shown : Size n → AnswerAsk answer cells' room
  solve_shown z =
      record {
        cells = λ e.
            let q = shows (checked (puzzle_checks hall p)) (number p []) (sym (ap shows_grid is) ∙ e) in
            let f = first_solution p [] q.1 cells in
            way_shown n z.high (subst (Way (symbols n) (n * n)) (sym (first_cells q.0)) (solution_way f));
        fits = a.fits;
      }

  pub solve_text : {out l : List ℕ} → l ≡ out ++ solved_text answer n cells' → PuzzleText (puzzle n (take n ts) (drop n ts)) out l
  unfolding refusal
  solve_text {out} {l} w =
      let e : solved_text answer n cells' ≡ answer_text (refusal (puzzle_checks hall p)) (verdict_of (number p [])) n (first_or [] (found p [])) =
      ap (λ x. solved_text x n cells') is ∙ text_same (checked (puzzle_checks hall p)) (number p []) n cells' (first_or [] (found p []))
      (λ q h. first_cells q ∙ first_same p [] h cells []) in
      let t : PuzzleText p out l = record { put = w ∙ ap (λ x. out ++ x) e } in
      subst (λ q. PuzzleText q out l) same t

-- ---- what the calls ask

pub front_long : (k : ℕ) (l : List ℕ) → k ≤ length l → k ≡ length (take k l)
front_long k l h = sym (length-take k l ∙ omega arith)

pub rows_long : {n : ℕ} {ts : List ℕ} {m room : ℕ} → SolveTargetsAsk n ts m room → n ≡ length (take n ts)
rows_long {n} {ts} a = front_long n ts (omega (arith, a.long))

pub targets_solve : {n : ℕ} {ts : List ℕ} {room m : ℕ} → TargetsAsk n ts room → m ≡ n * n → SolveTargetsAsk n ts m room
targets_solve a e = record { long = a.long; square = e; fits = a.fits }
