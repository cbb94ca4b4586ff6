-- The verdict and the grid from the search. Assumes nothing.
use Prim.Native.Nat.{ℕ, zero, suc, ◌*◌, ◌≤◌, min}
use mathlib.Core.Path.{◌≡◌, refl, sym, ap, ◌∙◌, subst}
use mathlib.Core.Bool.{Bool, true, false}
use mathlib.Core.List.{List, [], ◌∷◌}
use native.Mathlib.Omega.{arith}
use lib.ListN.{length, take}
use lib.Seq.{take-nil}
use Rattle.std.proofs.lemmas.List.{nil_from_length}
use borrow.Author.Tests.{eq-eqb, ne_eqb, eqb-true}
use Rattle.std.specs.Prelude.{Ok, Err}
use Rattle.refusal.specs.declared.Refusal.{Refusal}
use Rattle.refusal.specs.declared.Refusal.TheVariants.{CellsLength}
use Rattle.refusal.specs.Number.{number_of}
use Rattle.units.specs.declared.Unit.{Unit}
use Rattle.rules.proofs.CheckLaws.{lacks, numbered, number_positive, passed_number, checked_skip, checked_stop, refusal_none, refusal_none_left, refusal_none_right, lacks_append}
use Rattle.rules.proofs.UnitLaws.{marks_lack}
use Rattle.rules.specs.Grid.{Puzzle}
use Rattle.rules.specs.Check.{check_buffer, checked, refusal, puzzle_checks, count_checks, solve_checks}
use Rattle.rules.specs.CheckParts.{list_checks}
use Rattle.rules.specs.Number.{number, capped}
use Rattle.rules.specs.Order.{found, first_or}
use Rattle.grid_order.proofs.FoundLaws.{found_length}
use Rattle.puzzle.specs.Stands.{puzzle_of}
use Rattle.puzzle.proofs.PuzzleLaws.{puzzle_numbered}
use Rattle.backtrack.specs.Search.{SearchAsk, first_if, Given, Searched}
use Rattle.rules.specs.Mark.{marks_of}
use Rattle.prepare.specs.declared.Question.{Question}
use Rattle.prepare.specs.Prepared.{Prepared, Marked}
use Rattle.engine.specs.declared.Verdict.{Verdict}
use Rattle.engine.specs.declared.Verdict.TheVariants.{Unsolvable, Unique, Multiple}
use Rattle.engine.specs.Answer.{verdict_on, solve_answer, solve_cells}
use Rattle.engine.proofs.CountLaws.{CountAsk, question_asks, count_asked, found_left, given_capped}

-- ---- refusals

pub count_numbered : (u : Unit) (p : Puzzle) (ms : List ℕ) → numbered (count_checks u p ms) ≡ true
unfolding count_checks lacks
count_numbered u p ms = lacks_append 0 (puzzle_checks u p) (list_checks u p.size ms) (puzzle_numbered u p) (marks_lack 0 refl p.size ms)

module _ (u : Unit) (p : Puzzle) (ms : List ℕ) (len : ℕ) where
  pub refused_count : (k : Refusal) → Err k ≡ checked (count_checks u p ms) → Err k ≡ checked (solve_checks u p ms len)
  unfolding solve_checks
  refused_count k d = sym (checked_stop (count_checks u p ms) (check_buffer p.size len ∷ []) k (sym d))

  module _ (d : Ok tt ≡ checked (count_checks u p ms)) where
    past : checked (solve_checks u p ms len) ≡ checked (check_buffer p.size len ∷ [])
    unfolding solve_checks
    past = checked_skip (count_checks u p ms) (check_buffer p.size len ∷ []) (sym d)

    pub refused_7 : (len ≡ p.size * p.size → ⊥) → Err CellsLength ≡ checked (solve_checks u p ms len)
    unfolding checked
    refused_7 l = sym (past ∙ rw (ne_eqb len (p.size * p.size) l))

    pub refused_0 : len ≡ p.size * p.size → Ok tt ≡ checked (solve_checks u p ms len)
    unfolding checked
    refused_0 l = sym (past ∙ rw (eq-eqb len (p.size * p.size) l))

-- a puzzle, marks and a cell buffer that are not refused, whatever the unit
pub record SolveAsk (p : Puzzle) (ms : List ℕ) (len : ℕ) : Type 0 where
  pub count : CountAsk p ms
  pub room : len ≡ p.size * p.size

pub question_solves : (q : Question) {len : ℕ} → len ≡ q.puzzle.size.n * q.puzzle.size.n → SolveAsk (puzzle_of q.puzzle) (marks_of q.marks.now) len
question_solves q e = record { count = question_asks q; room = e }

-- what a unit does not refuse
module _ (u : Unit) (p : Puzzle) (ms : List ℕ) (len : ℕ) (e : refusal (solve_checks u p ms len) ≡ 0) where
  pub solve_counts : refusal (count_checks u p ms) ≡ 0
  unfolding solve_checks
  solve_counts = refusal_none_left (count_checks u p ms) (check_buffer p.size len ∷ []) e

  pub solve_asked : SolveAsk p ms len
  unfolding solve_checks
  solve_asked =
      record {
        count = count_asked u p ms solve_counts;
        room = eqb-true len (p.size * p.size)
            (refusal_none CellsLength _ [] (refusal_none_right (count_checks u p ms) (check_buffer p.size len ∷ []) (count_numbered u p ms) e)).0;
      }

-- ---- the answers

pub verdict_0 : (found : ℕ) → found ≡ 0 → Unsolvable ≡ verdict_on found
verdict_0 found e = rw e

pub verdict_1 : (found : ℕ) → found ≡ 1 → Unique ≡ verdict_on found
verdict_1 found e = rw e

pub verdict_2 : (found : ℕ) → (found ≡ 0 → ⊥) → (found ≡ 1 → ⊥) → Multiple ≡ verdict_on found
verdict_2 zero a b = absurd (a refl)
verdict_2 (suc zero) a b = absurd (b refl)
verdict_2 (suc (suc k)) a b = refl

-- ---- the search

module _ {p : Puzzle} {ms : List ℕ} (a : CountAsk p ms) where
  found_small : p.size ≤ 9
  found_small = a.puzzle.size.high

  pub found_none : {max : ℕ} {wanted : Bool} {l cells : List ℕ} {ok : Bool} → Prepared p ms l ok → ok ≡ false → Given (found p ms) max wanted 0 cells cells
  unfolding first_or
  found_none {max} {wanted} {l} {cells} d e =
      let none = nil_from_length (found p ms) (found_length p ms ∙ d.none e) in
      let n = ap (take max) none ∙ take-nil max in
      record { count = sym (ap length n); cells_hold = sym (ap (first_if wanted cells) n ∙ nothing wanted) }
    where
      nothing : (b : Bool) → first_if b cells [] ≡ cells
      nothing true = refl
      nothing false = refl

  module _ {l : List ℕ} (m : Marked p ms l) where
    pub found_search : {wanted : Bool} {room : ℕ} → (wanted ≡ true → room ≡ p.size * p.size) → SearchAsk p.size l wanted room
    found_search f = record { lagging = m.lagging; fits = f }

    pub found_grids : {max : ℕ} {wanted : Bool} {r : ℕ} {cells cells' : List ℕ} → Searched p.size l max wanted r cells cells' → Given (found p ms) max wanted r cells cells'
    found_grids {max} {wanted} {r} {cells} {cells'} s = subst (λ gs. Given gs max wanted r cells cells') (found_left a m) (s.gives p refl m.kept)

pub solve_small : {p : Puzzle} {ms : List ℕ} {len : ℕ} → SolveAsk p ms len → p.size ≤ 9
solve_small a = a.count.puzzle.size.high

-- ---- the whole call

pub solve_refused : (u : Unit) (p : Puzzle) (ms cells : List ℕ) (k : Refusal) → Err k ≡ checked (solve_checks u p ms (length cells)) →
    (Err k ≡ solve_answer u p ms (length cells)) × (cells ≡ solve_cells u p ms cells)
unfolding refusal
solve_refused u p ms cells k d = (rw (← d), rw (ne_eqb (number_of (checked (solve_checks u p ms (length cells)))) 0 (λ e. number_positive k (ap number_of d ∙ e))))

-- a count to the cap 2 tells the verdict
pub verdict_capped : (k : ℕ) → verdict_on (min 2 k) ≡ verdict_on k
verdict_capped zero = refl
verdict_capped (suc zero) = refl
verdict_capped (suc (suc k)) = let e : min 2 (suc (suc k)) ≡ 2 = omega arith in rw e

first_two : (cells : List ℕ) (gs : List (List ℕ)) → first_or cells (take 2 gs) ≡ first_or cells gs
unfolding first_or
first_two cells [] = refl
first_two cells (g ∷ gs) = refl

pub solve_done : (u : Unit) (p : Puzzle) (ms cells : List ℕ) {cells' : List ℕ} {r : ℕ} (v : Verdict) → Ok tt ≡ checked (solve_checks u p ms (length cells)) → Given (found p ms) 2 true r cells cells' →
    v ≡ verdict_on r → (Ok v ≡ solve_answer u p ms (length cells)) × (cells' ≡ solve_cells u p ms cells)
unfolding capped
solve_done u p ms cells v d f e =
    let q = passed_number (solve_checks u p ms (length cells)) (sym d) in
    let c : v ≡ verdict_on (number p ms) = e ∙ ap verdict_on (given_capped p ms f) ∙ verdict_capped (number p ms) in
    (rw (← d, c), rw q (f.cells_hold ∙ first_two cells (found p ms)))
