-- The count from the search, and the answer from the count. Assumes nothing.
use Prim.Native.Nat.{ℕ, ◌≤◌, min}
use mathlib.Core.Path.{◌≡◌, sym, ap, ◌∙◌}
use mathlib.Core.Bool.{Bool}
use mathlib.Core.List.{List}
use native.Mathlib.Omega.{arith}
use lib.ListN.{length}
use Rattle.std.proofs.lemmas.List.{length-take}
use Rattle.rules.proofs.CheckLaws.{checked_skip, checked_stop, passed_number, refusal_none, refusal_none_left, refusal_none_right}
use Rattle.std.specs.Prelude.{Ok, Err}
use Rattle.refusal.specs.declared.Refusal.{Refusal}
use Rattle.refusal.specs.declared.Refusal.TheVariants.{ListLimit}
use Rattle.units.specs.declared.Unit.{Unit}
use Rattle.units.specs.Limits.{takes_list}
use Rattle.rules.specs.Grid.{Puzzle}
use Rattle.rules.specs.Mark.{marks_of}
use Rattle.puzzle.specs.Accepted.{AcceptedPuzzle}
use Rattle.puzzle.specs.Stands.{puzzle_of}
use Rattle.rules.specs.Check.{checked, refusal, puzzle_checks, count_checks}
use Rattle.rules.specs.CheckParts.{mark_checks, list_checks}
use Rattle.rules.specs.Number.{number, capped}
use Rattle.rules.specs.Order.{found}
use Rattle.table.specs.Table.{left}
use Rattle.puzzle.proofs.PuzzleLaws.{puzzle_numbered, accepted}
use Rattle.soundness.proofs.SameLaws.{same_ext}
use Rattle.soundness.proofs.GridStable.{stable_whole}
use Rattle.soundness.proofs.MarkLaws as marks
use Rattle.queue_state.specs.Slab.{table_in}
use Rattle.line_laws.proofs.CellValues.{value_small}
use Rattle.backtrack.specs.Search.{Given}
use Rattle.grid_order.specs.Remaining.{remaining}
use Rattle.grid_order.proofs.RemainingLaws.{remaining_length, remaining_same}
use Rattle.grid_order.proofs.FoundLaws.{found_length, found_marked}
use Rattle.prepare.specs.declared.Question.{Question}
use Rattle.prepare.specs.Prepared.{Marked}
use Rattle.engine.specs.Answer.{count_answer}

-- ---- refusals

module _ (u : Unit) (p : Puzzle) (ms : List ℕ) where
  pub refused_puzzle : (k : Refusal) → Err k ≡ checked (puzzle_checks u p) → Err k ≡ checked (count_checks u p ms)
  unfolding count_checks
  refused_puzzle k d = sym (checked_stop (puzzle_checks u p) (list_checks u p.size ms) k (sym d))

  pub refused_list : Ok tt ≡ checked (puzzle_checks u p) → checked (list_checks u p.size ms) ≡ checked (count_checks u p ms)
  unfolding count_checks
  refused_list d = sym (checked_skip (puzzle_checks u p) (list_checks u p.size ms) (sym d))

-- the marks of a list that is not refused
pub list_passed : (u : Unit) (n : ℕ) (ms : List ℕ) → Ok tt ≡ checked (list_checks u n ms) → refusal (mark_checks n ms) ≡ 0
list_passed u n ms d = (refusal_none ListLimit (takes_list u (length ms)) (mark_checks n ms) (passed_number (list_checks u n ms) (sym d))).1

-- a puzzle and marks that are not refused, whatever the unit
pub record CountAsk (p : Puzzle) (ms : List ℕ) : Type 0 where
  pub puzzle : AcceptedPuzzle p
  pub marks : refusal (mark_checks p.size ms) ≡ 0

pub question_asks : (q : Question) → CountAsk (puzzle_of q.puzzle) (marks_of q.marks.now)
question_asks q = record { puzzle = q.puzzle.accepted; marks = q.marks_pass }

-- what a unit does not refuse
pub count_asked : (u : Unit) (p : Puzzle) (ms : List ℕ) → refusal (count_checks u p ms) ≡ 0 → CountAsk p ms
unfolding count_checks
count_asked u p ms e =
    record {
      puzzle = accepted u p (refusal_none_left (puzzle_checks u p) (list_checks u p.size ms) e);
      marks = (refusal_none ListLimit (takes_list u (length ms)) (mark_checks p.size ms)
          (refusal_none_right (puzzle_checks u p) (list_checks u p.size ms) (puzzle_numbered u p) e)).1;
    }

pub count_refused : (u : Unit) (p : Puzzle) (ms : List ℕ) (cap : ℕ) (k : Refusal) → Err k ≡ checked (count_checks u p ms) → Err k ≡ count_answer u p ms cap
count_refused u p ms cap k d = rw (← d)

pub count_done : (u : Unit) (p : Puzzle) (ms : List ℕ) (cap r : ℕ) → Ok tt ≡ checked (count_checks u p ms) → r ≡ capped cap p ms → Ok r ≡ count_answer u p ms cap
count_done u p ms cap r d e = rw (← d, e)

-- ---- the count

-- of the grids found, as many as the cap allows
pub given_capped : (p : Puzzle) (ms : List ℕ) {cap r : ℕ} {wanted : Bool} {cells cells' : List ℕ} → Given (found p ms) cap wanted r cells cells' → r ≡ capped cap p ms
unfolding capped
given_capped p ms {cap} g = g.count ∙ length-take cap (found p ms) ∙ ap (min cap) (found_length p ms)

module _ {p : Puzzle} {ms : List ℕ} (a : CountAsk p ms) where
  small : p.size ≤ 9
  small = a.puzzle.size.high

  module _ {l : List ℕ} (m : Marked p ms l) where
    -- what is left in the table is what is found
    pub found_left : remaining p (table_in l) ≡ found p ms
    found_left =
        remaining_same p (same_ext p small (λ r c v hr hc k. m.table r c v (omega (arith, small)) (omega (arith, small)) (value_small p.size v small k)))
        ∙ sym (found_marked p small (table_in m.before) ms (marks.accepted p.size ms a.marks) (stable_whole p small (table_in m.before) m.rested.stable))

    pub count_left : left p (table_in l) ≡ number p ms
    count_left = sym (remaining_length p (table_in l)) ∙ ap length found_left ∙ found_length p ms
