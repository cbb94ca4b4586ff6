-- Preparing, step by step. Assumes nothing.
use Prim.Native.Nat.{ℕ}
use mathlib.Core.Path.{◌≡◌, refl, sym, ◌∙◌}
use mathlib.Core.Bool.{Bool, true, false, true≢false}
use mathlib.Core.List.{List, Memᴰ}
use Rattle.tally.proofs.TallyLaws.{false_of}
use Rattle.rules.specs.Size.{Size}
use Rattle.rules.specs.Check.{refusal}
use Rattle.rules.specs.CheckParts.{mark_checks}
use Rattle.rules.specs.Mark.{marks_of}
use Rattle.table.specs.Steps.{marked_all}
use Rattle.settled.proofs.EmptyLaws.{empty_left}
use Rattle.soundness.proofs.MarkLaws.{marks_number, marks_kept}
use Rattle.soundness.proofs.GridStable.{stable_whole}
use Rattle.soundness.proofs.StableLaws.{keeps_trans}
use Rattle.soundness.specs.Greatest.{KeepsStable, every_candidate}
use Rattle.soundness.specs.Marks.{Whole, AcceptedMark}
use Rattle.soundness.proofs.MarkLaws as marks
use Rattle.queue_state.specs.Slab.{table_in}
use Rattle.fresh.specs.Fresh.{Blank, Fresh}
use Rattle.opening.specs.Opening.{Opened}
use Rattle.rules.specs.Grid.{Puzzle, puzzle}
use Rattle.puzzle.specs.Accepted.{AcceptedPuzzle}
use Rattle.puzzle.specs.Stands.{puzzle_of}
use Rattle.invariants.specs.State.{Kept, Lagging, Propagated}
use Rattle.apply_marks.specs.Applied.{MarksApplied}
use Rattle.prepare.specs.declared.Question.{Question}
use Rattle.prepare.specs.Prepared.{Prepared}
use Rattle.prepare.proofs.Begun.{begun_lagging, begun_kept, begun_stable}

-- A puzzle and marks that are not refused, and blank memory.
pub record PrepareAsk (p : Puzzle) (ms l : List ℕ) : Type 0 where
  pub puzzle : AcceptedPuzzle p
  pub marks : refusal (mark_checks p.size ms) ≡ 0
  pub blank : Blank l

pub asked : (q : Question) {l : List ℕ} → Blank l → PrepareAsk (puzzle_of q.puzzle) (marks_of q.marks.now) l
asked q e = record { puzzle = q.puzzle.accepted; marks = q.marks_pass; blank = e }

module _ {n : ℕ} {rows columns ms l₀ : List ℕ} (a : PrepareAsk (puzzle n rows columns) ms l₀) where
  good : AcceptedPuzzle (puzzle n rows columns)
  good = a.puzzle

  pub prepare_size : Size n
  prepare_size = good.size

  module _ {l : List ℕ} (f : Fresh n l) where
    module _ {l₁ : List ℕ} (o : Opened n rows columns l l₁) where
      pub prepare_lagging : Lagging n l₁ 0
      prepare_lagging = begun_lagging prepare_size f o

      kept₁ : Kept (puzzle n rows columns) l₁
      kept₁ = begun_kept prepare_size f o

      module _ {l₂ : List ℕ} {b : Bool} (d : Propagated n l₁ l₂ b) where
        stable₂ : KeepsStable (puzzle n rows columns) every_candidate (table_in l₂)
        stable₂ = keeps_trans (begun_stable prepare_size f o) (d.stable (puzzle n rows columns) refl kept₁)

        whole₂ : Whole (puzzle n rows columns) (table_in l₂)
        whole₂ = stable_whole (puzzle n rows columns) prepare_size.high (table_in l₂) stable₂

        marks_in : (m : ℕ) → Memᴰ m ms → AcceptedMark n m
        marks_in = marks.accepted n ms a.marks

        -- a cell is empty, and the marks do not fill it
        pub prepare_none : b ≡ false → Prepared (puzzle n rows columns) ms l₂ false
        prepare_none e =
            let q = d.emptied e in
            record {
              none = λ _. marks_number (puzzle n rows columns) prepare_size.high (table_in l₂) ms marks_in whole₂ ∙
                  empty_left (puzzle n rows columns) (marked_all (table_in l₂) ms) prepare_size.high q.row q.column q.row_in q.column_in
                  (λ v m. false_of (marked_all (table_in l₂) ms q.row q.column v) (λ t. true≢false (sym (marks_kept (table_in l₂) ms q.row q.column v t) ∙ q.empty v m)));
              marked = λ t. absurd (true≢false (sym t));
            }

        module _ (t : b ≡ true) where
          pub prepare_marks : Lagging n l₂ 0
          prepare_marks = d.lagging t

          pub prepare_done : {l₃ : List ℕ} → MarksApplied n l₂ l₃ ms → Prepared (puzzle n rows columns) ms l₃ true
          prepare_done {l₃} m =
              record {
                none = λ e. absurd (true≢false e);
                marked = λ _. record {
                  lagging = m.lagging;
                  kept = m.kept (puzzle n rows columns) refl (d.kept t (puzzle n rows columns) refl kept₁);
                  before = l₂;
                  rested = record {
                    stable = stable₂;
                    closed = d.closed t (puzzle n rows columns) refl kept₁;
                    lone_set = d.lone_set t;
                  };
                  table = m.table;
                };
              }
