-- Marks applied to the solver's state: what is asked, and what they leave. Assumes nothing.
use Rattle.std.specs.Prelude.{ℕ, ◌<◌, ◌≡◌, List, length}
use Rattle.rules.specs.Grid.{Puzzle}
use Rattle.rules.specs.Mark.{marks_of}
use Rattle.rules.specs.Check.{refusal}
use Rattle.rules.specs.CheckParts.{mark_checks}
use Rattle.table.specs.Steps.{marked_all}
use Rattle.soundness.specs.Marks.{AcceptedMark}
use Rattle.queue_state.specs.Slab.{table_in}
use Rattle.invariants.specs.State.{Kept, Lagging}

-- A state, and a mark of its size.
pub record MarkAsk (n : ℕ) (l : List ℕ) (m : ℕ) : Type 0 where
  pub lagging : Lagging n l 0
  pub accepted : AcceptedMark n m

-- A state, and the bytes of marks that are not refused.
pub record MarksAsk (n : ℕ) (l bytes : List ℕ) : Type 0 where
  pub lagging : Lagging n l 0
  pub accepted : refusal (mark_checks n (marks_of bytes)) ≡ 0

-- The table is the one after the marks; the strikes wait, and what held of the state and of its arrangements holds.
pub record MarksApplied (n : ℕ) (l l' ms : List ℕ) : Type 0 where
  pub size : length l' ≡ length l
  pub lagging : Lagging n l' 0
  pub kept : (p : Puzzle) → p.size ≡ n → Kept p l → Kept p l'
  pub table : (r c v : ℕ) → r < 9 → c < 9 → v < 16 → table_in l' r c v ≡ marked_all (table_in l) ms r c v
