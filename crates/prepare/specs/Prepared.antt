-- The state of a puzzle after its marks. Assumes nothing.
use Rattle.std.specs.Prelude.{ℕ, ◌<◌, ◌≡◌, Bool, true, false, List}
use Rattle.rules.specs.Grid.{Puzzle}
use Rattle.rules.specs.Number.{number}
use Rattle.table.specs.Steps.{marked_all}
use Rattle.table.specs.Table.{Table}
use Rattle.table.specs.Closed.{Closed}
use Rattle.table.specs.Stable.{LoneSet}
use Rattle.soundness.specs.Greatest.{KeepsStable, every_candidate}
use Rattle.queue_state.specs.Slab.{table_in}
use Rattle.invariants.specs.State.{Kept, Lagging}

-- A table at rest within which each stable table of the puzzle lies.
pub record Rested (p : Puzzle) (t : Table) : Type 0 where
  pub stable : KeepsStable p every_candidate t
  pub closed : Closed p t
  pub lone_set : LoneSet p.size t

-- A state that may be searched: its table is such a one after the marks.
pub record Marked (p : Puzzle) (ms l : List ℕ) : Type 0 where
  pub lagging : Lagging p.size l 0
  pub kept : Kept p l
  pub before : List ℕ
  pub rested : Rested p (table_in before)
  pub table : (r c v : ℕ) → r < 9 → c < 9 → v < 16 → table_in l r c v ≡ marked_all (table_in before) ms r c v

-- What it gives: such a state, or that no grid is left.
pub record Prepared (p : Puzzle) (ms l : List ℕ) (ok : Bool) : Type 0 where
  pub none : ok ≡ false → number p ms ≡ 0
  pub marked : ok ≡ true → Marked p ms l
