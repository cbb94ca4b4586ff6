-- Steps that lose nothing of a stable table, and so no grid: what the handlers do, one after the other. Assumes nothing.
use Rattle.std.specs.Prelude.{ℕ, ◌≡◌, List}
use Rattle.rules.specs.Grid.{Puzzle}
use Rattle.soundness.specs.Greatest.{KeepsStable}
use Rattle.queue_state.specs.Slab.{table_in}
use Rattle.invariants.specs.State.{Kept}

-- A step that loses nothing of a stable table, for each puzzle whose arrangements the state has.
pub record Flows (n : ℕ) (l l' : List ℕ) : Type 0 where
  pub flow : (p : Puzzle) → p.size ≡ n → Kept p l → Kept p l' × KeepsStable p (table_in l) (table_in l')
