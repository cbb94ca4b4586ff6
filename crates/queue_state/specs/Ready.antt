-- The state of a size, the strike that is handled next, and what stays while strikes are made. Assumes nothing.
use Rattle.std.specs.Prelude.{ℕ, ◌+◌, ◌*◌, ◌/◌, ◌%◌, ◌≤◌, ◌<◌, ◌≡◌, ◌⊎◌, List, get_or}
use Rattle.rules.specs.Size.{Size}
use Rattle.queue_state.specs.Layout.{counters_at}
use Rattle.queue_state.specs.Slab.{tail, entry, lag, Sized, Grown}
use Rattle.table.specs.Value.{ValueOf}

-- A candidate of size n: a cell of the grid, and a value.
pub record Valid (n x v : ℕ) : Type 0 where
  pub row : x / 9 < n
  pub column : x % 9 < n
  pub value : ValueOf n v

-- The state is that of a size: only candidates of that size are in the table or were struck.
pub record Ready (n : ℕ) (l : List ℕ) : Type 0 where
  pub sized : Sized l
  pub size : Size n
  pub proper : (x v : ℕ) → v < 16 → 1 ≤ lag l 0 x v → Valid n x v

-- The strike at h, of the candidate v of the cell at place x, is the next to be handled.
pub record Next (l : List ℕ) (h x v : ℕ) : Type 0 where
  pub waiting : h < tail l
  pub is : entry l h ≡ x * 16 + v

-- Only counters at a to b - 1 move, besides strikes.
pub record Moved (l l' : List ℕ) (a b : ℕ) : Type 0 where
  pub grown : Grown l l'
  pub rest : (p : ℕ) → counters_at ≤ p → (p < a) ⊎ (b ≤ p) → get_or l' p 0 ≡ get_or l p 0
