-- What the search counts and writes. Assumes nothing.
use Rattle.std.specs.Prelude.{ℕ, ◌*◌, ◌≤◌, ◌≡◌, Bool, true, cond, List, [], ◌∷◌, length, take}
use Rattle.rules.specs.Grid.{Puzzle}
use Rattle.rules.specs.Order.{first_or}
use Rattle.table.specs.Reading.{read_off}
use Rattle.table.specs.Closed.{Closed}
use Rattle.soundness.specs.SameGrids.{SameGrids, Within}
use Rattle.grid_order.specs.Remaining.{remaining}
use Rattle.queue_state.specs.Slab.{table_in}
use Rattle.queue_state.specs.Ready.{Ready}
use Rattle.invariants.specs.State.{Kept, Lagging}
use Rattle.pick.specs.Choice.{Branch}
use Rattle.backtrack.specs.declared.Next.{Next}
use Rattle.backtrack.specs.declared.Next.TheVariants.{Contradicted, Settled}
use Rattle.backtrack.specs.declared.Next.TheVariants as next

-- A settled state: one grid is left, that which is read off.
pub record OneLeft (n : ℕ) (l l' : List ℕ) : Type 0 where
  pub size : length l' ≡ length l
  pub ready : Ready n l'
  pub one : (p : Puzzle) → p.size ≡ n → Kept p l → remaining p (table_in l) ≡ read_off n (table_in l') ∷ []

-- A state with a choice: no grid is lost, the table is closed, and it may be branched on.
pub record Branching (n : ℕ) (l l' : List ℕ) (r c v : ℕ) : Type 0 where
  pub size : length l' ≡ length l
  pub lagging : Lagging n l' 0
  pub within : Within n (table_in l') (table_in l)
  pub kept : (p : Puzzle) → p.size ≡ n → Kept p l → Kept p l'
  pub same : (p : Puzzle) → p.size ≡ n → Kept p l → SameGrids p (table_in l) (table_in l')
  pub closed : (p : Puzzle) → p.size ≡ n → Kept p l → Closed p (table_in l')
  pub branch : Branch n l' r c v

-- A state with no grid left.
pub record NoneLeft (n : ℕ) (l l' : List ℕ) : Type 0 where
  pub size : length l' ≡ length l
  pub none : (p : Puzzle) → p.size ≡ n → Kept p l → remaining p (table_in l) ≡ []

-- What a step forward leaves, by its answer.
abbrev pub Advanced : ℕ → List ℕ → List ℕ → Next → Type 0
Advanced n l l' Contradicted = NoneLeft n l l'
Advanced n l l' Settled = OneLeft n l l'
Advanced n l l' (next.Branch x) = Branching n l l' x.row x.column x.value

-- What the cells hold after some grids: the first of them if it is wanted, else what they held.
abbrev pub first_if : Bool → List ℕ → List (List ℕ) → List ℕ
first_if wanted cells gs = cond wanted (first_or cells gs) cells

-- What they hold after the grid of a settled table.
abbrev pub settled_cells : ℕ → List ℕ → Bool → List ℕ → List ℕ
settled_cells n l wanted cells = first_if wanted cells (read_off n (table_in l) ∷ [])

-- What the end of a branch asks.
pub record SettleAsk (n : ℕ) (l : List ℕ) (wanted : Bool) (room : ℕ) : Type 0 where
  pub ready : Ready n l
  pub fits : wanted ≡ true → room ≡ n * n

-- A state that may be searched, with room for the grid if it is wanted.
pub record SearchAsk (n : ℕ) (l : List ℕ) (wanted : Bool) (room : ℕ) : Type 0 where
  pub lagging : Lagging n l 0
  pub fits : wanted ≡ true → room ≡ n * n

-- Of some grids, as many as the cap allows are counted, and the first is in the cells if it is wanted.
pub record Given (gs : List (List ℕ)) (max : ℕ) (wanted : Bool) (r : ℕ) (cells cells' : List ℕ) : Type 0 where
  pub count : r ≡ length (take max gs)
  pub cells_hold : cells' ≡ first_if wanted cells (take max gs)

-- The search gives the grids that are left of the table, in order.
pub record Searched (n : ℕ) (l : List ℕ) (max : ℕ) (wanted : Bool) (r : ℕ) (cells cells' : List ℕ) : Type 0 where
  pub most : r ≤ max
  pub gives : (p : Puzzle) → p.size ≡ n → Kept p l → Given (remaining p (table_in l)) max wanted r cells cells'
