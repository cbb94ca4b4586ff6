-- What holds of the solver's state between steps, and what propagation leaves. Assumes nothing.
use Rattle.std.specs.Prelude.{ℕ, ◌/◌, ◌%◌, ◌≤◌, ◌<◌, ◌≡◌, Bool, true, false, ◌&&◌, eqb, ltb, length}
use mathlib.Core.List.{List, Memᴰ}
use Rattle.tally.specs.Tally.{any}
use Rattle.rules.specs.Grid.{Line, index, Puzzle, target}
use Rattle.table.specs.Closed.{arrangements, Closed}
use Rattle.table.specs.Table.{Table, every_value}
use Rattle.table.specs.Stable.{LoneSet, Stable}
use Rattle.settled.specs.EmptyCell.{Empty}
use Rattle.soundness.specs.SameGrids.{Within, SameGrids}
use Rattle.soundness.specs.Greatest.{KeepsStable}
use Rattle.queue_state.specs.Slab.{cand, table_in, tail, lag}
use Rattle.queue_state.specs.Ready.{Ready}
use Rattle.words.specs.Word.{arrangement_of}
use Rattle.counters.specs.Counters.{Halves, LinePlaces, Blacks}
use Rattle.arcs.specs.Arc.{lives, live, Arc, Holding}
use Rattle.table.specs.Lines.{LineOf, line_number}

-- ---- the live arrangements

-- The candidates of a table by the places of the state: the cell at place x has the value v.
unfoldable pub candidates_in : ℕ → Table → ℕ → ℕ → Bool
candidates_in n t x v = ltb (x / 9) n && (ltb (x % 9) n && (any (eqb v) (every_value n) && t (x / 9) (x % 9) v))

-- The live arrangements are those of the puzzle's targets, and each stable table within the state's is held by them.
pub record Kept (p : Puzzle) (l : List ℕ) : Type 0 where
  pub member : (ℓ : Line) → index ℓ < p.size → (j : ℕ) → j < lives l (line_number ℓ) →
      Memᴰ (arrangement_of p.size (live l (line_number ℓ) j)) (arrangements p.size (target p ℓ))
  pub holds : (t : Table) → Stable p t → Within p.size t (table_in l) →
      (ℓ : ℕ) → LineOf p.size ℓ → Holding p.size ℓ (lives l ℓ) l (candidates_in p.size t)

-- ---- the counters

-- Every cell has a candidate, or a strike of it waits from h on.
unfoldable pub Occupied : ℕ → List ℕ → ℕ → Type 0
Occupied n l h = (x : ℕ) → x / 9 < n → x % 9 < n → (v : ℕ) × (v < 16) × (1 ≤ lag l h x v)

-- All counters are those of the strikes before h.
pub record Counted (n : ℕ) (l : List ℕ) (h : ℕ) : Type 0 where
  pub halves : Halves n l h
  pub places : LinePlaces n l h
  pub blacks : Blacks n l h
  pub arcs : (ℓ : ℕ) → LineOf n ℓ → Arc n ℓ l h

-- The state with the strikes from h on waiting; each candidate is struck at most once.
pub record Lagging (n : ℕ) (l : List ℕ) (h : ℕ) : Type 0 where
  pub ready : Ready n l
  pub upto : h ≤ tail l
  pub once : (x v : ℕ) → v < 16 → lag l 0 x v ≤ 1
  pub occupied : Occupied n l h
  pub counted : Counted n l h

-- ---- propagation

-- A cell of the grid has no candidate.
pub record Emptied (n : ℕ) (l : List ℕ) : Type 0 where
  pub row : ℕ
  pub column : ℕ
  pub row_in : row < n
  pub column_in : column < n
  pub empty : Empty n (table_in l) row column

-- What propagation leaves: the table has shrunk without losing a grid or anything of a stable table; then either it rests, closed, with no cell empty and what
-- is alone in a half set, or a cell is empty.
pub record Propagated (n : ℕ) (l l' : List ℕ) (rests : Bool) : Type 0 where
  pub size : length l' ≡ length l
  pub sub : (x v : ℕ) → v < 16 → cand l' x v ≤ cand l x v
  pub sound : (p : Puzzle) → p.size ≡ n → Kept p l → SameGrids p (table_in l) (table_in l')
  pub stable : (p : Puzzle) → p.size ≡ n → Kept p l → KeepsStable p (table_in l) (table_in l')
  pub emptied : rests ≡ false → Emptied n l'
  pub lagging : rests ≡ true → Lagging n l' 0
  pub kept : rests ≡ true → (p : Puzzle) → p.size ≡ n → Kept p l → Kept p l'
  pub closed : rests ≡ true → (p : Puzzle) → p.size ≡ n → Kept p l → Closed p (table_in l')
  pub lone_set : rests ≡ true → LoneSet n (table_in l')
  pub filled : rests ≡ true → (r c : ℕ) → r < n → c < n → Empty n (table_in l') r c → ⊥
