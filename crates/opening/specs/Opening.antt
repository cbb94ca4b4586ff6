-- Candidates without support, and the state after opening. Assumes nothing.
use Rattle.std.specs.Prelude.{ℕ, ◌+◌, ◌-◌, ◌*◌, ◌/◌, ◌%◌, ◌≤◌, ◌<◌, ◌≡◌, List, map}
use Rattle.tally.specs.Tally.{span}
use Rattle.table.specs.Closed.{arrangements}
use Rattle.bits.specs.Bit.{bit}
use Rattle.queue_state.specs.Layout.{lengths_at, slab_size}
use Rattle.queue_state.specs.Slab.{cand}
use Rattle.queue_state.specs.Ready.{Moved}
use Rattle.words.specs.Word.{arrangement_of}
use Rattle.arcs.specs.Arc.{lives, live, support, Arc, Unsupported}
use Rattle.table.specs.Value.{HalfOf}
use Rattle.table.specs.Lines.{LineOf}
use Rattle.listing.specs.Listing.{target_at}

-- The bits of m below k are those of the values without support at place y, and it has no others.
pub record Lacks (l : List ℕ) (y k m : ℕ) : Type 0 where
  pub below : (v : ℕ) → v < k → bit v m ≡ 1 - support l y v
  pub above : (v : ℕ) → k ≤ v → v < 16 → bit v m ≡ 0

-- The value v of the cell at place x has no support in its row, or none in its column.
pub data Bare (l : List ℕ) (x v : ℕ) : Type 0 where
  along_row : HalfOf 8 v → support l (x / 9 * 9 + x % 9) v ≡ 0 → Bare l x v
  along_column : HalfOf 10 v → support l ((9 + x % 9) * 9 + x / 9) v ≡ 0 → Bare l x v

-- Those of one cell; of row r in front of column c; of the first r rows of size n.
unfoldable pub BareCell : List ℕ → ℕ → ℕ → ℕ → Type 0
BareCell l cell x v = (x ≡ cell) × Bare l x v

-- Those of the cells before column c in row r.
unfoldable pub BareIn : List ℕ → ℕ → ℕ → ℕ → ℕ → Type 0
BareIn l r c x v = (x / 9 ≡ r) × (x % 9 < c) × Bare l x v

-- Those of the first n cells of each row before row r.
unfoldable pub BareTo : List ℕ → ℕ → ℕ → ℕ → ℕ → Type 0
BareTo l n r x v = (x / 9 < r) × (x % 9 < n) × Bare l x v

-- The opened state: besides strikes only lists and supports moved; each line is an arc with nothing handled yet, it lists the arrangements of its target,
-- in the order of the definition; and what was struck has no support.
pub record Opened (n : ℕ) (rows columns l l' : List ℕ) : Type 0 where
  pub moved : Moved l l' lengths_at slab_size
  pub arcs : (ℓ : ℕ) → LineOf n ℓ → Arc n ℓ l' 0
  pub listed : (ℓ : ℕ) → LineOf n ℓ → map (arrangement_of n) (map (λ j. live l' ℓ j) (span 0 (lives l' ℓ))) ≡ arrangements n (target_at rows columns ℓ)
  pub struck : (x v : ℕ) → v < 16 → cand l x v ≡ 1 → cand l' x v ≡ 0 → Unsupported n l' x v
