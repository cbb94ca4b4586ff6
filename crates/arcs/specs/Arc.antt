-- The live arrangements of a line and their supports in the state, and what handling a strike does to them. Assumes nothing.
use Rattle.std.specs.Prelude.{ℕ, ◌+◌, ◌*◌, ◌≤◌, ◌<◌, ◌≡◌, ◌⊎◌, Bool, true, get_or}
use mathlib.Core.List.{List}
use Rattle.bits.specs.Sum.{sum_over}
use Rattle.table.specs.Table.{places}
use Rattle.table.specs.Closed.{Live}
use Rattle.queue_state.specs.Layout.{lengths_at, length_place, per_line, live_place, support_place, slab_size}
use Rattle.queue_state.specs.Slab.{cand, lag, table_in}
use Rattle.queue_state.specs.Ready.{Ready, Next, Moved}
use Rattle.table.specs.Value.{ValueOf, HalfOf}
use Rattle.words.specs.Word.{Known, arrangement_of, word_of, part}
use Rattle.table.specs.Lines.{line_at, cell_at, black_at, LineOf}

-- ---- the counters

-- How many arrangements of line ℓ are live.
abbrev pub lives : List ℕ → ℕ → ℕ
lives l ℓ = get_or l (length_place ℓ) 0

-- Which they are: number j of them.
abbrev pub live : List ℕ → ℕ → ℕ → ℕ
live l ℓ j = get_or l (live_place ℓ j) 0

-- How many of them have the value v at a place: y is ℓ * 9 + place.
abbrev pub support : List ℕ → ℕ → ℕ → ℕ
support l y v = get_or l (support_place y v) 0

-- ---- the arrangements of a line

-- The first len of its list are known, its supports are their tally, and a candidate of its half without support is struck.
pub record Tallied (n ℓ len : ℕ) (l : List ℕ) : Type 0 where
  pub room : len ≤ per_line
  pub known : (j : ℕ) → j < len → Known n (live l ℓ j)
  pub supports : (p v : ℕ) → p < 9 → v < 16 → support l (ℓ * 9 + p) v ≡ sum_over 0 len (λ (j : ℕ). part (black_at ℓ) (word_of n (live l ℓ j)) p v)
  pub backed : (p v : ℕ) → p < n → v < 16 → HalfOf (black_at ℓ) v → support l (ℓ * 9 + p) v ≡ 0 → cand l (cell_at ℓ p) v ≡ 0

-- The arrangement has a value at a place, both as Q asks, where it is a candidate, or its strike waits from h on.
pub record Serves (n ℓ : ℕ) (l : List ℕ) (h id : ℕ) (Q : ℕ → ℕ → Type 0) : Type 0 where
  pub at : ℕ
  pub value : ℕ
  pub within : at < n
  pub narrow : value < 16
  pub asked : Q at value
  pub allowed : part (black_at ℓ) (word_of n id) at value ≡ 1
  pub lags : 1 ≤ lag l h (cell_at ℓ at) value

-- Place p, with any value.
abbrev pub AtPlace : ℕ → ℕ → ℕ → Type 0
AtPlace p at value = at ≡ p

-- The value d, at any place.
abbrev pub OfValue : ℕ → ℕ → ℕ → Type 0
OfValue d at value = value ≡ d

-- Each place that the arrangement covers is served, and each digit of its set at one of its inner places.
pub record Alive (n ℓ : ℕ) (l : List ℕ) (h id : ℕ) : Type 0 where
  pub served : (p v : ℕ) → p < n → v < 16 → part (black_at ℓ) (word_of n id) p v ≡ 1 → Serves n ℓ l h id (AtPlace p)
  pub placed : (p d : ℕ) → p < n → d < 8 → part (black_at ℓ) (word_of n id) p d ≡ 1 → Serves n ℓ l h id (OfValue d)

-- Line ℓ at h: all strikes before h are handled.
pub record Arc (n ℓ : ℕ) (l : List ℕ) (h : ℕ) : Type 0 where
  pub tallied : Tallied n ℓ (lives l ℓ) l
  pub alive : (j : ℕ) → j < lives l ℓ → Alive n ℓ l h (live l ℓ j)

-- ---- why arrangements and candidates go

-- The arrangement is live in the state's table.
abbrev pub LiveIn : ℕ → ℕ → List ℕ → ℕ → Type 0
LiveIn n ℓ l id = Live n (black_at ℓ) (places (table_in l) (line_at ℓ)) (arrangement_of n id)

-- It is dead, if it is not.
pub record DeadArrangement (n ℓ : ℕ) (l : List ℕ) (id : ℕ) : Type 0 where
  pub dead : LiveIn n ℓ l id → ⊥

-- An arrangement is among the first len of the list.
pub record Listed (ℓ len : ℕ) (l : List ℕ) (id : ℕ) : Type 0 where
  pub index : ℕ
  pub among : index < len
  pub is : live l ℓ index ≡ id

-- Whatever was live still is, or is dead.
unfoldable pub Fewer : ℕ → ℕ → ℕ → List ℕ → ℕ → List ℕ → Type 0
Fewer n ℓ len l len' l' = (j : ℕ) → j < len → Listed ℓ len' l' (live l ℓ j) ⊎ DeadArrangement n ℓ l' (live l ℓ j)

-- Whatever is live was live.
unfoldable pub Older : ℕ → ℕ → List ℕ → ℕ → List ℕ → Type 0
Older ℓ len l len' l' = (j : ℕ) → j < len' → Listed ℓ len l (live l' ℓ j)

-- The arrangement is live in each table that has all candidates of K.
abbrev pub Held : ℕ → ℕ → (ℕ → ℕ → Bool) → ℕ → Type 0
Held n ℓ K id = (l : List ℕ) → ((x v : ℕ) → v < 16 → K x v ≡ true → cand l x v ≡ 1) → LiveIn n ℓ l id

-- One of the first len of the list has the value v at place p, and K keeps it alive.
abbrev pub Backs : ℕ → ℕ → ℕ → List ℕ → (ℕ → ℕ → Bool) → ℕ → ℕ → Type 0
Backs n ℓ len l K p v = (j : ℕ) × (j < len) × (part (black_at ℓ) (word_of n (live l ℓ j)) p v ≡ 1) × Held n ℓ K (live l ℓ j)

-- The first len of the list hold K: the table has all of K, and what K has in the line lies in one of them that K keeps alive. (`Fewer` and `Unsupported` speak
-- of the state after the step, so they do not show that nothing of a stable table is lost. This does, with its values as K.)
pub record Holding (n ℓ len : ℕ) (l : List ℕ) (K : ℕ → ℕ → Bool) : Type 0 where
  pub has : (x v : ℕ) → v < 16 → K x v ≡ true → cand l x v ≡ 1
  pub uses : (p v : ℕ) → p < n → v < 16 → HalfOf (black_at ℓ) v → K (cell_at ℓ p) v ≡ true → Backs n ℓ len l K p v

-- The value v of the cell x lies in no live arrangement of one of its lines.
pub record Unsupported (n : ℕ) (l : List ℕ) (x v : ℕ) : Type 0 where
  pub line : ℕ
  pub of : LineOf n line
  pub at : ℕ
  pub within : at < n
  pub there : x ≡ cell_at line at
  pub half : HalfOf (black_at line) v
  pub none : support l (line * 9 + at) v ≡ 0

-- From l to l' arrangements died, and candidates were struck that had no support left.
pub record Pruned (n : ℕ) (l l' : List ℕ) : Type 0 where
  pub moved : Moved l l' lengths_at slab_size
  pub sinks : (y v : ℕ) → y < 162 → v < 16 → support l' y v ≤ support l y v
  pub fewer : (ℓ : ℕ) → LineOf n ℓ → Fewer n ℓ (lives l ℓ) l (lives l' ℓ) l'
  pub older : (ℓ : ℕ) → LineOf n ℓ → Older ℓ (lives l ℓ) l (lives l' ℓ) l'
  pub holds : (K : ℕ → ℕ → Bool) → ((ℓ : ℕ) → LineOf n ℓ → Holding n ℓ (lives l ℓ) l K) → (ℓ : ℕ) → LineOf n ℓ → Holding n ℓ (lives l' ℓ) l' K
  pub struck : (x v : ℕ) → v < 16 → cand l x v ≡ 1 → cand l' x v ≡ 0 → Unsupported n l' x v

-- ---- handling a strike

-- What it needs: the strike of the candidate v of row r and column c was made.
pub record ArcAsk (n : ℕ) (l : List ℕ) (r c v : ℕ) : Type 0 where
  pub ready : Ready n l
  pub row : r < n
  pub column : c < n
  pub value : ValueOf n v
  pub gone : cand l (r * 9 + c) v ≡ 0
  pub tallied : (ℓ : ℕ) → LineOf n ℓ → Tallied n ℓ (lives l ℓ) l

-- What it gives: if the strike was the next one, at h, then all lines go from h to h + 1.
pub record ArcDone (n : ℕ) (l l' : List ℕ) (r c v : ℕ) : Type 0 where
  pub pruned : Pruned n l l'
  pub tallied : (ℓ : ℕ) → LineOf n ℓ → Tallied n ℓ (lives l' ℓ) l'
  pub arcs : (h : ℕ) → Next l h (r * 9 + c) v → ((ℓ : ℕ) → LineOf n ℓ → Arc n ℓ l h) → (ℓ : ℕ) → LineOf n ℓ → Arc n ℓ l' (h + 1)
