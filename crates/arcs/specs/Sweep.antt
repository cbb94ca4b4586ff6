-- A sweep over the live arrangements of one line. Assumes nothing.
use Rattle.std.specs.Prelude.{ℕ, ◌+◌, ◌*◌, ◌/◌, ◌≤◌, ◌<◌, ◌≡◌, Bool, List, get_or}
use Rattle.queue_state.specs.Layout.{counters_at, lengths_at, per_line, live_place, support_place}
use Rattle.queue_state.specs.Slab.{cand, Grown}
use Rattle.queue_state.specs.Ready.{Ready, Next}
use Rattle.lane.specs.declared.Lane.{Lane}
use Rattle.words.specs.Word.{word_of, part}
use Rattle.arcs.specs.Arc.{lives, live, support, Tallied, Alive, Fewer, Older, Holding, Unsupported}
use Rattle.table.specs.Value.{HalfOf}
use Rattle.table.specs.Lines.{cell_at, black_at}

-- ---- one arrangement leaves

-- Arrangement i of the first len + 1 of a line's list is to leave, and w is its word.
pub record RemoveAsk (lane : Lane) (i len w : ℕ) (l : List ℕ) : Type 0 where
  pub ready : Ready lane.len l
  pub tallied : Tallied lane.len lane.number (len + 1) l
  pub listed : i ≤ len
  pub word : w ≡ word_of lane.len (live l lane.number i)

-- The value v of the cell x lies in no live arrangement of line ℓ.
pub record UnsupportedIn (n ℓ : ℕ) (l : List ℕ) (x v : ℕ) : Type 0 where
  pub at : ℕ
  pub within : at < n
  pub there : x ≡ cell_at ℓ at
  pub half : HalfOf (black_at ℓ) v
  pub none : support l (ℓ * 9 + at) v ≡ 0

-- Besides the list and the supports of line ℓ nothing moves but strikes, supports only fall, and what is struck has none.
pub record LineMoved (n ℓ : ℕ) (l l' : List ℕ) : Type 0 where
  pub grown : Grown l l'
  pub rest : (k : ℕ) → counters_at ≤ k → ((j : ℕ) → j < per_line → (k ≡ live_place ℓ j → ⊥)) →
      ((y v : ℕ) → y < 162 → v < 16 → (k ≡ support_place y v → ⊥)) → get_or l' k 0 ≡ get_or l k 0
  pub others : (y v : ℕ) → y < 162 → v < 16 → (y / 9 ≡ ℓ → ⊥) → support l' y v ≡ support l y v
  pub sinks : (y v : ℕ) → y < 162 → v < 16 → support l' y v ≤ support l y v
  pub struck : (x v : ℕ) → v < 16 → cand l x v ≡ 1 → cand l' x v ≡ 0 → UnsupportedIn n ℓ l' x v

-- The arrangement at i is gone, and the one at len is in its place. What stands behind the len that are left is not said.
pub record Removed (n ℓ i len : ℕ) (l l' : List ℕ) : Type 0 where
  pub within : LineMoved n ℓ l l'
  pub here : live l' ℓ i ≡ live l ℓ len
  pub stays : (j : ℕ) → j < len → (j ≡ i → ⊥) → live l' ℓ j ≡ live l ℓ j
  pub tallied : Tallied n ℓ len l'

-- ---- the sweep

-- The arrangement outlives the strike of the value v at place p: it has not that value there, or has, as candidates, another there and the value at another
-- place.
pub data Outlives (n ℓ : ℕ) (l : List ℕ) (p v id : ℕ) : Type 0 where
  untouched : part (black_at ℓ) (word_of n id) p v ≡ 0 → Outlives n ℓ l p v id
  backed : (u q : ℕ) → u < 16 → part (black_at ℓ) (word_of n id) p u ≡ 1 → cand l (cell_at ℓ p) u ≡ 1 →
      q < n → part (black_at ℓ) (word_of n id) q v ≡ 1 → cand l (cell_at ℓ q) v ≡ 1 → Outlives n ℓ l p v id

-- Those before i are alive at h + 1, those from i on at h.
pub record Aging (n ℓ : ℕ) (l : List ℕ) (h i len : ℕ) : Type 0 where
  pub done : (j : ℕ) → j < i → Alive n ℓ l (h + 1) (live l ℓ j)
  pub todo : (j : ℕ) → i ≤ j → j < len → Alive n ℓ l h (live l ℓ j)

-- All arrangements of the line are alive at h.
unfoldable pub AllAlive : ℕ → ℕ → List ℕ → ℕ → Type 0
AllAlive n ℓ l h = (j : ℕ) → j < lives l ℓ → Alive n ℓ l h (live l ℓ j)

-- What the sweep of a line for the strike of v at place p needs.
pub record SweepAsk (lane : Lane) (p v : ℕ) (l : List ℕ) : Type 0 where
  pub ready : Ready lane.len l
  pub place : p < lane.len
  pub narrow : v < 16
  pub half : HalfOf (black_at lane.number) v
  pub gone : cand l (cell_at lane.number p) v ≡ 0
  pub tallied : Tallied lane.len lane.number (lives l lane.number) l

-- The first i of len arrangements are swept.
pub record Sweeping (n ℓ p v : ℕ) (l₀ l : List ℕ) (i len : ℕ) : Type 0 where
  pub among : i ≤ len
  pub within : LineMoved n ℓ l₀ l
  pub tallied : Tallied n ℓ len l
  pub fewer : Fewer n ℓ (lives l₀ ℓ) l₀ len l
  pub older : Older ℓ (lives l₀ ℓ) l₀ len l
  pub holds : (K : ℕ → ℕ → Bool) → Holding n ℓ (lives l₀ ℓ) l₀ K → Holding n ℓ len l K
  pub aging : (h : ℕ) → Next l₀ h (cell_at ℓ p) v → AllAlive n ℓ l₀ h → Aging n ℓ l h i len

-- All of them are; len are left, and their number is not yet stored.
abbrev pub Swept : ℕ → ℕ → ℕ → ℕ → List ℕ → List ℕ → ℕ → Type 0
Swept n ℓ p v l₀ l len = Sweeping n ℓ p v l₀ l len len

-- ---- a line is handled

-- What handling the strike of v at place p of a line needs, where v may be a value of the other half.
pub record LineAsk (lane : Lane) (p v : ℕ) (l : List ℕ) : Type 0 where
  pub ready : Ready lane.len l
  pub place : p < lane.len
  pub narrow : v < 16
  pub gone : cand l (cell_at lane.number p) v ≡ 0
  pub tallied : Tallied lane.len lane.number (lives l lane.number) l

-- The list and supports of line m are as they were.
pub record Same (m : ℕ) (l l' : List ℕ) : Type 0 where
  pub count : lives l' m ≡ lives l m
  pub list : (j : ℕ) → j < per_line → live l' m j ≡ live l m j
  pub tally : (p v : ℕ) → p < 9 → v < 16 → support l' (m * 9 + p) v ≡ support l (m * 9 + p) v

-- The value v was struck at place p of line ℓ, and the line is done with it: what moved, what was struck, and what stays of its arrangements.
pub record LineDone (n ℓ p v : ℕ) (l l' : List ℕ) : Type 0 where
  pub grown : Grown l l'
  pub rest : (k : ℕ) → counters_at ≤ k → k < lengths_at → get_or l' k 0 ≡ get_or l k 0
  pub others : (m : ℕ) → m < 18 → (m ≡ ℓ → ⊥) → Same m l l'
  pub sinks : (y u : ℕ) → y < 162 → u < 16 → support l' y u ≤ support l y u
  pub struck : (x u : ℕ) → u < 16 → cand l x u ≡ 1 → cand l' x u ≡ 0 → Unsupported n l' x u
  pub tallied : Tallied n ℓ (lives l' ℓ) l'
  pub fewer : Fewer n ℓ (lives l ℓ) l (lives l' ℓ) l'
  pub older : Older ℓ (lives l ℓ) l (lives l' ℓ) l'
  pub holds : (K : ℕ → ℕ → Bool) → Holding n ℓ (lives l ℓ) l K → Holding n ℓ (lives l' ℓ) l' K
  pub alive : (h : ℕ) → Next l h (cell_at ℓ p) v → AllAlive n ℓ l h → AllAlive n ℓ l' (h + 1)
