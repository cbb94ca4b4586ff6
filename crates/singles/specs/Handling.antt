-- What a handler of a strike asks and gives. Assumes nothing.
use Rattle.std.specs.Prelude.{ℕ, ◌+◌, ◌*◌, ◌≤◌, ◌<◌, ◌≡◌, Bool, ◌&&◌, List, Option, Some, None, leb, ltb}
use Rattle.rules.specs.Grid.{Line, across, down, index}
use Rattle.queue_state.specs.Layout.{row_half_at, places_at, row_blacks_at, lengths_at}
use Rattle.queue_state.specs.Slab.{cand, Sized}
use Rattle.queue_state.specs.Ready.{Ready, Next, Moved}
use Rattle.table.specs.Value.{ValueOf}
use Rattle.counters.specs.Counters.{in_line, halves_base, places_base, blacks_base, own_black, HalvesOf, PlacesOf, BlacksOf, Halves, LinePlaces, Blacks}
use Rattle.table.specs.Lines.{cell_of}
use Rattle.singles.specs.Reasons.{Steps}

-- The strike at h, of the value v of the cell of row r and column c, is handled.
pub record Handling (n : ℕ) (l : List ℕ) (r c v h : ℕ) : Type 0 where
  pub ready : Ready n l
  pub row : r < n
  pub column : c < n
  pub value : ValueOf n v
  pub next : Next l h (r * 9 + c) v

-- The mask of a line's half.
abbrev pub half_mask : Line → ℕ
half_mask (across r) = 1022
half_mask (down c) = 3326

-- The half of place i of a line: its counter and mask, and the strike of v that its counters have next.
pub record HalfAt (n : ℕ) (l : List ℕ) (own : Bool) (counter x mask : ℕ) (ℓ : Line) (i h v : ℕ) : Type 0 where
  pub line : index ℓ < n
  pub place : i < n
  pub there : x ≡ cell_of ℓ i
  pub at_counter : counter ≡ halves_base ℓ + x
  pub at_mask : mask ≡ half_mask ℓ
  pub value : ValueOf n v
  pub owned : own ≡ in_line ℓ v
  pub next : Next l h x v
  pub halves : HalvesOf ℓ n l h

-- A half whose counter is to fall.
pub record HalfAsk (n : ℕ) (l : List ℕ) (own : Bool) (counter x mask : ℕ) : Type 0 where
  pub ready : Ready n l
  pub line : Line
  pub place : ℕ
  pub head : ℕ
  pub value : ℕ
  pub half : HalfAt n l own counter x mask line place head value

-- Its counter fell: the strike is handled in this half, and each step had a reason.
pub record HalfDone (n : ℕ) (l l' : List ℕ) (own : Bool) (counter x mask : ℕ) : Type 0 where
  pub moved : Moved l l' counter (counter + 1)
  pub steps : Steps n l l'
  pub halves : (ℓ : Line) (i h v : ℕ) → HalfAt n l own counter x mask ℓ i h v → HalvesOf ℓ n l' (h + 1)

-- A strike that the halves have next.
pub record SingletonAsk (n : ℕ) (l : List ℕ) (r c v : ℕ) : Type 0 where
  pub head : ℕ
  pub strike : Handling n l r c v head
  pub halves : Halves n l head

-- It is handled in both halves of its cell.
pub record SingletonDone (n : ℕ) (l l' : List ℕ) (r c v : ℕ) : Type 0 where
  pub moved : Moved l l' row_half_at places_at
  pub steps : Steps n l l'
  pub halves : (h : ℕ) → Next l h (r * 9 + c) v → Halves n l h → Halves n l' (h + 1)

-- The value v can be looked for at n places of a line.
pub record FindAsk (l : List ℕ) (n v : ℕ) : Type 0 where
  pub sized : Sized l
  pub value : v < 16
  pub few : n ≤ 9

-- A place of the line that has the candidate v, or none of its places has it.
abbrev pub PlaceFound : List ℕ → ℕ → ℕ → ℕ → ℕ → Option ℕ → Type 0
PlaceFound l n start stride v (Some p) = (p < n) × (cand l (start + p * stride) v ≡ 1)
PlaceFound l n start stride v None = (j : ℕ) → j < n → cand l (start + j * stride) v ≡ 0

-- A line by its start and stride, the counter of v in it, and the strike of v at place i that its counters have next.
pub record PlacesAt (n : ℕ) (l : List ℕ) (own : Bool) (counter start stride v : ℕ) (ℓ : Line) (i h : ℕ) : Type 0 where
  pub line : index ℓ < n
  pub place : i < n
  pub along : (j : ℕ) → start + j * stride ≡ cell_of ℓ j
  pub at_counter : counter ≡ places_base ℓ + (index ℓ * 16 + v)
  pub value : ValueOf n v
  pub owned : own ≡ in_line ℓ v
  pub next : Next l h (cell_of ℓ i) v
  pub places : PlacesOf ℓ n l h

-- A value of a line whose counter is to fall.
pub record PlacesAsk (n : ℕ) (l : List ℕ) (own : Bool) (counter start stride v : ℕ) : Type 0 where
  pub ready : Ready n l
  pub line : Line
  pub place : ℕ
  pub head : ℕ
  pub counted : PlacesAt n l own counter start stride v line place head

-- Its counter fell: the strike is handled in this line, and each step had a reason.
pub record PlacesDone (n : ℕ) (l l' : List ℕ) (own : Bool) (counter start stride v : ℕ) : Type 0 where
  pub moved : Moved l l' counter (counter + 1)
  pub steps : Steps n l l'
  pub places : (ℓ : Line) (i h : ℕ) → PlacesAt n l own counter start stride v ℓ i h → PlacesOf ℓ n l' (h + 1)

-- A strike that the places of the lines have next.
pub record HiddenAsk (n : ℕ) (l : List ℕ) (r c v : ℕ) : Type 0 where
  pub head : ℕ
  pub strike : Handling n l r c v head
  pub places : LinePlaces n l head

-- It is handled in both lines of its cell.
pub record HiddenDone (n : ℕ) (l l' : List ℕ) (r c v : ℕ) : Type 0 where
  pub moved : Moved l l' places_at row_blacks_at
  pub steps : Steps n l l'
  pub places : (h : ℕ) → Next l h (r * 9 + c) v → LinePlaces n l h → LinePlaces n l' (h + 1)

-- One of the blacks k and k + 1.
abbrev pub black_of : ℕ → ℕ → Bool
black_of k v = leb k v && ltb v (k + 2)

-- The mask of the blacks of the line across.
abbrev pub cross_mask : Line → ℕ
cross_mask (across r) = 3072
cross_mask (down c) = 768

-- The blacks of place i of a line: their counter, the mask of the others, and the strike of v that their counters have next.
pub record BlacksAt (n : ℕ) (l : List ℕ) (own : Bool) (counter x mask : ℕ) (ℓ : Line) (i h v : ℕ) : Type 0 where
  pub line : index ℓ < n
  pub place : i < n
  pub there : x ≡ cell_of ℓ i
  pub at_counter : counter ≡ blacks_base ℓ + x
  pub at_mask : mask ≡ cross_mask ℓ
  pub value : ValueOf n v
  pub owned : own ≡ black_of (own_black ℓ) v
  pub next : Next l h x v
  pub blacks : BlacksOf ℓ n l h

-- A cell's blacks of one kind whose counter is to fall.
pub record BlacksAsk (n : ℕ) (l : List ℕ) (own : Bool) (counter x mask : ℕ) : Type 0 where
  pub ready : Ready n l
  pub line : Line
  pub place : ℕ
  pub head : ℕ
  pub value : ℕ
  pub counted : BlacksAt n l own counter x mask line place head value

-- Their counter fell: the strike is handled for them, and each step had a reason.
pub record BlacksDone (n : ℕ) (l l' : List ℕ) (own : Bool) (counter x mask : ℕ) : Type 0 where
  pub moved : Moved l l' counter (counter + 1)
  pub steps : Steps n l l'
  pub blacks : (ℓ : Line) (i h v : ℕ) → BlacksAt n l own counter x mask ℓ i h v → BlacksOf ℓ n l' (h + 1)

-- A strike that the blacks have next.
pub record ConsistencyAsk (n : ℕ) (l : List ℕ) (r c v : ℕ) : Type 0 where
  pub head : ℕ
  pub strike : Handling n l r c v head
  pub blacks : Blacks n l head

-- It is handled for both kinds of blacks of its cell.
pub record ConsistencyDone (n : ℕ) (l l' : List ℕ) (r c v : ℕ) : Type 0 where
  pub moved : Moved l l' row_blacks_at lengths_at
  pub steps : Steps n l l'
  pub blacks : (h : ℕ) → Next l h (r * 9 + c) v → Blacks n l h → Blacks n l' (h + 1)
