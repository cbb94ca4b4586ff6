-- The state as a list of numbers: the candidates, the queue, and what strikes do to them. Assumes nothing.
use Rattle.std.specs.Prelude.{ℕ, ◌+◌, ◌-◌, ◌*◌, ◌/◌, ◌%◌, ◌^◌, ◌≤◌, ◌<◌, ◌≡◌, cond, List, eqb, ltb, length, get_or, set}
use Rattle.bits.specs.Bit.{bit}
use Rattle.bits.specs.Sum.{sum_over, same}
use Rattle.table.specs.Lines.{cell_at}
use Rattle.table.specs.Table.{Table}
use Rattle.queue_state.specs.Layout.{queue_room, entry_place, tail_at, line_mask_place, counters_at, slab_size}

-- 1 where the cell at place x has the candidate v, else 0.
unfoldable pub cand : List ℕ → ℕ → ℕ → ℕ
cand l x v = cond (ltb x 81) (bit v (get_or l x 0)) 0

-- The candidate table of the state.
unfoldable pub table_in : List ℕ → Table
table_in l r c v = eqb (cand l (r * 9 + c) v) 1

-- How many strikes the queue has, and strike i: place * 16 + value.
abbrev pub tail : List ℕ → ℕ
tail l = get_or l tail_at 0

abbrev pub entry : List ℕ → ℕ → ℕ
entry l i = get_or l (entry_place i) 0

-- How often the strike e waits in the queue from h on.
unfoldable pub waits : List ℕ → ℕ → ℕ → ℕ
waits l h e = sum_over h (tail l - h) (λ (i : ℕ). same e (entry l i))

-- A candidate's lag: 1 if the cell has it, and how often its strike waits from h on. Strikes leave it as it is.
unfoldable pub lag : List ℕ → ℕ → ℕ → ℕ → ℕ
lag l h x v = cand l x v + waits l h (x * 16 + v)

-- Which places of line ℓ have the value v, as a mask.
abbrev pub line_mask : List ℕ → ℕ → ℕ → ℕ
line_mask l ℓ v = get_or l (line_mask_place ℓ v) 0

-- The line masks say what the table says: a place of a line has a value where its bit is set.
pub record Mirrored (l : List ℕ) : Type 0 where
  pub bits : (ℓ p v : ℕ) → ℓ < 18 → p < 9 → v < 16 → bit p (line_mask l ℓ v) ≡ cand l (cell_at ℓ p) v

-- How many candidates the cells have.
unfoldable pub candidates_left : List ℕ → ℕ
candidates_left l = sum_over 0 1296 (λ (k : ℕ). cand l (k / 16) (k % 16))

-- The state has its size, room in the queue for all candidates that are left, and line masks that are those of the table.
pub record Sized (l : List ℕ) : Type 0 where
  pub size : length l ≡ slab_size
  pub room : tail l + candidates_left l ≤ queue_room
  pub masks : Mirrored l

-- What every step keeps: the table only shrinks, what it loses waits in the queue, and the line masks follow it.
pub record Grown (l l' : List ℕ) : Type 0 where
  pub size : length l' ≡ length l
  pub balance : tail l' + candidates_left l' ≡ tail l + candidates_left l
  pub grows : tail l ≤ tail l'
  pub old : (i : ℕ) → i < tail l → entry l' i ≡ entry l i
  pub lags : (h x v : ℕ) → h ≤ tail l → v < 16 → lag l' h x v ≡ lag l h x v
  pub sub : (x v : ℕ) → v < 16 → cand l' x v ≤ cand l x v
  pub masks : Mirrored l → Mirrored l'

-- The candidates in Hit are struck, and nothing else moves.
pub record Struck (l l' : List ℕ) (Hit : ℕ → ℕ → Type 0) : Type 0 where
  pub grown : Grown l l'
  pub gone : (x v : ℕ) → v < 16 → Hit x v → cand l' x v ≡ 0
  pub only : (x v : ℕ) → v < 16 → cand l x v ≡ 1 → cand l' x v ≡ 0 → Hit x v
  pub rest : (p : ℕ) → counters_at ≤ p → get_or l' p 0 ≡ get_or l p 0

-- One candidate of one cell.
unfoldable pub One : ℕ → ℕ → ℕ → ℕ → Type 0
One cell value x v = (x ≡ cell) × (v ≡ value)

-- The candidates of a mask of one cell.
unfoldable pub Masked : ℕ → ℕ → ℕ → ℕ → Type 0
Masked cell mask x v = (x ≡ cell) × (bit v mask ≡ 1)

-- The cell has the candidate.
pub record StrikeAsk (l : List ℕ) (cell v : ℕ) : Type 0 where
  pub sized : Sized l
  pub place : cell < 81
  pub value : v < 16
  pub has : bit v (get_or l cell 0) ≡ 1

-- The state without place p in line ℓ's mask of the value v.
abbrev pub unmasked : List ℕ → ℕ → ℕ → ℕ → List ℕ
unmasked l ℓ p v = set l (line_mask_place ℓ v) (line_mask l ℓ v - 2 ^ p)

-- Line ℓ's mask of the value v has the bit of place p.
pub record UnmaskAsk (ℓ p v : ℕ) (l : List ℕ) : Type 0 where
  pub size : length l ≡ slab_size
  pub line : ℓ < 18
  pub value : v < 16
  pub place : p < 9
  pub has : bit p (line_mask l ℓ v) ≡ 1

-- A counter that is not 0.
pub record CounterAsk (l : List ℕ) (p : ℕ) : Type 0 where
  pub size : length l ≡ slab_size
  pub from : counters_at ≤ p
  pub to : p < slab_size
  pub positive : 0 < get_or l p 0
