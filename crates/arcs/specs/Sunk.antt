-- Supports that fall, and the strikes that follow. Assumes nothing.
use Rattle.std.specs.Prelude.{ℕ, ◌+◌, ◌*◌, ◌/◌, ◌%◌, min, ◌≤◌, ◌<◌, ◌≡◌, List, get_or}
use Rattle.bits.specs.Bit.{bit}
use Rattle.bits.specs.Sum.{same}
use Rattle.queue_state.specs.Layout.{counters_at, support_place}
use Rattle.queue_state.specs.Slab.{cand, Sized, Grown}
use Rattle.lane.specs.declared.Lane.{Lane}
use Rattle.arcs.specs.Arc.{support}
use Rattle.table.specs.Lines.{cell_at}

-- The cell of the place y of a line: y is line * 9 + place.
unfoldable pub cell_of_place : ℕ → ℕ
cell_of_place y = cell_at (y / 9) (y % 9)

-- A candidate was struck since the support of one of its places fell to 0.
pub record Lost (D : ℕ → ℕ → ℕ) (l : List ℕ) (x v : ℕ) : Type 0 where
  pub slot : ℕ
  pub within : slot < 162
  pub there : x ≡ cell_of_place slot
  pub fell : 0 < D slot v
  pub none : support l slot v ≡ 0

-- The support of each place y and value v falls by D y v, a candidate whose support falls to 0 is struck, and nothing else moves.
pub record Sunk (D : ℕ → ℕ → ℕ) (l l' : List ℕ) : Type 0 where
  pub grown : Grown l l'
  pub rest : (i : ℕ) → counters_at ≤ i → ((y v : ℕ) → y < 162 → v < 16 → (i ≡ support_place y v → ⊥)) → get_or l' i 0 ≡ get_or l i 0
  pub falls : (y v : ℕ) → y < 162 → v < 16 → support l' y v + D y v ≡ support l y v
  pub backed : (y v : ℕ) → y < 162 → v < 16 → 0 < D y v → support l' y v ≡ 0 → cand l' (cell_of_place y) v ≡ 0
  pub only : (x v : ℕ) → v < 16 → cand l x v ≡ 1 → cand l' x v ≡ 0 → Lost D l' x v

-- One value of one place.
abbrev pub single : ℕ → ℕ → ℕ → ℕ → ℕ
single place value y v = min (same y place) (same v value)

-- The values of a mask at one place.
abbrev pub masked : ℕ → ℕ → ℕ → ℕ → ℕ
masked place mask y v = min (same y place) (bit v mask)

-- The support of the value v at place p of a line can fall: it is not 0.
pub record DropAsk (lane : Lane) (p v : ℕ) (l : List ℕ) : Type 0 where
  pub sized : Sized l
  pub place : p < 9
  pub value : v < 16
  pub positive : 0 < support l (lane.number * 9 + p) v

-- The values of a mask have a support at place p of a line.
pub record DigitsAsk (lane : Lane) (p mask : ℕ) (l : List ℕ) : Type 0 where
  pub sized : Sized l
  pub place : p < 9
  pub enough : (v : ℕ) → v < 16 → bit v mask ≤ support l (lane.number * 9 + p) v
