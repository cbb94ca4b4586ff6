-- Setting a cell: which candidates are struck, and what is asked. Assumes nothing.
use Rattle.std.specs.Prelude.{ℕ, ◌+◌, ◌/◌, ◌%◌, ◌≤◌, ◌<◌, ◌≡◌, true, ◌≢◌, ◌⊎◌, List}
use Rattle.bits.specs.Bit.{bit}
use Rattle.table.specs.Steps.{strikes}
use Rattle.table.specs.Table.{in_column, in_row, same_half}
use Rattle.lane.specs.Lanes.{lane_value}
use Rattle.lane.specs.declared.Lane.{Lane}
use Rattle.queue_state.specs.Ready.{Ready}
use Rattle.table.specs.Value.{ValueOf}
use Rattle.set_cell.specs.Places.{At}

-- Setting the cell of row r and column c to v strikes the candidate w of the cell at place x.
abbrev pub SetHit : ℕ → ℕ → ℕ → ℕ → ℕ → Type 0
SetHit r c v x w = strikes r c v (x / 9) (x % 9) w ≡ true

-- What set_cell asks.
pub record SetAsk (n : ℕ) (l : List ℕ) (r c v : ℕ) : Type 0 where
  pub ready : Ready n l
  pub row : r < n
  pub column : c < n
  pub value : ValueOf n v

-- The strikes of its parts: a value of a line's half at the other places of the line, and, of a black, blacks that are out of order.
abbrev pub Others : Lane → ℕ → ℕ → ℕ → ℕ → Type 0
Others lane i v x w = (lane_value lane.first v ≡ true) × At lane (λ p. p ≢ i) v x w

-- What a black leaves out of a line: second blacks before it and first blacks behind it.
abbrev pub Around : Lane → ℕ → ℕ → ℕ → Type 0
Around lane i x w = At lane (λ p. p < i) (lane.first + 1) x w ⊎ At lane (λ p. i < p) lane.first x w

-- A mask of the other values of the half of v.
pub record RestOfHalf (v m : ℕ) : Type 0 where
  pub only : (w : ℕ) → w < 16 → bit w m ≡ 1 → (w ≢ v) × (same_half v w ≡ true)
  pub each : (w : ℕ) → 1 ≤ w → w < 12 → w ≢ v → same_half v w ≡ true → bit w m ≡ 1

-- The strikes of setting a cell, one kind at a time.
pub data Hits (r c v i j w : ℕ) : Type 0 where
  along_row : i ≡ r → j ≢ c → in_row v ≡ true → w ≡ v → Hits r c v i j w
  along_column : j ≡ c → i ≢ r → in_column v ≡ true → w ≡ v → Hits r c v i j w
  in_cell : i ≡ r → j ≡ c → w ≢ v → same_half v w ≡ true → Hits r c v i j w
  to_left : 8 ≤ v → i ≡ r → j < c → w ≡ 9 → Hits r c v i j w
  to_right : 8 ≤ v → i ≡ r → c < j → w ≡ 8 → Hits r c v i j w
  above : 8 ≤ v → j ≡ c → i < r → w ≡ 11 → Hits r c v i j w
  below : 8 ≤ v → j ≡ c → r < i → w ≡ 10 → Hits r c v i j w
