-- Striking a value at places of a line. Assumes nothing.
use Rattle.std.specs.Prelude.{ℕ, ◌+◌, ◌*◌, ◌<◌, ◌≡◌, List}
use Rattle.bits.specs.Bit.{bit}
use Rattle.lane.specs.declared.Lane.{Lane}
use Rattle.queue_state.specs.Slab.{Sized, Struck}

-- The value v at those of the nine places of a line, whatever its length, that are in P.
pub record At (lane : Lane) (P : ℕ → Type 0) (v x w : ℕ) : Type 0 where
  pub place : ℕ
  pub narrow : place < 9
  pub among : P place
  pub there : x ≡ lane.start + place * lane.stride
  pub value : w ≡ v

-- The places of a mask.
abbrev pub InMask : ℕ → ℕ → Type 0
InMask m p = bit p m ≡ 1

-- A state in which a value can be struck at the places of a mask, which has nine bits at most.
pub record MaskAsk (l : List ℕ) (m v : ℕ) : Type 0 where
  pub sized : Sized l
  pub few : m < 512
  pub value : v < 16

-- A state in which a value can be struck around a place.
pub record PlaceAsk (l : List ℕ) (i v : ℕ) : Type 0 where
  pub sized : Sized l
  pub place : i < 9
  pub value : v < 16

-- v is struck at the places of the mask m that are not in the rest of it.
pub record Running (l₀ l : List ℕ) (lane : Lane) (m rest v : ℕ) : Type 0 where
  pub within : (p : ℕ) → bit p rest ≡ 1 → bit p m ≡ 1
  pub struck : Struck l₀ l (At lane (λ p. (bit p m ≡ 1) × (bit p rest ≡ 0)) v)
