-- The tests of the sweep for a digit: which places of the line still have it, and whether an arrangement outlives the strike. Assumes nothing.
use Rattle.std.specs.Prelude.{ℕ, ◌+◌, ◌*◌, ◌≤◌, ◌<◌, ◌^◌, ◌≡◌, ◌⊎◌, Bool, true, false, List, get_or}
use Rattle.std.specs.Int.Bits.{bit_and, bit_or}
use Rattle.bits.specs.Bit.{bit}
use Rattle.lane.specs.declared.Lane.{Lane}
use Rattle.queue_state.specs.Slab.{Sized}
use Rattle.words.specs.Word.{set_of, inner_of}

-- The places before p that have the value v are those of the mask have.
unfoldable pub Have : Lane → ℕ → List ℕ → ℕ → ℕ → Type 0
Have lane v l p have = (q : ℕ) → q < p → bit v (get_or l (lane.start + q * lane.stride) 0) ≡ bit q have

-- A state with its line masks, a value, and a line of at most nine places.
pub record HavingAsk (lane : Lane) (v : ℕ) (l : List ℕ) : Type 0 where
  pub sized : Sized l
  pub value : v < 16
  pub few : lane.len ≤ 9

-- An arrangement is kept if it has not the struck digit at the struck place, or an inner place of it still has the digit and the cell another digit of its
-- set; one that goes has the digit there, and no inner place that has it, or no digit of its set in the cell.
pub record Tested (w test have cands : ℕ) (r : Bool) : Type 0 where
  pub keeps : r ≡ true → bit_and w test ≡ test → (bit_and (inner_of w) have ≡ 0 → ⊥) × (bit_and cands (set_of w) ≡ 0 → ⊥)
  pub drops : r ≡ false → (bit_and w test ≡ test) × ((bit_and (inner_of w) have ≡ 0) ⊎ (bit_and cands (set_of w) ≡ 0))

-- The bits of digit v and of the inner place p.
abbrev pub test_of : ℕ → ℕ → ℕ
test_of v p = bit_or (2 ^ v) (2 ^ (8 + p))
