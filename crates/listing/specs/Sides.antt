-- The two sides of a target, as the code names them. Assumes nothing.
use Rattle.std.specs.Prelude.{ℕ, ◌+◌, ◌≤◌, ◌<◌, ◌↔◌, Bool, true, false, IsTrue}
use Rattle.std.specs.declared.ops.Range.{Range}
use Rattle.words.specs.Word.{on_side}
use Rattle.listing.specs.declared.Side.{Side}
use Rattle.listing.specs.declared.Side.TheVariants.{Inside, Outside}

-- It is the outside one.
abbrev pub is_outside : Side → Bool
is_outside Inside = false
is_outside Outside = true

-- From the starts in the range, and from no others, arrangements with len digits are on the side.
pub record StartsAre (n len : ℕ) (outside : Bool) (starts : Range ℕ) : Type 0 where
  pub within : starts.end ≤ n
  pub exact : (i : ℕ) → i < n → IsTrue (on_side n outside (i + len + 2)) ↔ (starts.start ≤ i) × (i < starts.end)
