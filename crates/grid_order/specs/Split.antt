-- A list split at one of its elements. Assumes nothing.
use Rattle.std.specs.Prelude.{◌≡◌}
use mathlib.Core.List.{List, ◌∷◌, ◌++◌, Memᴰ}

-- The list has x, and P holds of the elements before it.
pub record Split {A : Type 0} (x : A) (xs : List A) (P : A → Type 0) : Type 0 where
  pub before : List A
  pub behind : List A
  pub whole : xs ≡ before ++ x ∷ behind
  pub each : (y : A) → Memᴰ y before → P y
