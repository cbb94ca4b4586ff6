-- Filling the list of words, subset by subset. Assumes nothing.
use Rattle.std.specs.Prelude.{ℕ, ◌+◌, ◌-◌, ◌*◌, ◌^◌, ◌≤◌, ◌<◌, ◌≡◌, List, length, get_or, true}
use Rattle.subset_table.specs.Subsets.{subset, of_size}
use Rattle.words.specs.Word.{word_of}

-- the digits of subset s are of size n
pub record FillAsk (n s : ℕ) (ws : List ℕ) : Type 0 where
  pub among : s < 128
  pub digits : of_size n (subset s) ≡ true
  pub long : length ws ≡ 1152

-- the words of subset s from start 0 to start k - 1 are there, and those of the subsets before it stay
pub record Filling (n s k : ℕ) (ws₀ ws : List ℕ) : Type 0 where
  pub long : length ws ≡ 1152
  pub most : k ≤ n
  pub each : (i : ℕ) → i < k → get_or ws (s * 9 + i) 0 ≡ word_of n (s * 9 + i)
  pub old : (id : ℕ) → id < s * 9 → get_or ws id 0 ≡ get_or ws₀ id 0

-- All words of subset s are there.
abbrev pub WordsFilled : ℕ → ℕ → List ℕ → List ℕ → Type 0
WordsFilled n s ws₀ ws = Filling n s n ws₀ ws
