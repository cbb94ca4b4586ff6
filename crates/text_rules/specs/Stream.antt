-- A stream of bytes, cut into lines, and what is written for them. Assumes nothing.
use Rattle.std.specs.Prelude.{ℕ, ◌≡◌, List, [], ◌∷◌, ◌++◌}
use Rattle.text_rules.specs.Answered.{Answered}

-- The byte that ends a line.
abbrev pub line_end : ℕ
line_end = 10

-- The input goes on with a line that has begun. The output holds, for each line that is ended in the input, a text that answers it, and a line end;
-- what stands behind the last line end is left.
pub data Written (begun : List ℕ) : (input left output : List ℕ) → Type 0 where
  nothing : Written begun [] begun []
  byte : {i p o : List ℕ} (b : ℕ) → (b ≡ line_end → ⊥) → Written begun i p o → Written begun (i ++ b ∷ []) (p ++ b ∷ []) o
  ended : {i p o : List ℕ} (text : List ℕ) → Answered p text → Written begun i p o →
      Written begun (i ++ line_end ∷ []) [] (o ++ (text ++ line_end ∷ []))

-- What is written for a line that the input leaves without a line end: nothing if it is empty, else a text that answers it, and a line end.
pub data LastWritten (left : List ℕ) : (output : List ℕ) → Type 0 where
  none : left ≡ [] → LastWritten left []
  last : (text : List ℕ) → (left ≡ [] → ⊥) → Answered left text → LastWritten left (text ++ line_end ∷ [])

-- A whole input and its whole output: the answers to the lines that are ended in it, and then what is written for the line that is left.
pub data Streamed (input : List ℕ) : (output : List ℕ) → Type 0 where
  streamed : {left o l : List ℕ} → Written [] input left o → LastWritten left l → Streamed input (o ++ l)
