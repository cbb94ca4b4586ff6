-- What feeding bytes gives. Assumes nothing.
use Rattle.std.specs.Prelude.{ℕ, ◌+◌, ◌≤◌, ◌≡◌, List, [], ◌∷◌, ◌++◌, length, take}
use Rattle.text_rules.specs.Answered.{Answered}
use Rattle.text_rules.specs.Stream.{line_end, Written}

-- What is kept are the first 81 bytes of the line, or all of a shorter one.
abbrev pub Keeps : List ℕ → List ℕ → Type 0
Keeps kept line = kept ≡ take 81 line

-- A text that answers the line, and a line end, are appended.
pub record LineEnded (line out out' : List ℕ) : Type 0 where
  pub text : List ℕ
  pub answers : Answered line text
  pub put : out' ≡ out ++ (text ++ line_end ∷ [])
  pub most : length out' ≤ length out + 101

-- The line that has begun, of which some bytes are kept, ends behind more of them: a text that answers it, and a line end, are appended.
pub record LineClosed (kept more out out' : List ℕ) : Type 0 where
  pub text : List ℕ
  pub answers : (begun : List ℕ) → Keeps kept begun → Answered (begun ++ more) text
  pub put : out' ≡ out ++ (text ++ line_end ∷ [])
  pub most : length out' ≤ length out + 101

-- The input goes on, behind the line that has begun: what is written for it is appended, and what is left of it is kept.
pub record GoesOn (begun input out kept' out' : List ℕ) : Type 0 where
  pub left : List ℕ
  pub output : List ℕ
  pub writes : Written begun input left output
  pub keeps : Keeps kept' left
  pub put : out' ≡ out ++ output
