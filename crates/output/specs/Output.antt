-- What a writer holds after a write that failed. The bytes that a writer holds are known or not (`None`). Assumes nothing.
use Rattle.std.specs.Prelude.{ℕ, ◌≡◌, List, ◌++◌, Option}
use Rattle.std.specs.Io.KnownBytes.{Appends}

-- Only a beginning of the bytes is written.
pub record StartsOut (w w' : Option (List ℕ)) (bytes : List ℕ) : Type 0 where
  pub text : List ℕ
  pub cut : List ℕ
  pub whole : bytes ≡ text ++ cut
  pub writes : Appends w w' text
