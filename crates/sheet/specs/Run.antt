-- What `sheet` does between a reader and a writer. The bytes that a reader has left and those that a writer holds are known or not (`None`). Assumes
-- nothing.
use Rattle.std.specs.Prelude.{ℕ, ◌≢◌, ◌⊎◌, List, [], ◌++◌, Option}
use Rattle.std.specs.IoError.{error_kind}
use Rattle.std.specs.declared.io.ErrorKind.TheVariants.{Interrupted}
use Rattle.std.specs.Io.KnownBytes.{Appends, Consumes, IsAtEnd}
use Rattle.sheet.specs.declared.Failure.{Failure}
use Rattle.sheet.specs.declared.Failure.TheVariants.{Read, Write}
use Rattle.text_rules.specs.Stream.{Written, Streamed}
use Rattle.text_stream.specs.declared.Stream.{Stream}
use Rattle.text_stream.specs.Stream.{After}

-- What the program is told of a read: that it failed, and not because a signal interrupted it.
abbrev pub ReadFailed : Failure → Type 0
ReadFailed (Read e) = error_kind e ≢ Interrupted
ReadFailed (Write e) = ⊥

-- The lines that end in what is read are answered.
pub record LinesAnswered (r r' w w' : Option (List ℕ)) (s : Stream) : Type 0 where
  pub input : List ℕ
  pub text : List ℕ
  pub reads : Consumes r r' input
  pub writes : Appends w w' text
  pub after : After s input text

-- The whole input is read, and its whole output is written.
pub record AllAnswered (r r' w w' : Option (List ℕ)) : Type 0 where
  pub input : List ℕ
  pub output : List ℕ
  pub reads : Consumes r r' input
  pub at_end : IsAtEnd r'
  pub writes : Appends w w' output
  pub streams : Streamed input output

-- The output for what is read: for the lines that are ended in it, or for a whole input.
abbrev pub Outputs : List ℕ → List ℕ → Type 0
Outputs input output = ((left : List ℕ) × Written [] input left output) ⊎ Streamed input output

-- What is written is a beginning of the output for what is read.
pub record PartAnswered (r r' w w' : Option (List ℕ)) : Type 0 where
  pub input : List ℕ
  pub text : List ℕ
  pub cut : List ℕ
  pub reads : Consumes r r' input
  pub writes : Appends w w' text
  pub outputs : Outputs input (text ++ cut)
