-- The stream value: what it carries from block to block. Assumes nothing.
use Rattle.std.specs.Prelude.{ℕ, ◌≤◌, ◌≡◌, List, [], ◌++◌, length, take}
use Rattle.text_rules.specs.Stream.{Written, Streamed}
use Rattle.text_stream.specs.declared.Stream.{Stream}
use Rattle.text_stream.specs.declared.Fed.{Fed}
use Rattle.text_stream.specs.Fed.{Keeps}
use Rattle.text_stream.specs.Put.{Put}

-- The bytes that are kept are the first in their place, as many as are counted.
abbrev pub kept_bytes : Stream → List ℕ
kept_bytes s = take s.len s.kept

-- The input has gone in so far: what it leaves behind its last line end is kept, and the output holds what answers the lines before.
pub record After (s : Stream) (input output : List ℕ) : Type 0 where
  pub left : List ℕ
  pub writes : Written [] input left output
  pub keeps : Keeps (kept_bytes s) left

-- Nothing has gone in.
abbrev pub Begun : Stream → Type 0
Begun s = After s [] []

-- The input has gone in so far, and what is to be written behind the output is appended to the buffer.
pub record Continued (s : Stream) (input output out out' : List ℕ) : Type 0 where
  pub text : List ℕ
  pub after : After s input (output ++ text)
  pub put : out' ≡ out ++ text

-- A block is fed: whatever input has gone in, the block goes in behind it.
pub record BlockFed (s s' : Stream) (block out out' : List ℕ) : Type 0 where
  pub carries : (input output : List ℕ) → After s input output → Continued s' (input ++ block) output out out'

-- The input is whole, and what is to be written behind the output is appended to the buffer.
pub record Finished (input output out out' : List ℕ) : Type 0 where
  pub text : List ℕ
  pub whole : Streamed input (output ++ text)
  pub put : out' ≡ out ++ text

-- The input has ended: whatever has gone in is all of it.
pub record LastGiven (s : Stream) (out out' : List ℕ) : Type 0 where
  pub ends : (input output : List ℕ) → After s input output → Finished input output out out'

-- ---- the same at the front of a buffer

-- The input has gone in so far, and what is to be written behind the output stands at the front of the buffer.
pub record ContinuedPut (s : Stream) (input output : List ℕ) (counted : ℕ) (out out' : List ℕ) : Type 0 where
  pub text : List ℕ
  pub after : After s input (output ++ text)
  pub put : Put text counted out out'

-- A block is fed, and its text fits: whatever input has gone in, the block goes in behind it.
pub record BlockPut (s : Stream) (block out : List ℕ) (fed : Fed) (out' : List ℕ) : Type 0 where
  pub count : fed.written ≤ length out
  pub carries : (input output : List ℕ) → After s input output → ContinuedPut fed.stream (input ++ block) output fed.written out out'

-- The input is whole, and what is to be written behind the output stands at the front of the buffer.
pub record FinishedPut (input output : List ℕ) (counted : ℕ) (out out' : List ℕ) : Type 0 where
  pub text : List ℕ
  pub whole : Streamed input (output ++ text)
  pub put : Put text counted out out'

-- The input has ended, and its last text fits: whatever has gone in is all of it.
pub record LastPut (s : Stream) (counted : ℕ) (out out' : List ℕ) : Type 0 where
  pub count : counted ≤ length out
  pub ends : (input output : List ℕ) → After s input output → FinishedPut input output counted out out'
