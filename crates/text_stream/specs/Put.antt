-- A text at the front of a buffer. Assumes nothing.
use Rattle.std.specs.Prelude.{ℕ, ◌≤◌, ◌≡◌, List, ◌++◌, length, drop}

-- The text stands at the front, it is as long as was counted, and the bytes behind it are as they were.
pub record Put (text : List ℕ) (counted : ℕ) (out out' : List ℕ) : Type 0 where
  pub count : counted ≡ length text
  pub bytes : out' ≡ text ++ drop counted out
  pub size : length out' ≡ length out
  pub fits : counted ≤ length out
