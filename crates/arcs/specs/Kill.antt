-- An arrangement that dies: its supports fall from end to end. Assumes nothing.
use Rattle.std.specs.Prelude.{ℕ, ◌+◌, ◌*◌, ◌/◌, ◌%◌, min, ◌≤◌, ◌<◌, List}
use Rattle.bits.specs.Bit.{bit}
use Rattle.bits.specs.Sum.{same}
use Rattle.queue_state.specs.Slab.{Sized}
use Rattle.lane.specs.declared.Lane.{Lane}
use Rattle.words.specs.Word.{set_of, inner_of, part}
use Rattle.arcs.specs.Arc.{support}
use Rattle.table.specs.Lines.{black_at}

-- How the supports of a line fall when a word leaves it: all of it, and its inner places alone.
abbrev pub parts : ℕ → ℕ → ℕ → ℕ → ℕ
parts line w y v = min (same (y / 9) line) (part (black_at line) w (y % 9) v)

-- The same at its inner places only.
abbrev pub inners : ℕ → ℕ → ℕ → ℕ → ℕ
inners line w y v = min (same (y / 9) line) (min (bit (y % 9) (inner_of w)) (bit v (set_of w)))

-- A word of the line whose supports at its inner places are there to fall.
pub record InnerAsk (lane : Lane) (w : ℕ) (l : List ℕ) : Type 0 where
  pub sized : Sized l
  pub enough : (q v : ℕ) → q < 9 → v < 16 → min (bit q (inner_of w)) (bit v (set_of w)) ≤ support l (lane.number * 9 + q) v

-- A word of the line whose supports are all there to fall.
pub record KillAsk (lane : Lane) (w : ℕ) (l : List ℕ) : Type 0 where
  pub sized : Sized l
  pub enough : (q v : ℕ) → q < 9 → v < 16 → part (black_at lane.number) w q v ≤ support l (lane.number * 9 + q) v
