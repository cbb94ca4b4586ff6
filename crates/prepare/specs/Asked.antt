-- What a question asks. Assumes nothing.
use Rattle.std.specs.Prelude.{ℕ, ◌≡◌, List}
use Rattle.rules.specs.Grid.{Puzzle}
use Rattle.rules.specs.Mark.{marks_of}
use Rattle.puzzle.specs.Stands.{puzzle_of}
use Rattle.prepare.specs.declared.Question.{Question}

-- It is the question of a puzzle and its marks.
abbrev pub Asks : Puzzle → List ℕ → Question → Type 0
Asks p ms q = (puzzle_of q.puzzle ≡ p) × (marks_of q.marks.now ≡ ms)
