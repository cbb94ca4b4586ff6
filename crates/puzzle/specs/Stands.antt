-- What a puzzle that passed the checks is by the rules. Assumes nothing.
use Rattle.rules.specs.Grid.{puzzle}
use Rattle.rules.specs.Grid.{Puzzle as Asked}
use Rattle.puzzle.specs.declared.Puzzle.{Puzzle}

-- The puzzle for which it stands: its size and its targets.
abbrev pub puzzle_of : Puzzle → Asked
puzzle_of p = puzzle p.size.n p.rows.now p.columns.now
