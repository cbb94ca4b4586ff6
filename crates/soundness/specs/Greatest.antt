-- The greatest stable table within a table, and after marks. Assumes nothing.
use Rattle.std.specs.Prelude.{ℕ, true, List}
use Rattle.rules.specs.Grid.{Puzzle}
use Rattle.table.specs.Table.{Table}
use Rattle.table.specs.Steps.{marked_all}
use Rattle.table.specs.Stable.{Stable}
use Rattle.soundness.specs.SameGrids.{Within}

-- Each stable table of the puzzle that lies within t lies within u.
pub record KeepsStable (p : Puzzle) (t u : Table) : Type 0 where
  pub keeps : (s : Table) → Stable p s → Within p.size s t → Within p.size s u

-- The table t is the greatest stable table of the puzzle within m.
pub record Greatest (p : Puzzle) (m t : Table) : Type 0 where
  pub within : Within p.size t m
  pub stable : Stable p t
  pub greatest : KeepsStable p m t

-- The table with every candidate.
abbrev pub every_candidate : Table
every_candidate r c v = true

-- The table t is the greatest stable table within what the marks leave of the greatest stable table of all.
pub record GreatestAfter (p : Puzzle) (ms : List ℕ) (t : Table) : Type 0 where
  pub before : Table
  pub first : Greatest p every_candidate before
  pub after : Greatest p (marked_all before ms) t
