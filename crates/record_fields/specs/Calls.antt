-- The calls that records are of. Assumes nothing.
use Rattle.std.specs.Prelude.{ℕ}
use Rattle.record_fields.specs.declared.Call.{Call}
use Rattle.record_fields.specs.declared.Call.TheVariants.{TargetSums, MarkSheet, Candidates, Count, Solve, LineCheck}

-- The tag of the records of a call.
abbrev pub tag_of : Call → ℕ
tag_of TargetSums = 1
tag_of MarkSheet = 2
tag_of Candidates = 3
tag_of Count = 4
tag_of Solve = 5
tag_of LineCheck = 6
