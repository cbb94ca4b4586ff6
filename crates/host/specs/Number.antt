-- What the exported calls give to a host: numbers. Assumes nothing.
use Rattle.std.specs.Prelude.{ℕ, ◌≡◌, Bool, true, false, List, Result, Ok, Err}
use Rattle.refusal.specs.declared.Refusal.{Refusal}
use Rattle.refusal.specs.Number.{refusal_number}
use Rattle.units.specs.declared.Unit.{Unit}
use Rattle.rules.specs.Grid.{Puzzle}
use Rattle.table.specs.Table.{entries_of}
use Rattle.engine.specs.declared.Verdict.{Verdict}
use Rattle.engine.specs.declared.Verdict.TheVariants.{Unsolvable, Unique, Multiple}
use Rattle.candidates.specs.declared.Outcome.{Outcome}
use Rattle.candidates.specs.declared.Outcome.TheVariants.{Contradicted, Written}
use Rattle.candidates.specs.Remaining.{TableGiven}

-- The number of each answer of marking: a refusal has its own.
abbrev pub sheet_number : Result Bool Refusal → ℕ
sheet_number (Ok false) = 100
sheet_number (Ok true) = 101
sheet_number (Err k) = refusal_number k

-- The number of each answer of Count, and the place of the count afterwards: as it was on a refusal.
abbrev pub count_out : Result ℕ Refusal → ℕ → ℕ × ℕ
count_out (Ok c) old = (0, c)
count_out (Err k) old = (refusal_number k, old)

-- The number of each answer of Solve.
abbrev pub solve_number : Result Verdict Refusal → ℕ
solve_number (Ok Unsolvable) = 100
solve_number (Ok Unique) = 101
solve_number (Ok Multiple) = 102
solve_number (Err k) = refusal_number k

-- The number of each answer of Candidates.
abbrev pub table_number : Result Outcome Refusal → ℕ
table_number (Ok Written) = 0
table_number (Ok Contradicted) = 100
table_number (Err k) = refusal_number k

-- The number and the entries are those of an answer of Candidates in a unit; unless the number is 0, the bytes are as they were.
pub record TableNumbered (u : Unit) (p : Puzzle) (ms : List ℕ) (number : ℕ) (bytes bytes' : List ℕ) : Type 0 where
  pub answer : Result Outcome Refusal
  pub given : TableGiven u p ms answer (entries_of bytes) (entries_of bytes')
  pub number_is : number ≡ table_number answer
  pub untouched : (number ≡ 0 → ⊥) → bytes' ≡ bytes
