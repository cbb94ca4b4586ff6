-- What it means that the solver answers as a record says. A count has to be what the definitions give. Where a promise leaves open what a call writes,
-- the record has to have what the call wrote, and that keeps the promise. Assumes nothing.
use Rattle.std.specs.Prelude.{⊤, ℕ, ◌≤◌, ◌<◌, ◌≡◌, Bool, false, List, length, Result}
use Rattle.refusal.specs.declared.Refusal.{Refusal}
use Rattle.std.specs.Fn.{Once}
use denote.Ref.{Bor, MutBor}
use Rattle.units.specs.declared.Unit.{Unit}
use Rattle.units.specs.Limits.{hall}
use Rattle.rules.specs.Grid.{Puzzle, puzzle}
use Rattle.rules.specs.Mark.{marks_of}
use Rattle.engine.specs.Answer.{count_answer, solve_answer, solve_cells}
use Rattle.host.specs.Number.{count_out, solve_number, TableNumbered}
use Rattle.record_fields.specs.Fields.{field, record_size, number_from}
use Rattle.record_fields.specs.Recorded.{Says, CountRecorded, BufferRecorded}

-- The puzzle and the marks of a record.
abbrev pub record_puzzle : List ℕ → Puzzle
record_puzzle xs = puzzle (record_size xs) (field xs 1) (field xs 2)

-- The marks of a record.
abbrev pub marks_in : List ℕ → List ℕ
marks_in xs = marks_of (field xs 3)

-- ---- Count

-- The record has what an answer of Count gives, where the place of the count holds a number to begin with.
abbrev pub CountAs : Result ℕ Refusal → ℕ → List ℕ → Type 0
CountAs answer old xs = CountRecorded (count_out answer old).0 (count_out answer old).1 xs

-- The record has the count of its puzzle and marks under a cap.
abbrev pub CountFrom : ℕ → ℕ → List ℕ → Type 0
CountFrom cap old xs = CountAs (count_answer hall (record_puzzle xs) (marks_in xs) cap) old xs

-- A record of a count is right, and its numbers have eight bytes.
pub record CountAgrees (xs : List ℕ) : Type 0 where
  pub cap_whole : length (field xs 4) ≡ 8
  pub old_whole : length (field xs 5) ≡ 8
  pub counts_are : CountFrom (number_from 0 (field xs 4)) (number_from 0 (field xs 5)) xs

-- ---- Candidates and Solve

-- Where a promise leaves open what a call gives: a number and a buffer keep the promise, and a test is true exactly where the record has these.
pub record Compared (r : Bool) (Promised : ℕ → List ℕ → Type 0) (xs : List ℕ) : Type 0 where
  pub number : ℕ
  pub after : List ℕ
  pub promised : Promised number after
  pub says : Says r (BufferRecorded number after xs)

-- The same, and the test is false where the recorded buffer does not fit the one that the record is replayed with.
pub record FittingCompared (r : Bool) (Promised : ℕ → List ℕ → Type 0) (xs : List ℕ) : Type 0 where
  pub long : 256 < length (field xs 4) → r ≡ false
  pub short : length (field xs 4) ≤ 256 → Compared r Promised xs

-- A call of the host on the fields of a record gives a number and leaves a buffer.
pub record CallGives
    {F : Type 0} (g : Once F (Unit × (ℕ × (Bor (List ℕ) × (Bor (List ℕ) × (Bor (List ℕ) × (MutBor (List ℕ) × ⊤)))))) (ℕ × (MutBor (List ℕ) × ⊤)))
    (f : F) (xs : List ℕ) (number : ℕ) (after : List ℕ) : Type 0 where
  pub rows : Bor (List ℕ)
  pub columns : Bor (List ℕ)
  pub marks : Bor (List ℕ)
  pub shown : MutBor (List ℕ)
  pub left : MutBor (List ℕ)
  pub shows : (rows.now ≡ field xs 1) × (columns.now ≡ field xs 2) × (marks.now ≡ field xs 3) × (shown.now ≡ field xs 4)
  pub met : g.post f (hall, (record_size xs, (rows, (columns, (marks, (shown, tt)))))) (number, (left, tt))
  pub leaves : left.now ≡ after

-- What Candidates promises of its number and of the table, before and afterwards.
abbrev pub TablePromised : List ℕ → List ℕ → ℕ → List ℕ → Type 0
TablePromised xs table number after = TableNumbered hall (record_puzzle xs) (marks_in xs) number table after

-- What a test of a record of candidates says.
abbrev pub TableFound : Bool → List ℕ → Type 0
TableFound r xs = FittingCompared r (TablePromised xs (field xs 4)) xs

-- What Solve promises of its number and of the cells, before and afterwards.
abbrev pub CellsPromised : List ℕ → List ℕ → ℕ → List ℕ → Type 0
CellsPromised xs cells number after =
    (number ≡ solve_number (solve_answer hall (record_puzzle xs) (marks_in xs) (length cells))) × (after ≡ solve_cells hall (record_puzzle xs) (marks_in xs) cells)

-- What a test of a record of Solve says.
abbrev pub CellsFound : Bool → List ℕ → Type 0
CellsFound r xs = FittingCompared r (CellsPromised xs (field xs 4)) xs
