-- A list of answers, record by record: what replaying finds and counts. Assumes nothing.
use Rattle.std.specs.Prelude.{ℕ, ◌+◌, ◌≤◌, ◌<◌, ◌≡◌, Bool, true, false, ◌&&◌, not, cond, List, [], leb, eqb, length, drop, Option, None, Some}
use Rattle.replay_records.specs.declared.Outcome.{Outcome}
use Rattle.record_fields.specs.declared.Call.{Call}
use Rattle.record_fields.specs.Calls.{tag_of}
use Rattle.record_fields.specs.Fields.{tag, readable, record_length}
use Rattle.record_fields.specs.Recorded.{Says}
use Rattle.replay_records.specs.Agreement.{SumsAgree, SheetAgrees, LineAgrees}
use Rattle.replay_records.specs.SolverAgreement.{TableFound, CountAgrees, CellsFound}

-- The tag of the first record, or 0 where none can be read.
abbrev pub kind : List ℕ → ℕ
kind xs = cond (readable xs) (tag xs) 0

-- How many bytes are passed over: the first record, or the whole list where none can be read.
abbrev pub step : List ℕ → ℕ
step xs = cond (readable xs) (record_length xs) (length xs)

-- What a test of a record says, by the record's tag: no, where no call has the tag.
unfoldable pub FindsAs : ℕ → Bool → List ℕ → Type 0
FindsAs t r xs =
    cond (eqb t 1) (Says r (SumsAgree xs))
    (cond (eqb t 2) (Says r (SheetAgrees xs))
    (cond (eqb t 3) (TableFound r xs)
    (cond (eqb t 4) (Says r (CountAgrees xs))
    (cond (eqb t 5) (CellsFound r xs)
    (cond (eqb t 6) (Says r (LineAgrees xs))
    (r ≡ false))))))

-- By its own kind.
abbrev pub Finds : Bool → List ℕ → Type 0
Finds r xs = FindsAs (tag xs) r xs

-- What a test of the first record says: no, where none can be read.
pub record RecordTested (r : Bool) (xs : List ℕ) : Type 0 where
  pub read : readable xs ≡ true → Finds r xs
  pub unread : readable xs ≡ false → r ≡ false

-- The kind that a call names, or 0 where there is none.
abbrev pub kind_of : Option Call → ℕ
kind_of None = 0
kind_of (Some call) = tag_of call

-- What replaying the first record of a list gives. The bounds follow from the length.
pub record Replayed (xs : List ℕ) (o : Outcome) : Type 0 where
  pub kind_is : kind_of o.call ≡ kind xs
  pub length_is : o.length ≡ step xs
  pub within : o.length ≤ length xs
  pub onward : 0 < length xs → 0 < o.length
  pub agrees_is : RecordTested o.agrees xs

-- 1 for yes, 0 for no.
abbrev pub as_number : Bool → ℕ
as_number b = cond b 1 0

-- Of the records of a list that are wanted, there are some number, and in some number of these the engine answers otherwise. Whether a record is wanted is
-- what is answered at its call, or at none where it cannot be read.
pub data RecordsTallied (Wanted : Option Call → Bool → Type 0) : ℕ → ℕ → List ℕ → Type 0 where
  none : RecordsTallied Wanted 0 0 []
  more :
      {k d : ℕ} {xs : List ℕ} {agrees wanted : Bool} {call : Option Call} → 0 < length xs → RecordTested agrees xs → kind_of call ≡ kind xs
      → Wanted call wanted → RecordsTallied Wanted k d (drop (step xs) xs)
      → RecordsTallied Wanted (as_number wanted + k) (as_number (wanted && not agrees) + d) xs

-- A kind from first to last is counted.
abbrev pub in_kinds : ℕ → ℕ → ℕ → Bool
in_kinds first last k = leb first k && leb k last

-- Of the records of a list whose kind is from first to last, there are some number, and in some number of these the engine answers otherwise.
pub data KindsTallied (first last : ℕ) : ℕ → ℕ → List ℕ → Type 0 where
  kinds_none : KindsTallied first last 0 0 []
  kinds_more :
      {k d : ℕ} {xs : List ℕ} {agrees : Bool} → 0 < length xs → RecordTested agrees xs → KindsTallied first last k d (drop (step xs) xs)
      → KindsTallied first last (as_number (in_kinds first last (kind xs)) + k) (as_number (in_kinds first last (kind xs) && not agrees) + d) xs

-- Where the first record of a list begins in which the engine answers otherwise; the end of the list where there is none.
pub data FirstDifference : ℕ → List ℕ → Type 0 where
  at_end : FirstDifference 0 []
  here : {xs : List ℕ} → 0 < length xs → RecordTested false xs → FirstDifference 0 xs
  later : {k : ℕ} {xs : List ℕ} → 0 < length xs → RecordTested true xs → FirstDifference k (drop (step xs) xs) → FirstDifference (step xs + k) xs
