-- What a test of a record says, and that a record has given bytes and numbers. Assumes nothing.
use Rattle.std.specs.Prelude.{ℕ, ◌≡◌, Bool, true, List, [], ◌∷◌, length}
use Rattle.record_fields.specs.Fields.{field, number_from}

-- A test is true exactly where a statement holds.
pub record Says (r : Bool) (P : Type 0) : Type 0 where
  pub sound : r ≡ true → P
  pub complete : P → r ≡ true

-- The record has this number and these target slices.
pub record SumsRecorded (number : ℕ) (rows columns : List ℕ) (xs : List ℕ) : Type 0 where
  pub answer_is : field xs 4 ≡ number ∷ []
  pub rows_are : field xs 5 ≡ rows
  pub columns_are : field xs 6 ≡ columns

-- Eight bytes are a number.
pub record LongNumber (v : ℕ) (bytes : List ℕ) : Type 0 where
  pub whole : length bytes ≡ 8
  pub value_is : number_from 0 bytes ≡ v

-- The record has this number and this count.
pub record CountRecorded (number count : ℕ) (xs : List ℕ) : Type 0 where
  pub answer_is : field xs 6 ≡ number ∷ []
  pub count_is : LongNumber count (field xs 7)

-- The record has this number and this buffer.
pub record BufferRecorded (number : ℕ) (after : List ℕ) (xs : List ℕ) : Type 0 where
  pub answer_is : field xs 5 ≡ number ∷ []
  pub buffer_is : field xs 6 ≡ after
