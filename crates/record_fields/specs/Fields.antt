-- The record that a list of answers begins with: where its fields stand. Assumes nothing.
use Rattle.std.specs.Prelude.{ℕ, zero, suc, ◌+◌, ◌*◌, ◌-◌, Bool, ◌&&◌, cond, List, [], ◌∷◌, ltb, leb, eqb, length, get_or, take, drop}

-- Where the field that begins at a place ends: behind its length, which takes two bytes, and as many bytes.
abbrev pub field_end : List ℕ → ℕ → ℕ
field_end xs at = at + 2 + get_or xs at 0 * 256 + get_or xs (at + 1) 0

-- Where field k begins; field 0 stands behind the tag.
unfoldable pub field_start : List ℕ → ℕ → ℕ
field_start xs zero = 1
field_start xs (suc k) = field_end xs (field_start xs k)

-- The bytes between two places, or none where the second is past the end.
unfoldable pub slice : List ℕ → ℕ → ℕ → List ℕ
slice xs start end = cond (leb end (length xs)) (take (end - start) (drop start xs)) []

-- The content of field k.
abbrev pub field : List ℕ → ℕ → List ℕ
field xs k = slice xs (field_start xs k + 2) (field_start xs (k + 1))

-- What kind of record it is.
abbrev pub tag : List ℕ → ℕ
tag xs = get_or xs 0 0

-- The size that the call is given.
abbrev pub record_size : List ℕ → ℕ
record_size xs = get_or (field xs 0) 0 0

-- A number in bytes, most significant first, where v stands in front of them.
unfoldable pub number_from : ℕ → List ℕ → ℕ
number_from v [] = v
number_from v (b ∷ bs) = number_from (v * 256 + b) bs

-- How many fields a record with this tag has; 0 for a tag that no call has.
unfoldable pub field_count : ℕ → ℕ
field_count t = cond (eqb t 1) 7 (cond (eqb t 2) 5 (cond (eqb t 3) 7 (cond (eqb t 4) 8 (cond (eqb t 5) 7 (cond (eqb t 6) 4 0)))))

-- How many bytes the record takes.
abbrev pub record_length : List ℕ → ℕ
record_length xs = field_start xs (field_count (tag xs))

-- The list begins with a whole record of a known tag, whose size is one byte.
unfoldable pub readable : List ℕ → Bool
readable xs = ltb 0 (field_count (tag xs)) && (leb (record_length xs) (length xs) && eqb (length (field xs 0)) 1)
