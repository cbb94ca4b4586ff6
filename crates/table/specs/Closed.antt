-- Arrangements of a line: where its blacks stand, and which digits lie between or around them; and closed tables: the four points. Assumes nothing.
use Rattle.std.specs.Prelude.{ℕ, suc, ◌+◌, ◌-◌, ◌<◌, ◌≡◌, ◌≢◌, Bool, true, false, ◌&&◌, ◌||◌, cond, eqb, ltb, leb, length}
use mathlib.Core.List.{List, [], ◌∷◌, ◌++◌, map, Memᴰ}
use Rattle.tally.specs.Tally.{span, sum, keep, any, join, sort}
use Rattle.rules.specs.Grid.{digits, meets, Line, lines, Puzzle, target}
use Rattle.rules.specs.Mark.{left_black, right_black, upper_black, lower_black}
use Rattle.table.specs.Table.{Table, places, first_black, half, mask_of}

-- ---- arrangements

-- The subsets of a list of digits, by rising mask.
unfoldable pub subsets : List ℕ → List (List ℕ)
subsets [] = [] ∷ []
subsets (d ∷ ds) = join (map (λ s. s ∷ (d ∷ s) ∷ []) (subsets ds))

-- A set of digits is printed before another: its sum is smaller, or the sums are equal and its size is, or the sizes are equal too and its mask is.
unfoldable pub printed_before : List ℕ → List ℕ → Bool
printed_before r s =
    ltb (sum r) (sum s)
    || (eqb (sum r) (sum s) && (ltb (length r) (length s) || (eqb (length r) (length s) && ltb (mask_of r) (mask_of s))))

-- The subsets of the digits of size n, as they are printed.
unfoldable pub printed : ℕ → List (List ℕ)
printed n = sort printed_before (subsets (digits n))

-- Those whose sum passes a test.
unfoldable pub subsets_with : ℕ → (ℕ → Bool) → List (List ℕ)
subsets_with n ok = keep (λ s. ok (sum s)) (printed n)

-- An arrangement: from its start on a black, as many cells as the set has digits, and a black, wrapping at the line's end.
pub record Arrangement : Type 0 where
  pub start : ℕ
  pub digit_set : List ℕ
  -- it begins with the line's first black, so that its cells lie between the blacks; otherwise with the second, and they lie around them
  pub is_inside : Bool

-- One arrangement of a set for each start that passes a test, the starts rising.
unfoldable pub from_starts : ℕ → Bool → (ℕ → Bool) → List ℕ → List Arrangement
from_starts n is_inside ok s = map (λ a. record { start = a; digit_set = s; is_inside = is_inside }) (keep ok (span 0 n))

-- Inside ones: the set has the target's sum, and start + L + 2 is at most n.
unfoldable pub insides : ℕ → ℕ → List Arrangement
insides n t = join (map (λ s. from_starts n true (λ a. leb (a + (length s + 2)) n) s) (subsets_with n (meets t)))

-- Outside ones: the remaining digits have the target's sum, and start + L + 2 is above n.
unfoldable pub outsides : ℕ → ℕ → List Arrangement
outsides n t =
    join (map (λ s. from_starts n false (λ a. ltb n (a + (length s + 2))) s) (subsets_with n (λ x. meets t (sum (digits n) - x))))

-- All arrangements of a line with target t.
unfoldable pub arrangements : ℕ → ℕ → List Arrangement
arrangements n t = insides n t ++ outsides n t

-- ---- arrangements in a table

-- Cell j of an arrangement as a place of the line, wrapping at the line's end.
unfoldable pub place : ℕ → Arrangement → ℕ → ℕ
place n a j = cond (ltb (a.start + j) n) (a.start + j) (a.start + j - n)

-- The pattern of an arrangement allows the value v at its cell j: a black at its ends, a digit of the set between them.
unfoldable pub allows : ℕ → Arrangement → ℕ → ℕ → Bool
allows k a j v =
    cond (eqb j 0) (eqb v (cond a.is_inside k (suc k)))
    (cond (eqb j (length a.digit_set + 1)) (eqb v (cond a.is_inside (suc k) k)) (any (eqb v) a.digit_set))

-- Each of its cells still has a candidate of the pattern, and each digit of its set is still possible in one of the cells between its ends.
pub record Live (n k : ℕ) (m : ℕ → ℕ → Bool) (a : Arrangement) : Type 0 where
  pub filled : (j : ℕ) → j < length a.digit_set + 2 → (v : ℕ) × (m (place n a j) v ≡ true) × (allows k a j v ≡ true)
  pub placed : (d : ℕ) → Memᴰ d a.digit_set → (j : ℕ) × (0 < j) × (j < length a.digit_set + 1) × (m (place n a j) d ≡ true)

-- The arrangement has the value v at place i.
unfoldable pub lays : ℕ → ℕ → ℕ → ℕ → Arrangement → Bool
lays n k i v a = any (λ j. eqb (place n a j) i && allows k a j v) (span 0 (length a.digit_set + 2))

-- The value v of place i lies in a live arrangement of the line.
pub record Supported (n k t : ℕ) (m : ℕ → ℕ → Bool) (i v : ℕ) : Type 0 where
  pub arrangement : Arrangement
  pub listed : Memᴰ arrangement (arrangements n t)
  pub alive : Live n k m arrangement
  pub covers : lays n k i v arrangement ≡ true

-- ---- closed

-- A closed line with target t, if k is its first black.
pub record ClosedLine (n k t : ℕ) (m : ℕ → ℕ → Bool) : Type 0 where
  -- a half with one candidate left: that candidate is nowhere else in the line
  pub lone : (i j v : ℕ) → i < n → j < n → i ≢ j → Memᴰ v (half n k) → m i v ≡ true → ((w : ℕ) → Memᴰ w (half n k) → m i w ≡ true → w ≡ v) → m j v ≡ false
  -- a candidate with one place left in the line: that place's half has no other
  pub single : (i v w : ℕ) → i < n → Memᴰ v (half n k) → Memᴰ w (half n k) → m i v ≡ true → ((j : ℕ) → j < n → m j v ≡ true → j ≡ i) → m i w ≡ true → w ≡ v
  -- each candidate lies in a live arrangement
  pub supported : (i v : ℕ) → i < n → Memᴰ v (half n k) → m i v ≡ true → Supported n k t m i v

-- A closed table.
pub record Closed (p : Puzzle) (t : Table) : Type 0 where
  pub lines : (ℓ : Line) → Memᴰ ℓ (lines p.size) → ClosedLine p.size (first_black ℓ) (target p ℓ) (places t ℓ)
  -- a digit alone in its row half is nowhere else in its column, and one alone in its column half nowhere else in its row
  pub crossed : (r c i d : ℕ) → r < p.size → c < p.size → i < p.size → Memᴰ d (digits p.size) → t r c d ≡ true →
      ((w : ℕ) → Memᴰ w (half p.size left_black) → t r c w ≡ true → w ≡ d) → i ≢ r → t i c d ≡ false
  pub crossed_back : (r c j d : ℕ) → r < p.size → c < p.size → j < p.size → Memᴰ d (digits p.size) → t r c d ≡ true →
      ((w : ℕ) → Memᴰ w (half p.size upper_black) → t r c w ≡ true → w ≡ d) → j ≢ c → t r j d ≡ false
  -- a cell has row blacks exactly where it has column blacks
  pub blacks : (r c : ℕ) → r < p.size → c < p.size → (t r c left_black || t r c right_black) ≡ (t r c upper_black || t r c lower_black)
