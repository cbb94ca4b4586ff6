-- Arrangements by number, and an arrangement packed into one word. Assumes nothing.
use Rattle.std.specs.Prelude.{ℕ, suc, ◌+◌, ◌-◌, ◌*◌, ◌/◌, ◌%◌, ◌^◌, ◌≤◌, ◌<◌, ◌≡◌, Bool, ◌&&◌, cond, List, ◌⊎◌, eqb, ltb, leb, length, get_or, true}
use Rattle.tally.specs.Tally.{span, keep}
use Rattle.subset_table.specs.Subsets.{subset, mask_in, size_in, of_size}
use Rattle.table.specs.Closed.{Arrangement}
use Rattle.bits.specs.Bit.{bit}

-- The digits of a mask, rising.
unfoldable pub digits_of : ℕ → List ℕ
digits_of mask = keep (λ d. eqb (bit d mask) 1) (span 1 7)

-- ---- arrangements by number: subset * 9 + start

-- The arrangement with number id of a line of n places.
unfoldable pub arrangement_of : ℕ → ℕ → Arrangement
arrangement_of n id =
    record { start = id % 9; digit_set = digits_of (mask_in (id / 9)); is_inside = leb (id % 9 + (size_in (id / 9) + 2)) n }

-- The numbers of arrangements of size n: a subset of the digits of that size, and a place of the line.
pub record Known (n id : ℕ) : Type 0 where
  pub within : id < 1152
  pub starts : id % 9 < n
  pub digits : of_size n (subset (id / 9)) ≡ true

-- ---- words: the set in bits 0 to 7, the inner places in 8 to 16, the places of the line's first and second black in 17 to 20 and 21 to 24, and 1 at bit
-- 25 if the cells lie outside the blacks, so that the arrangement begins with the second one

abbrev pub set_of : ℕ → ℕ
set_of w = w % 256

abbrev pub inner_of : ℕ → ℕ
inner_of w = w / 256 % 512

abbrev pub first_of : ℕ → ℕ
first_of w = w / 131072 % 16

abbrev pub second_of : ℕ → ℕ
second_of w = w / 2097152 % 16

abbrev pub outside_of : ℕ → ℕ
outside_of w = w / 33554432

-- The places between the ends: len of them from start + 1 on, wrapping at n.
unfoldable pub inner_places : ℕ → ℕ → ℕ → ℕ
inner_places n len start = (2 ^ len - 1) * 2 ^ (start + 1) % 2 ^ n + (2 ^ len - 1) * 2 ^ (start + 1) / 2 ^ n

-- The word of a set of len digits from a start on.
unfoldable pub word_from : ℕ → ℕ → ℕ → ℕ → ℕ
word_from n set len start =
    cond (ltb (start + len + 1) n)
    (set + inner_places n len start * 256 + start * 131072 + (start + len + 1) * 2097152)
    (set + inner_places n len start * 256 + (start + len + 1 - n) * 131072 + start * 2097152 + 33554432)

-- The word of the arrangement with number id.
unfoldable pub word_of : ℕ → ℕ → ℕ
word_of n id = word_from n (mask_in (id / 9)) (size_in (id / 9)) (id % 9)

-- The list has the word of each arrangement of size n.
pub record Words (n : ℕ) (ws : List ℕ) : Type 0 where
  pub size : length ws ≡ 1152
  pub each : (id : ℕ) → Known n id → get_or ws id 0 ≡ word_of n id

-- ---- the pattern of a word

-- In a line with first black k place p may have the value v: a digit of the set at an inner place, a black at its place.
unfoldable pub pattern : ℕ → ℕ → ℕ → ℕ → Bool
pattern k w p v =
    cond (ltb v 8) (eqb (bit v (set_of w)) 1 && eqb (bit p (inner_of w)) 1)
    (cond (eqb v k) (eqb (first_of w) p) (eqb v (suc k) && eqb (second_of w) p))

-- The same as a number, to be counted: 1 or 0.
unfoldable pub part : ℕ → ℕ → ℕ → ℕ → ℕ
part k w p v = cond (pattern k w p v) 1 0

-- ---- from end to end

-- Where an arrangement begins and ends, and with which black.
unfoldable pub from_of : ℕ → ℕ
from_of w = cond (eqb (outside_of w) 0) (first_of w) (second_of w)

unfoldable pub to_of : ℕ → ℕ
to_of w = cond (eqb (outside_of w) 0) (second_of w) (first_of w)

unfoldable pub head_of : ℕ → ℕ → ℕ
head_of k w = cond (eqb (outside_of w) 0) k (suc k)

unfoldable pub last_of : ℕ → ℕ → ℕ
last_of k w = cond (eqb (outside_of w) 0) (suc k) k

-- The bit at which the place of the black v begins, in a line with first black k.
unfoldable pub shift_of : ℕ → ℕ → ℕ
shift_of k v = cond (eqb v k) 17 21

-- An arrangement with a given end is one of the inside ones, or of the outside ones, of size n.
unfoldable pub on_side : ℕ → Bool → ℕ → Bool
on_side n outside end = cond outside (ltb n end) (leb end n)

-- How many steps lead from place a to place p in a line of n places, wrapping.
unfoldable pub steps : ℕ → ℕ → ℕ → ℕ
steps n a p = cond (ltb p a) (p + n - a) (p - a)

-- The next place, wrapping.
unfoldable pub after : ℕ → ℕ → ℕ
after n p = cond (eqb (p + 1) n) 0 (p + 1)

-- A word that a walk from end to end may go by: two ends, and the inner places are those on the way.
pub record Shaped (n w : ℕ) : Type 0 where
  pub from_in : from_of w < n
  pub to_in : to_of w < n
  pub apart : 0 < steps n (from_of w) (to_of w)
  pub between : (p : ℕ) → p < n → 0 < steps n (from_of w) p → steps n (from_of w) p < steps n (from_of w) (to_of w) → bit p (inner_of w) ≡ 1
  pub beyond : (p : ℕ) → p < n → (steps n (from_of w) p ≡ 0) ⊎ (steps n (from_of w) (to_of w) ≤ steps n (from_of w) p) → bit p (inner_of w) ≡ 0
  pub past : (p : ℕ) → n ≤ p → p < 9 → bit p (inner_of w) ≡ 0
