-- The values that the places of a line have, part by part, and the blacks in front of a place. Assumes nothing.
use Prim.Native.Nat.{ℕ, zero, suc, ◌+◌, ◌<◌}
use mathlib.Core.Path.{◌≡◌, refl, sym, ap, ◌∙◌}
use mathlib.Core.Bool.{true, false, cond, true≢false}
use mathlib.Core.List.{List, [], ◌∷◌, ◌++◌}
use native.Mathlib.Omega.{arith}
use native.Mathlib.Nat.{not-suc-le-zero, le_of_suc-le-suc, zero-add, add-zero, suc-add, add_assoc}
use lib.ListN.{length, get_or, take}
use Rattle.tally.specs.Tally.{one_if, count}
use Rattle.rules.specs.Grid.{black, is_black}
use Rattle.table.specs.Table.{own}
use Rattle.line_laws.proofs.Lists.{bit_zero}

-- ---- parts of a line

pub own_cons : (k c : ℕ) (l : List ℕ) (i : ℕ) → own k (c ∷ l) (suc i) ≡ own (k + one_if (is_black c)) l i
unfolding own count
own_cons k c l i = ap (λ (x : ℕ). cond (is_black (get_or l i 0)) x (get_or l i 0)) (omega arith)

pub own_append : (k : ℕ) (xs ys : List ℕ) (i : ℕ) → own k (xs ++ ys) (length xs + i) ≡ own (k + count is_black xs) ys i
unfolding count
own_append k [] ys i = rw (zero-add, add-zero)
own_append k (x ∷ xs) ys i =
    rw suc-add (own_cons k x (xs ++ ys) (length xs + i) ∙ own_append (k + one_if (is_black x)) xs ys i
    ∙ ap (λ m. own m ys i) (add_assoc k (one_if (is_black x)) (count is_black xs)))

pub own_left : (k : ℕ) (xs ys : List ℕ) (i : ℕ) → i < length xs → own k (xs ++ ys) i ≡ own k xs i
unfolding own
own_left k [] ys i h = absurd (not-suc-le-zero h)
own_left k (x ∷ xs) ys zero h = refl
own_left k (x ∷ xs) ys (suc i) h = own_cons k x (xs ++ ys) i ∙ own_left (k + one_if (is_black x)) xs ys i (le_of_suc-le-suc h) ∙ sym (own_cons k x xs i)

pub own_black : (k : ℕ) (l : List ℕ) → own k (black ∷ l) 0 ≡ k
unfolding own count
own_black k l = add-zero k

white_at : (xs : List ℕ) → count is_black xs ≡ 0 → (i : ℕ) → is_black (get_or xs i 0) ≡ false
unfolding count
white_at [] e i = refl
white_at (x ∷ xs) e zero = bit_zero (is_black x) (omega arith)
white_at (x ∷ xs) e (suc i) = white_at xs (omega arith) i

-- without blacks each place has its own digit
pub own_white : (k : ℕ) (xs : List ℕ) → count is_black xs ≡ 0 → (i : ℕ) → own k xs i ≡ get_or xs i 0
unfolding own
own_white k xs e i = rw (white_at xs e i)

-- ---- the blacks in front of a place

-- in front of a black stand fewer than there are
pub black_before : (l : List ℕ) (i : ℕ) → is_black (get_or l i 0) ≡ true → count is_black (take i l) < count is_black l
unfolding count
black_before [] i t = absurd (true≢false (sym t))
black_before (c ∷ l) zero t = omega (arith, ap one_if t)
black_before (c ∷ l) (suc i) t = omega (arith, black_before l i t)

-- and fewer than in front of a later place
pub black_between : (l : List ℕ) (i j : ℕ) → i < j → is_black (get_or l i 0) ≡ true → count is_black (take i l) < count is_black (take j l)
unfolding count
black_between [] i j h t = absurd (true≢false (sym t))
black_between (x ∷ l) zero zero h t = absurd (omega arith)
black_between (x ∷ l) zero (suc j) h t = omega (arith, ap one_if t)
black_between (x ∷ l) (suc i) zero h t = absurd (omega arith)
black_between (x ∷ l) (suc i) (suc j) h t = omega (arith, black_between l i j (omega arith) t)
