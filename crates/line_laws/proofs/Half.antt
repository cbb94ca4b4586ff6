-- The values of a half and the symbols of a cell: digits below 8, and blacks. Assumes nothing.
use Prim.Native.Nat.{ℕ, suc, ◌+◌, ◌-◌, ◌≤◌, ◌<◌}
use mathlib.Core.Path.{◌≡◌, refl}
use mathlib.Core.Bool.{true, false}
use mathlib.Core.Logic.{⊎_elim}
use mathlib.Core.List.Memᴰ
use mathlib.Core.List.{[], ◌∷◌, ◌++◌, Memᴰ}
use native.Mathlib.Omega.{arith}
use lib.Dec.{eqb}
use lib.ListN.{length, length-append}
use borrow.Author.Tests.{eq-eqb, ne_eqb}
use Rattle.tally.specs.Tally.{one_if, count, span}
use Rattle.tally.proofs.TallyLaws.{count_append, bit_eq, bit_ne, Once, span_in, span_once, span_past, span_length}
use Rattle.rules.specs.Grid.{black, is_black, digits, Line, across, down}
use Rattle.rules.specs.Short.{symbols}
use Rattle.table.specs.Table.{half, first_black}

pub digit_range : (n d : ℕ) → Memᴰ d (digits n) → (1 ≤ d) × (d < n - 1)
unfolding digits
digit_range n d m = let r = span_in 1 (n - 2) d m in (r.0, omega arith)

pub digits_length : (n : ℕ) → length (digits n) ≡ n - 2
unfolding digits
digits_length n = span_length 1 (n - 2)

-- ---- a cell

-- The symbol of a cell: black, or a digit.
pub data Symbol (n c : ℕ) : Type 0 where
  is_black_lem : is_black c ≡ true → c ≡ black → Symbol n c
  is_digit : is_black c ≡ false → Memᴰ c (digits n) → c < n - 1 → Symbol n c

pub symbol : (n c : ℕ) → n ≤ 9 → Memᴰ c (symbols n) → Symbol n c
symbol n c z (Memᴰ.head e) = is_black_lem (eq-eqb c 255 e) e
symbol n c z (Memᴰ.tail m) = let r = digit_range n c m in is_digit (ne_eqb c 255 (omega arith)) m r.1

-- ---- a half

-- The blacks of a line are above the digits.
pub first_high : (ℓ : Line) → 8 ≤ first_black ℓ
unfolding first_black
first_high (across r) = omega arith
first_high (down c) = omega arith

-- A value of a half: a digit, the first black or the second.
pub data HalfValue (n k v : ℕ) : Type 0 where
  a_digit : Memᴰ v (digits n) → 1 ≤ v → v < n - 1 → HalfValue n k v
  a_first : v ≡ k → HalfValue n k v
  a_second : v ≡ suc k → HalfValue n k v

pub half_value : (n k v : ℕ) → Memᴰ v (half n k) → HalfValue n k v
unfolding half
half_value n k v m =
    ⊎_elim (λ q. let r = digit_range n v q in a_digit q r.0 r.1)
    (λ q. ⊎_elim (λ e. a_first e) (λ z. a_second (Memᴰ.eq_of_singleton z)) (Memᴰ.cases_cons q)) (Memᴰ.append_cases (digits n) m)

pub digit_in : (n k : ℕ) {d : ℕ} → Memᴰ d (digits n) → Memᴰ d (half n k)
unfolding half
digit_in n k m = Memᴰ.append_left (k ∷ suc k ∷ []) m

pub first_in : (n k : ℕ) → Memᴰ k (half n k)
unfolding half
first_in n k = Memᴰ.append_right (digits n) (Memᴰ.head refl)

pub second_in : (n k : ℕ) → Memᴰ (suc k) (half n k)
unfolding half
second_in n k = Memᴰ.append_right (digits n) (Memᴰ.tail (Memᴰ.head refl))

-- The values of a half are different.
pub half_once : (n k : ℕ) → n ≤ 9 → 8 ≤ k → Once (half n k)
unfolding Once half digits count
half_once n k z low v m = go (half_value n k v m)
  where
    ends : (x : ℕ) → count (eqb x) (span 1 (n - 2) ++ k ∷ suc k ∷ []) ≡ count (eqb x) (span 1 (n - 2)) + (one_if (eqb x k) + (one_if (eqb x (suc k)) + 0))
    ends x = count_append (eqb x) (span 1 (n - 2)) (k ∷ suc k ∷ [])

    go : HalfValue n k v → count (eqb v) (span 1 (n - 2) ++ k ∷ suc k ∷ []) ≡ 1
    go (a_digit q l h) = omega (arith, ends v, span_once 1 (n - 2) v l (omega arith), bit_ne v k (omega arith), bit_ne v (suc k) (omega arith))
    go (a_first e) = omega (arith, ends v, span_past 1 (n - 2) v (omega arith), bit_eq v k e, bit_ne v (suc k) (omega arith))
    go (a_second e) = omega (arith, ends v, span_past 1 (n - 2) v (omega arith), bit_ne v k (omega arith), bit_eq v (suc k) e)

pub half_length : (n k : ℕ) → 2 ≤ n → length (half n k) ≡ n
unfolding half
half_length n k two = omega (arith, length-append (digits n) (k ∷ suc k ∷ []), digits_length n)
