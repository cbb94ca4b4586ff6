-- What one cell more adds to the cells between the blacks. Assumes nothing.
use Prim.Native.Nat.{ℕ, ◌+◌, ◌<◌}
use mathlib.Core.Path.{◌≡◌, refl, sym, ap}
use mathlib.Core.Bool.{Bool, true, false, not, ◌&&◌, cond}
use mathlib.Core.List.{List, [], ◌∷◌, ◌++◌}
use native.Mathlib.Omega.{arith}
use lib.Dec.{eqb}
use borrow.Author.Tests.{ne_eqb}
use Rattle.tally.specs.Tally.{one_if, sum, all, count}
use Rattle.rules.specs.Grid.{is_black, until_black, inside}
use Rattle.rules.specs.CheckParts.{is_empty}

until_black_lem : (l : List ℕ) (c : ℕ) → is_black c ≡ true → until_black (l ++ c ∷ []) ≡ until_black l
unfolding until_black
until_black_lem [] c e = rw e
until_black_lem (x ∷ l) c e = rw (until_black_lem l c e)

until_white : (l : List ℕ) (c : ℕ) → is_black c ≡ false → count is_black l ≡ 0 → until_black (l ++ c ∷ []) ≡ until_black l ++ c ∷ []
unfolding until_black count
until_white [] c e h = rw e
until_white (x ∷ l) c e h =
    elim (is_black x) as (λ b. one_if b + count is_black l ≡ 0 → cond b [] (x ∷ until_black (l ++ c ∷ [])) ≡ cond b [] (x ∷ until_black l) ++ c ∷ []) [
      | true ↦ λ h. absurd (omega arith)
      | false ↦ λ h. ap (λ t. x ∷ t) (until_white l c e (omega arith))
    ] h

until_past : (l : List ℕ) (c : ℕ) → 0 < count is_black l → until_black (l ++ c ∷ []) ≡ until_black l
unfolding until_black count
until_past [] c h = absurd (omega arith)
until_past (x ∷ l) c h =
    elim (is_black x) as (λ b. 0 < one_if b + count is_black l → cond b [] (x ∷ until_black (l ++ c ∷ [])) ≡ cond b [] (x ∷ until_black l)) [
      | true ↦ λ h. refl
      | false ↦ λ h. ap (λ t. x ∷ t) (until_past l c (omega arith))
    ] h

-- a black adds nothing
pub inside_black : (l : List ℕ) (c : ℕ) → is_black c ≡ true → inside (l ++ c ∷ []) ≡ inside l
unfolding inside until_black
inside_black [] c e = rw e
inside_black (x ∷ l) c e = rw (until_black_lem l c e, inside_black l c e)

-- another cell is added where one black stands in front of it
pub inside_white : (l : List ℕ) (c : ℕ) → is_black c ≡ false → count is_black l ≡ 1 → inside (l ++ c ∷ []) ≡ inside l ++ c ∷ []
unfolding inside count
inside_white [] c e h = absurd (omega arith)
inside_white (x ∷ l) c e h =
    elim (is_black x) as (λ b. one_if b + count is_black l ≡ 1 → cond b (until_black (l ++ c ∷ [])) (inside (l ++ c ∷ [])) ≡ cond b (until_black l) (inside l) ++ c ∷ []) [
      | true ↦ λ h. until_white l c e (omega arith)
      | false ↦ λ h. inside_white l c e (omega arith)
    ] h

-- and nowhere else
pub inside_off : (l : List ℕ) (c : ℕ) → is_black c ≡ false → (count is_black l ≡ 1 → ⊥) → inside (l ++ c ∷ []) ≡ inside l
unfolding inside count
inside_off [] c e h = rw e
inside_off (x ∷ l) c e h =
    elim (is_black x) as (λ b. (one_if b + count is_black l ≡ 1 → ⊥) → cond b (until_black (l ++ c ∷ [])) (inside (l ++ c ∷ [])) ≡ cond b (until_black l) (inside l)) [
      | true ↦ λ h. until_past l c (omega arith)
      | false ↦ λ h. inside_off l c e (omega arith)
    ] h

pub sum_snoc : (l : List ℕ) (c : ℕ) → sum (l ++ c ∷ []) ≡ sum l + c
unfolding sum
sum_snoc [] c = omega arith
sum_snoc (x ∷ l) c = omega (arith, sum_snoc l c)

pub count_snoc : (p : ℕ → Bool) (l : List ℕ) (c : ℕ) → count p (l ++ c ∷ []) ≡ count p l + one_if (p c)
unfolding count
count_snoc p [] c = omega arith
count_snoc p (x ∷ l) c = omega (arith, count_snoc p l c)

-- no cell is empty: the empty ones are counted 0
pub none_empty : (l : List ℕ) → all (λ c. not (is_empty c)) l ≡ eqb (count is_empty l) 0
unfolding all count
none_empty [] = refl
none_empty (x ∷ l) =
    rw (none_empty l) (elim (is_empty x) as (λ b. (not b && eqb (count is_empty l) 0) ≡ eqb (one_if b + count is_empty l) 0) [
      | true ↦ sym (ne_eqb (1 + count is_empty l) 0 (λ e. omega arith))
      | false ↦ let z : 0 + count is_empty l ≡ count is_empty l = omega arith in rw z
    ])
