-- Laws of sums. Assumes nothing.
use Prim.Native.Nat.{ℕ, zero, suc, ◌+◌, ◌≤◌, ◌<◌}
use mathlib.Core.Path.{◌≡◌, refl, ap, ◌∙◌}
use native.Mathlib.Omega.{arith}
use native.Mathlib.Decide.{ℕ_discrete, dec_lt}
use borrow.Author.Tests.{eq-eqb, ne_eqb}
use Rattle.bits.specs.Sum.{sum_over, same}

pub same_yes : (a b : ℕ) → a ≡ b → same a b ≡ 1
unfolding same
same_yes a b e = rw (eq-eqb a b e)

pub same_no : (a b : ℕ) → (a ≡ b → ⊥) → same a b ≡ 0
unfolding same
same_no a b n = rw (ne_eqb a b n)

-- a sum of sums
pub sum_add : (a n : ℕ) (f g d : ℕ → ℕ) → ((k : ℕ) → a ≤ k → k < a + n → f k ≡ g k + d k) → sum_over a n f ≡ sum_over a n g + sum_over a n d
unfolding sum_over
sum_add a zero f g d e = omega arith
sum_add a (suc n) f g d e = omega (arith, sum_add a n f g d (λ k p q. e k p (omega arith)), e (a + n) (omega arith) (omega arith))

pub sum_same : (a n : ℕ) (f g : ℕ → ℕ) → ((k : ℕ) → a ≤ k → k < a + n → f k ≡ g k) → sum_over a n f ≡ sum_over a n g
unfolding sum_over
sum_same a zero f g e = refl
sum_same a (suc n) f g e = omega (arith, sum_same a n f g (λ k p q. e k p (omega arith)), e (a + n) (omega arith) (omega arith))

pub sum_none : (a n : ℕ) (f : ℕ → ℕ) → ((k : ℕ) → a ≤ k → k < a + n → f k ≡ 0) → sum_over a n f ≡ 0
unfolding sum_over
sum_none a zero f e = refl
sum_none a (suc n) f e = omega (arith, sum_none a n f (λ k p q. e k p (omega arith)), e (a + n) (omega arith) (omega arith))

-- one of them is 1 and the others are 0
pub sum_one : (a n j : ℕ) (f : ℕ → ℕ) → a ≤ j → j < a + n → f j ≡ 1 → ((k : ℕ) → a ≤ k → k < a + n → (k ≡ j → ⊥) → f k ≡ 0) → sum_over a n f ≡ 1
unfolding sum_over
sum_one a zero j f p q e o = absurd (omega arith)
sum_one a (suc n) j f p q e o = go (λ r. sum_one a n j f p r e (λ k u v w. o k u (omega arith) w)) (ℕ_discrete (a + n) j)
  where
    go : (j < a + n → sum_over a n f ≡ 1) → Dec (a + n ≡ j) → sum_over a n f + f (a + n) ≡ 1
    go ih (yes d) =
        let t : f (a + n) ≡ 1 = ap f d ∙ e in
        omega (arith, sum_none a n f (λ k u v. o k u (omega arith) (λ w. omega arith)))
    go ih (no d) = omega (arith, ih (omega arith), o (a + n) (omega arith) (omega arith) d)

-- what is summed is at most the sum
pub sum_has : (a n j : ℕ) (f : ℕ → ℕ) → a ≤ j → j < a + n → f j ≤ sum_over a n f
unfolding sum_over
sum_has a zero j f p q = absurd (omega arith)
sum_has a (suc n) j f p q = go (λ r. sum_has a n j f p r) (ℕ_discrete (a + n) j)
  where
    go : (j < a + n → f j ≤ sum_over a n f) → Dec (a + n ≡ j) → f j ≤ sum_over a n f + f (a + n)
    go ih (yes d) = let t : f (a + n) ≡ f j = ap f d in omega arith
    go ih (no d) = omega (arith, ih (omega arith))

pub sum_le : (a n : ℕ) (f g : ℕ → ℕ) → ((k : ℕ) → f k ≤ g k) → sum_over a n f ≤ sum_over a n g
unfolding sum_over
sum_le a zero f g e = omega arith
sum_le a (suc n) f g e = omega (arith, sum_le a n f g e, e (a + n))

pub sum_two : (a n i j : ℕ) (f : ℕ → ℕ) → a ≤ i → i < j → j < a + n → f i + f j ≤ sum_over a n f
unfolding sum_over
sum_two a zero i j f p u q = absurd (omega arith)
sum_two a (suc n) i j f p u q = go (λ r. sum_two a n i j f p u r) (ℕ_discrete (a + n) j)
  where
    go : (j < a + n → f i + f j ≤ sum_over a n f) → Dec (a + n ≡ j) → f i + f j ≤ sum_over a n f + f (a + n)
    go ih (yes d) = let t : f (a + n) ≡ f j = ap f d in omega (arith, sum_has a n i f p (omega arith))
    go ih (no d) = omega (arith, ih (omega arith))

-- where the sum is at most 1, one of them leaves nothing for another
pub sum_lone : (a n i j : ℕ) (f : ℕ → ℕ) → a ≤ i → i < a + n → a ≤ j → j < a + n → (j ≡ i → ⊥) → f i ≡ 1 → sum_over a n f ≤ 1 → f j ≡ 0
sum_lone a n i j f p q u v d e h = go (dec_lt i j)
  where
    go : Dec (i < j) → f j ≡ 0
    go (yes w) = omega (arith, sum_two a n i j f p w v)
    go (no w) = omega (arith, sum_two a n j i f u (omega arith) q)

-- the first of them by itself
pub sum_shift : (n : ℕ) (f g : ℕ → ℕ) → ((k : ℕ) → f (suc k) ≡ g k) → sum_over 0 (suc n) f ≡ f 0 + sum_over 0 n g
unfolding sum_over
sum_shift zero f g e = let z : 0 + 0 ≡ 0 = omega arith in rw z (omega arith)
sum_shift (suc n) f g e =
    let a : 0 + suc n ≡ suc n = omega arith in
    let b : 0 + n ≡ n = omega arith in
    let ih = sum_shift n f g e in
    let q : f (0 + suc n) ≡ g (0 + n) = rw (a, b) (e n) in
    omega arith

-- one of them falls by one and the others stay
pub sum_fall : (a n j : ℕ) (f g : ℕ → ℕ) → a ≤ j → j < a + n → f j ≡ g j + 1 → ((k : ℕ) → a ≤ k → k < a + n → (k ≡ j → ⊥) → f k ≡ g k) → sum_over a n f ≡ sum_over a n g + 1
unfolding sum_over
sum_fall a zero j f g p q e o = absurd (omega arith)
sum_fall a (suc n) j f g p q e o = go (λ r. sum_fall a n j f g p r e (λ k u v w. o k u (omega arith) w)) (ℕ_discrete (a + n) j)
  where
    go : (j < a + n → sum_over a n f ≡ sum_over a n g + 1) → Dec (a + n ≡ j) → sum_over a n f + f (a + n) ≡ sum_over a n g + g (a + n) + 1
    go ih (yes d) =
        let t : f (a + n) ≡ g (a + n) + 1 = rw d e in
        omega (arith, sum_same a n f g (λ k u v. o k u (omega arith) (λ w. omega arith)))
    go ih (no d) = omega (arith, ih (omega arith), o (a + n) (omega arith) (omega arith) d)

-- one more at the end
pub sum_next : (a n : ℕ) (f : ℕ → ℕ) → sum_over a (suc n) f ≡ sum_over a n f + f (a + n)
unfolding sum_over
sum_next a n f = refl

-- the first of them by itself, from any number on
pub sum_first : (a n : ℕ) (f : ℕ → ℕ) → sum_over a (suc n) f ≡ f a + sum_over (suc a) n f
unfolding sum_over
sum_first a zero f = let z : a + 0 ≡ a = omega arith in rw z (omega arith)
sum_first a (suc n) f =
    let e : a + suc n ≡ suc a + n = omega arith in
    let ih = sum_first a n f in
    let q : f (a + suc n) ≡ f (suc a + n) = ap f e in
    omega arith

pub sum_zero : (a : ℕ) (f : ℕ → ℕ) → sum_over a 0 f ≡ 0
unfolding sum_over
sum_zero a f = refl
