-- Lists: elements that are kept, joined, counted or found at a place, and tests of a span of numbers. Assumes nothing.
use Prim.Native.Nat.{ℕ, zero, suc, ◌+◌, ◌≤◌, ◌<◌}
use mathlib.Core.Path.{◌≡◌, refl, sym, ap, ap₂, ◌∙◌}
use mathlib.Core.Bool.{Bool, true, false}
use mathlib.Core.Logic.{⊎_elim}
use mathlib.Core.List.Memᴰ
use mathlib.Core.List.{List, [], ◌∷◌, map, Memᴰ}
use native.Mathlib.Omega.{arith}
use native.Mathlib.Nat.{not-suc-le-zero, le_of_suc-le-suc}
use lib.Dec.{eqb}
use lib.ListN.{length, get_or}
use borrow.Author.Tests.{eqb-true, eq-eqb}
use Rattle.tally.specs.Tally.{one_if, count, join, span}
use Rattle.tally.specs.Way.{Way, done, put}
use Rattle.tally.proofs.TallyLaws.{test_ext, span_in, span_once, Once}

-- ---- tests

pub bit_zero : (b : Bool) → one_if b ≡ 0 → b ≡ false
bit_zero true e = absurd (omega arith)
bit_zero false e = refl

-- ---- counted and joined elements

module _ {A : Type 0} where
  -- tests that agree on each element, and tests that add up on each
  pub count_on : {p q : A → Bool} (xs : List A) → ((x : A) → Memᴰ x xs → p x ≡ q x) → count p xs ≡ count q xs
  unfolding count
  count_on [] h = refl
  count_on (x ∷ xs) h = ap₂ (λ b k. one_if b + k) (h x (Memᴰ.head refl)) (count_on xs (λ y m. h y (Memᴰ.tail m)))

  pub count_add : (p q r : A → Bool) (xs : List A) → ((x : A) → Memᴰ x xs → one_if (p x) ≡ one_if (q x) + one_if (r x)) → count p xs ≡ count q xs + count r xs
  unfolding count
  count_add p q r [] h = refl
  count_add p q r (x ∷ xs) h = omega (arith, h x (Memᴰ.head refl), count_add p q r xs (λ y m. h y (Memᴰ.tail m)))

  pub count_pos : (p : A → Bool) {x : A} {xs : List A} → Memᴰ x xs → p x ≡ true → 0 < count p xs
  unfolding count
  count_pos p (Memᴰ.head {x = y} e) t = omega (arith, ap (λ z. one_if (p z)) e, ap one_if t)
  count_pos p (Memᴰ.tail m) t = omega (arith, count_pos p m t)

module _ {A B : Type 0} where
  pub mem_join : (f : A → List B) {x : B} {y : A} {ys : List A} → Memᴰ y ys → Memᴰ x (f y) → Memᴰ x (join (map f ys))
  unfolding join
  mem_join f (Memᴰ.head {xs = ys} e) m = Memᴰ.append_left (join (map f ys)) (rw e at m)
  mem_join f (Memᴰ.tail {x = z} k) m = Memᴰ.append_right (f z) (mem_join f k m)

  pub of_join : (f : A → List B) {x : B} (ys : List A) → Memᴰ x (join (map f ys)) → (y : A) × Memᴰ y ys × Memᴰ x (f y)
  unfolding join
  of_join f [] m = absurd (Memᴰ.not-nil m)
  of_join f {x} (y ∷ ys) m =
      ⊎_elim (λ q. (y, Memᴰ.head refl, q)) (λ q. let w = of_join f ys q in (w.0, Memᴰ.tail w.1, w.2)) (Memᴰ.append_cases (f y) m)

-- ---- numbers in a list

pub count_mem : {c : ℕ} {xs : List ℕ} → Memᴰ c xs → 0 < count (eqb c) xs
count_mem {c} m = count_pos (eqb c) m (eq-eqb c c refl)

-- ---- places

pub get_or_mem : (xs : List ℕ) (i : ℕ) → i < length xs → Memᴰ (get_or xs i 0) xs
get_or_mem [] i h = absurd (not-suc-le-zero h)
get_or_mem (x ∷ xs) zero h = Memᴰ.head refl
get_or_mem (x ∷ xs) (suc i) h = Memᴰ.tail (get_or_mem xs i (le_of_suc-le-suc h))

pub mem_place : {c : ℕ} {xs : List ℕ} → Memᴰ c xs → (i : ℕ) × (i < length xs) × (get_or xs i 0 ≡ c)
mem_place (Memᴰ.head e) = (0, omega arith, sym e)
mem_place (Memᴰ.tail m) = let w = mem_place m in (suc w.0, omega (arith, w.1), w.2)

-- an element that passes, and its place
pub count_place : (p : ℕ → Bool) (l : List ℕ) → 0 < count p l → (i : ℕ) × (i < length l) × (p (get_or l i 0) ≡ true)
unfolding count
count_place p [] h = absurd (not-suc-le-zero h)
count_place p (x ∷ l) h = go (p x) refl (count_place p l)
  where
    go : (b : Bool) → p x ≡ b → (0 < count p l → (i : ℕ) × (i < length l) × (p (get_or l i 0) ≡ true)) → (i : ℕ) × (i < suc (length l)) ×
        (p (get_or (x ∷ l) i 0) ≡ true)
    go true e r = (0, omega arith, e)
    go false e r = let k = r (omega (arith, ap one_if e)) in (suc k.0, omega (arith, k.1), k.2)

pub count_some : (p : ℕ → Bool) (l : List ℕ) → 0 < count p l → (x : ℕ) × Memᴰ x l × (p x ≡ true)
count_some p l h = let w = count_place p l h in (get_or l w.0 0, get_or_mem l w.0 w.1, w.2)

pub count_in : (c : ℕ) (xs : List ℕ) → 0 < count (eqb c) xs → Memᴰ c xs
count_in c xs h = let w = count_some (eqb c) xs h in Memᴰ.cast (eqb-true c w.0 w.2) w.1

-- what passes once passes at one place
pub once_place : (p : ℕ → Bool) (l : List ℕ) → count p l ≤ 1 → (i j : ℕ) → i < length l → j < length l → p (get_or l i 0) ≡ true → p (get_or l j 0) ≡ true → i ≡ j
unfolding count
once_place p [] c i j h g t u = absurd (not-suc-le-zero h)
once_place p (x ∷ l) c zero zero h g t u = refl
once_place p (x ∷ l) c zero (suc j) h g t u = absurd (omega (arith, ap one_if t, count_pos p (get_or_mem l j (le_of_suc-le-suc g)) u))
once_place p (x ∷ l) c (suc i) zero h g t u = absurd (omega (arith, ap one_if u, count_pos p (get_or_mem l i (le_of_suc-le-suc h)) t))
once_place p (x ∷ l) c (suc i) (suc j) h g t u = ap suc (once_place p l (omega arith) i j (le_of_suc-le-suc h) (le_of_suc-le-suc g) t u)

pub once_same : (p : ℕ → Bool) (xs : List ℕ) → count p xs ≤ 1 → {x y : ℕ} → Memᴰ x xs → Memᴰ y xs → p x ≡ true → p y ≡ true → x ≡ y
once_same p xs c mx my t u =
    let a = mem_place mx in
    let b = mem_place my in
    let e = once_place p xs c a.0 b.0 a.1 b.1 (ap p a.2 ∙ t) (ap p b.2 ∙ u) in
    sym a.2 ∙ ap (λ i. get_or xs i 0) e ∙ b.2

-- ---- a test that one value passes, or at most one

pub count_sole : (p : ℕ → Bool) (c : ℕ) (xs : List ℕ) → p c ≡ true → ((x : ℕ) → Memᴰ x xs → p x ≡ true → x ≡ c) → count p xs ≡ count (eqb c) xs
count_sole p c xs t h =
    count_on xs (λ x m. test_ext (p x) (eqb c x) (λ s. eq-eqb c x (sym (h x m s))) (λ s. ap p (sym (eqb-true c x s)) ∙ t))

pub count_most : (p : ℕ → Bool) (xs : List ℕ) → Once xs → ((x y : ℕ) → Memᴰ x xs → Memᴰ y xs → p x ≡ true → p y ≡ true → x ≡ y) → count p xs ≤ 1
unfolding Once
count_most p xs o h = go (count p xs) refl
  where
    go : (k : ℕ) → count p xs ≡ k → count p xs ≤ 1
    go zero e = omega arith
    go (suc k) e =
        let w = count_some p xs (omega arith) in
        omega (arith, count_sole p w.0 xs w.2 (λ x m t. h x w.0 m w.1 t w.2), o w.0 w.1)

-- ---- spans, and maps of them

pub span_is_once : (a k : ℕ) → Once (span a k)
unfolding Once
span_is_once a k c m = let r = span_in a k c m in span_once a k c r.0 r.1

pub map_on : {f g : ℕ → ℕ} (xs : List ℕ) → ((x : ℕ) → Memᴰ x xs → f x ≡ g x) → map f xs ≡ map g xs
map_on [] h = refl
map_on (x ∷ xs) h = ap₂ ◌∷◌ (h x (Memᴰ.head refl)) (map_on xs (λ y m. h y (Memᴰ.tail m)))

-- ---- ways

pub way_mem : {s : List ℕ} {k : ℕ} {l : List ℕ} → Way s k l → (c : ℕ) → Memᴰ c l → Memᴰ c s
way_mem done c m = elim m [ ]
way_mem (put m w) c (Memᴰ.head e) = Memᴰ.cast e m
way_mem (put m w) c (Memᴰ.tail k) = way_mem w c k
