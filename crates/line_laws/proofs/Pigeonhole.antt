-- The weight of a list by its values, and the pigeonhole principle. Assumes nothing.
use Prim.Native.Nat.{ℕ, ◌+◌, ◌*◌, ◌≤◌}
use mathlib.Core.Path.{◌≡◌, refl, sym, ap, ◌∙◌}
use mathlib.Core.List.{List, [], ◌∷◌, map, map-id, Memᴰ}
use native.Mathlib.Omega.{arith}
use native.Mathlib.Nat.{zero-mul, add-mul, mul-one, one-mul}
use native.Mathlib.Decide.{ℕ_discrete}
use lib.Dec.{eqb}
use lib.ListN.{length}
use borrow.Author.Tests.{ne_eqb}
use Rattle.tally.specs.Tally.{one_if, sum, count}
use Rattle.tally.proofs.TallyLaws.{sum_on, Once}

module _ {A : Type 0} where
  pub sum_add : (f g : A → ℕ) (xs : List A) → sum (map (λ x. f x + g x) xs) ≡ sum (map f xs) + sum (map g xs)
  unfolding sum
  sum_add f g [] = refl
  sum_add f g (x ∷ xs) = omega (arith, sum_add f g xs)

  pub sum_zero : (xs : List A) → sum (map (λ x. 0) xs) ≡ 0
  unfolding sum
  sum_zero [] = refl
  sum_zero (x ∷ xs) = omega (arith, sum_zero xs)

  pub sum_ones : (xs : List A) → sum (map (λ x. 1) xs) ≡ length xs
  unfolding sum
  sum_ones [] = refl
  sum_ones (x ∷ xs) = omega (arith, sum_ones xs)

  -- values of at most 1 come to at most the length, and are all 1 if they come to it
  pub sum_most : (f : A → ℕ) (xs : List A) → ((x : A) → Memᴰ x xs → f x ≤ 1) → sum (map f xs) ≤ length xs
  unfolding sum
  sum_most f [] h = omega arith
  sum_most f (x ∷ xs) h = omega (arith, h x (Memᴰ.head refl), sum_most f xs (λ y m. h y (Memᴰ.tail m)))

  pub sum_full : (f : A → ℕ) {x : A} {xs : List A} → Memᴰ x xs → ((y : A) → Memᴰ y xs → f y ≤ 1) → length xs ≤ sum (map f xs) → f x ≡ 1
  unfolding sum
  sum_full f (Memᴰ.head {x = y} {xs = ys} e) h l =
      rw e (omega (arith, h y (Memᴰ.head refl), sum_most f ys (λ z m. h z (Memᴰ.tail m))))
  sum_full f (Memᴰ.tail {x = y} {xs = ys} k) h l = sum_full f k (λ z m. h z (Memᴰ.tail m)) (omega (arith, h y (Memᴰ.head refl)))

-- ---- by value

pick_step : (w : ℕ → ℕ) (c d : ℕ) → one_if (eqb d c) * w d ≡ one_if (eqb c d) * w c
pick_step w c d = elim (ℕ_discrete d c) [ yes e ↦ rw e | no n ↦ simp (ne_eqb d c n, ne_eqb c d (λ e. n (sym e)), zero-mul) ]

-- a sum with one value picked out, as often as it stands there
sum_pick : (w : ℕ → ℕ) (c : ℕ) (ds : List ℕ) → sum (map (λ d. one_if (eqb d c) * w d) ds) ≡ count (eqb c) ds * w c
unfolding sum count
sum_pick w c [] = omega arith
sum_pick w c (d ∷ ds) = omega (arith, pick_step w c d, sum_pick w c ds)

-- counted by the values or by the places, it comes to the same
pub sum_swap : (ds m : List ℕ) → sum (map (λ d. count (eqb d) m) ds) ≡ sum (map (λ c. count (eqb c) ds) m)
unfolding sum count
sum_swap ds [] = sum_zero ds
sum_swap ds (c ∷ m) =
    let both = sum_add (λ d. one_if (eqb d c)) (λ d. count (eqb d) m) ds in
    let once = sum_on ds (λ d _. sym (mul-one (one_if (eqb d c)))) in
    omega (arith, sum_pick (λ _. 1) c ds, sum_swap ds m)

module _ (ds : List ℕ) (o : Once ds) where
  -- the weight of a list of such values: each value's, as often as it stands there
  pub sum_by_value : (w : ℕ → ℕ) (m : List ℕ) → ((c : ℕ) → Memᴰ c m → Memᴰ c ds) → sum (map w m) ≡ sum (map (λ d. count (eqb d) m * w d) ds)
  unfolding sum count Once
  sum_by_value w [] h = sym (sum_on ds (λ d _. zero-mul (w d)) ∙ sum_zero ds)
  sum_by_value w (c ∷ m) h =
      let one = o c (h c (Memᴰ.head refl)) in
      let pick = sum_pick w c ds in
      let rest = sum_by_value w m (λ x k. h x (Memᴰ.tail k)) in
      let both = sum_add (λ d. one_if (eqb d c) * w d) (λ d. count (eqb d) m * w d) ds in
      let split : sum (map (λ d. (one_if (eqb d c) + count (eqb d) m) * w d) ds) ≡ sum (map (λ d. one_if (eqb d c) * w d + count (eqb d) m * w d) ds) =
      sum_on ds (λ d _. add-mul (one_if (eqb d c)) (count (eqb d) m) (w d)) in
      omega (arith, ap (λ k. k * w c) one)

  pub length_by_value : (m : List ℕ) → ((c : ℕ) → Memᴰ c m → Memᴰ c ds) → length m ≡ sum (map (λ d. count (eqb d) m) ds)
  length_by_value m h = sym (sum_ones m) ∙ sum_by_value (λ _. 1) m h ∙ sum_on ds (λ d _. mul-one (count (eqb d) m))

  module _ (m : List ℕ) (h : (c : ℕ) → Memᴰ c m → Memᴰ c ds) where
    -- PIGEONHOLE: as many places as values, and no value twice: each value stands somewhere
    pub pigeonhole : length m ≡ length ds → ((d : ℕ) → Memᴰ d ds → count (eqb d) m ≤ 1) → (d : ℕ) → Memᴰ d ds → count (eqb d) m ≡ 1
    pigeonhole e l d k = sum_full (λ d. count (eqb d) m) k l (omega (arith, length_by_value m h))

    -- a list in which each value stands once has the length and the sum of the values
    pub length_each : ((d : ℕ) → Memᴰ d ds → count (eqb d) m ≡ 1) → length m ≡ length ds
    length_each one = length_by_value m h ∙ sum_on ds (λ d k. one d k) ∙ sum_ones ds

    pub sum_each : ((d : ℕ) → Memᴰ d ds → count (eqb d) m ≡ 1) → sum m ≡ sum ds
    sum_each one =
        ap sum (sym (map-id m)) ∙ sum_by_value (λ d. d) m h ∙ sum_on ds (λ d k. ap (λ x. x * d) (one d k) ∙ one-mul d) ∙ ap sum (map-id ds)
