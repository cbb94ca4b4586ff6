-- What is kept of a list, the first element that passes a test, and sorted lists: what they hold, and two parts of one. Assumes nothing.
use Prim.Native.Nat.{ℕ, suc, ◌+◌, ◌<◌}
use mathlib.Core.Path.{◌≡◌, refl, sym, ap, ◌∙◌, subst}
use mathlib.Core.Bool.{Bool, true, false, not, ◌&&◌, cond}
use mathlib.Core.Logic.{◌⊎◌, inl, inr, ⊎_elim}
use mathlib.Core.List.{List, [], ◌∷◌, ◌++◌, map, Memᴰ}
use mathlib.Core.List.Memᴰ
use native.Mathlib.Omega.{arith}
use lib.ListN.{length}
use borrow.Author.Tests.{not-true}
use Rattle.tally.specs.Tally.{one_if, all, count, keep, first, insert, sort, ordered}
use Rattle.tally.proofs.TallyLaws.{and_left, and_right, and_both}
use Rattle.tally.proofs.WayLaws.{all_each, all_in}

-- ---- the first that passes

module _ {A : Type 0} (q : A → Bool) (d : A) where
  -- It is an element that passes, or none does and it is the default.
  pub first_cases : (xs : List A) → (Memᴰ (first q d xs) xs × (q (first q d xs) ≡ true)) ⊎ ((count q xs ≡ 0) × (first q d xs ≡ d))
  unfolding first count
  first_cases [] = inr (refl, refl)
  first_cases (x ∷ xs) = go (q x) refl (first_cases xs)
    where
      go : (b : Bool) → q x ≡ b → (Memᴰ (first q d xs) xs × (q (first q d xs) ≡ true)) ⊎ ((count q xs ≡ 0) × (first q d xs ≡ d)) →
          (Memᴰ (cond b x (first q d xs)) (x ∷ xs) × (q (cond b x (first q d xs)) ≡ true)) ⊎ ((one_if b + count q xs ≡ 0) × (cond b x (first q d xs) ≡ d))
      go true e r = inl (Memᴰ.head refl, e)
      go false e r = ⊎_elim (λ w. inl (Memᴰ.tail w.0, w.1)) (λ w. inr (omega (arith, w.0), w.1)) r

  pub first_passes : (xs : List A) → 0 < count q xs → Memᴰ (first q d xs) xs × (q (first q d xs) ≡ true)
  first_passes xs h = ⊎_elim (λ w. w) (λ w. absurd (omega (arith, w.0))) (first_cases xs)

  pub first_none : (xs : List A) → ((x : A) → Memᴰ x xs → q x ≡ true → ⊥) → first q d xs ≡ d
  first_none xs h = ⊎_elim (λ w. absurd (h (first q d xs) w.0 w.1)) (λ w. w.1) (first_cases xs)

module _ {A : Type 0} where
  -- ---- what is kept of a list

  pub mem_keep : (p : A → Bool) {x : A} {xs : List A} → Memᴰ x xs → p x ≡ true → Memᴰ x (keep p xs)
  unfolding keep
  mem_keep p (Memᴰ.head {x = y} {xs = ys} e) t = let u : p y ≡ true = rw e at t in rw u (Memᴰ.head e)
  mem_keep p {x} (Memᴰ.tail {x = y} {xs = ys} m) t =
      elim (p y) as (λ b. Memᴰ x (cond b (y ∷ keep p ys) (keep p ys))) [ true ↦ Memᴰ.tail (mem_keep p m t) | false ↦ mem_keep p m t ]

  pub of_keep : (p : A → Bool) {x : A} (xs : List A) → Memᴰ x (keep p xs) → Memᴰ x xs × (p x ≡ true)
  unfolding keep
  of_keep p [] m = absurd (Memᴰ.not-nil m)
  of_keep p {x} (y ∷ xs) m = go (p y) refl m (of_keep p xs)
    where
      go : (b : Bool) → p y ≡ b → Memᴰ x (cond b (y ∷ keep p xs) (keep p xs)) → (Memᴰ x (keep p xs) → Memᴰ x xs × (p x ≡ true)) → Memᴰ x
          (y ∷ xs) × (p x ≡ true)
      go true e m r = ⊎_elim (λ q. (Memᴰ.head q, ap p q ∙ e)) (λ q. let w = r q in (Memᴰ.tail w.0, w.1)) (Memᴰ.cases_cons m)
      go false e m r = let w = r m in (Memᴰ.tail w.0, w.1)

  pub keep_ext : {p q : A → Bool} (xs : List A) → ((x : A) → Memᴰ x xs → p x ≡ q x) → keep p xs ≡ keep q xs
  unfolding keep
  keep_ext [] h = refl
  keep_ext {p} {q} (x ∷ xs) h = rw (h x (Memᴰ.head refl), keep_ext {p = p} {q = q} xs (λ y m. h y (Memᴰ.tail m)))

  pub keep_keep : (p q : A → Bool) (xs : List A) → keep q (keep p xs) ≡ keep (λ x. p x && q x) xs
  unfolding keep
  keep_keep p q [] = refl
  keep_keep p q (x ∷ xs) = go (p x) (keep p xs) (keep (λ x. p x && q x) xs) (keep_keep p q xs)
    where
      go : (b : Bool) (l k : List A) → keep q l ≡ k → keep q (cond b (x ∷ l) l) ≡ cond (b && q x) (x ∷ k) k
      go true l k e = ap (λ y. cond (q x) (x ∷ y) y) e
      go false l k e = e

  pub keep_map : {B : Type 0} (q : B → Bool) (f : A → B) (xs : List A) → keep q (map f xs) ≡ map f (keep (λ x. q (f x)) xs)
  unfolding keep
  keep_map q f [] = refl
  keep_map q f (x ∷ xs) = go (q (f x)) (keep_map q f xs)
    where
      go : (b : Bool) → keep q (map f xs) ≡ map f (keep (λ x. q (f x)) xs) →
          cond b (f x ∷ keep q (map f xs)) (keep q (map f xs)) ≡ map f (cond b (x ∷ keep (λ x. q (f x)) xs) (keep (λ x. q (f x)) xs))
      go true e = ap (λ l. f x ∷ l) e
      go false e = e

  pub length_keep : (p : A → Bool) (xs : List A) → length (keep p xs) ≡ count p xs
  unfolding keep count
  length_keep p [] = refl
  length_keep p (x ∷ xs) = go (p x) (keep p xs) (length_keep p xs)
    where
      go : (b : Bool) (l : List A) {k : ℕ} → length l ≡ k → length (cond b (x ∷ l) l) ≡ one_if b + k
      go true l e = omega (arith, e)
      go false l e = omega (arith, e)

  -- ---- what a sorted list holds

  module _ (precedes : A → A → Bool) where
    insert_length : (x : A) (xs : List A) → length (insert precedes x xs) ≡ suc (length xs)
    unfolding insert
    insert_length x [] = refl
    insert_length x (y ∷ ys) = go (precedes x y) (insert precedes x ys) (insert_length x ys)
      where
        go : (b : Bool) (l : List A) → length l ≡ suc (length ys) → length (cond b (x ∷ y ∷ ys) (y ∷ l)) ≡ suc (suc (length ys))
        go true l e = refl
        go false l e = ap suc e

    pub sort_length : (xs : List A) → length (sort precedes xs) ≡ length xs
    unfolding sort
    sort_length [] = refl
    sort_length (x ∷ xs) = insert_length x (sort precedes xs) ∙ ap suc (sort_length xs)

    insert_count : (q : A → Bool) (x : A) (xs : List A) → count q (insert precedes x xs) ≡ one_if (q x) + count q xs
    unfolding insert count
    insert_count q x [] = refl
    insert_count q x (y ∷ ys) = go (precedes x y) (insert precedes x ys) (insert_count q x ys)
      where
        go : (b : Bool) (l : List A) → count q l ≡ one_if (q x) + count q ys → count q (cond b (x ∷ y ∷ ys) (y ∷ l)) ≡ one_if (q x) + (one_if (q y) + count q ys)
        go true l e = refl
        go false l e = omega (arith, e)

    pub sort_count : (q : A → Bool) (xs : List A) → count q (sort precedes xs) ≡ count q xs
    unfolding sort count
    sort_count q [] = refl
    sort_count q (x ∷ xs) = insert_count q x (sort precedes xs) ∙ ap (λ k. one_if (q x) + k) (sort_count q xs)

    insert_here : (x : A) (ys : List A) → Memᴰ x (insert precedes x ys)
    unfolding insert
    insert_here x [] = Memᴰ.head refl
    insert_here x (y ∷ ys) = go (precedes x y) (insert precedes x ys) (insert_here x ys)
      where
        go : (b : Bool) (l : List A) → Memᴰ x l → Memᴰ x (cond b (x ∷ y ∷ ys) (y ∷ l))
        go true l m = Memᴰ.head refl
        go false l m = Memᴰ.tail m

    insert_there : (x : A) {z : A} {ys : List A} → Memᴰ z ys → Memᴰ z (insert precedes x ys)
    unfolding insert
    insert_there x {z} (Memᴰ.head {x = y} {xs = ys} e) = go (precedes x y) (insert precedes x ys)
      where
        go : (b : Bool) (l : List A) → Memᴰ z (cond b (x ∷ y ∷ ys) (y ∷ l))
        go true l = Memᴰ.tail (Memᴰ.head e)
        go false l = Memᴰ.head e
    insert_there x {z} (Memᴰ.tail {x = y} {xs = ys} m) = go (precedes x y) (insert precedes x ys) (insert_there x m)
      where
        go : (b : Bool) (l : List A) → Memᴰ z l → Memᴰ z (cond b (x ∷ y ∷ ys) (y ∷ l))
        go true l k = Memᴰ.tail (Memᴰ.tail m)
        go false l k = Memᴰ.tail k

    pub mem_sort : {x : A} {xs : List A} → Memᴰ x xs → Memᴰ x (sort precedes xs)
    unfolding sort
    mem_sort {x} (Memᴰ.head {x = y} {xs = ys} e) = subst (λ z. Memᴰ z (insert precedes y (sort precedes ys))) (sym e) (insert_here y (sort precedes ys))
    mem_sort {x} (Memᴰ.tail {x = y} {xs = ys} m) = insert_there y (mem_sort m)

    of_insert : (x : A) {z : A} (ys : List A) → Memᴰ z (insert precedes x ys) → (z ≡ x) ⊎ Memᴰ z ys
    unfolding insert
    of_insert x [] m = ⊎_elim inl (λ k. absurd (Memᴰ.not-nil k)) (Memᴰ.cases_cons m)
    of_insert x {z} (y ∷ ys) m = go (precedes x y) (insert precedes x ys) (of_insert x ys) m
      where
        go : (b : Bool) (l : List A) → (Memᴰ z l → (z ≡ x) ⊎ Memᴰ z ys) → Memᴰ z (cond b (x ∷ y ∷ ys) (y ∷ l)) → (z ≡ x) ⊎ Memᴰ z (y ∷ ys)
        go true l f (Memᴰ.head e) = inl e
        go true l f (Memᴰ.tail k) = inr k
        go false l f (Memᴰ.head e) = inr (Memᴰ.head e)
        go false l f (Memᴰ.tail k) = ⊎_elim inl (λ q. inr (Memᴰ.tail q)) (f k)

    pub of_sort : {x : A} (xs : List A) → Memᴰ x (sort precedes xs) → Memᴰ x xs
    unfolding sort
    of_sort [] m = absurd (Memᴰ.not-nil m)
    of_sort (y ∷ ys) m = ⊎_elim Memᴰ.head (λ k. Memᴰ.tail (of_sort ys k)) (of_insert y (sort precedes ys) m)

    -- ---- two parts, each of the first before each of the second

    insert_first : (x : A) (xs ys : List A) → ((y : A) → Memᴰ y ys → precedes x y ≡ true) → insert precedes x (xs ++ ys) ≡ insert precedes x xs ++ ys
    unfolding insert
    insert_first x [] [] h = refl
    insert_first x [] (y ∷ ys) h = rw (h y (Memᴰ.head refl))
    insert_first x (z ∷ zs) ys h = go (precedes x z) (insert precedes x (zs ++ ys)) (insert precedes x zs) (insert_first x zs ys h)
      where
        go : (b : Bool) (l k : List A) → l ≡ k ++ ys → cond b (x ∷ z ∷ (zs ++ ys)) (z ∷ l) ≡ cond b (x ∷ z ∷ zs) (z ∷ k) ++ ys
        go true l k e = refl
        go false l k e = ap (λ q. z ∷ q) e

    insert_second : (x : A) (xs ys : List A) → ((y : A) → Memᴰ y xs → precedes x y ≡ false) → insert precedes x (xs ++ ys) ≡ xs ++ insert precedes x ys
    unfolding insert
    insert_second x [] ys h = refl
    insert_second x (z ∷ zs) ys h = rw (h z (Memᴰ.head refl), insert_second x zs ys (λ y m. h y (Memᴰ.tail m)))

    -- What passes a test precedes what does not: a sorted list is that which passes, sorted, and then the rest.
    pub sort_split : (p : A → Bool) (xs : List A) → ((x y : A) → Memᴰ x xs → Memᴰ y xs → p x ≡ true → p y ≡ false → (precedes x y ≡ true) × (precedes y x ≡ false)) →
        sort precedes xs ≡ sort precedes (keep p xs) ++ sort precedes (keep (λ x. not (p x)) xs)
    unfolding sort keep
    sort_split p [] h = refl
    sort_split p (x ∷ xs) h = go (p x) refl (sort_split p xs (λ y z m k. h y z (Memᴰ.tail m) (Memᴰ.tail k)))
      where
        q : A → Bool
        q y = not (p y)

        go : (b : Bool) → p x ≡ b → sort precedes xs ≡ sort precedes (keep p xs) ++ sort precedes (keep q xs) →
            insert precedes x (sort precedes xs) ≡ sort precedes (cond b (x ∷ keep p xs) (keep p xs)) ++ sort precedes (cond (not b) (x ∷ keep q xs) (keep q xs))
        go true e ih =
            ap (insert precedes x) ih
            ∙ insert_first x (sort precedes (keep p xs)) (sort precedes (keep q xs))
            (λ y m. let k = of_keep q xs (of_sort (keep q xs) m) in (h x y (Memᴰ.head refl) (Memᴰ.tail k.0) e (not-true (p y) k.1)).0)
        go false e ih =
            ap (insert precedes x) ih
            ∙ insert_second x (sort precedes (keep p xs)) (sort precedes (keep q xs))
            (λ y m. let k = of_keep p xs (of_sort (keep p xs) m) in (h y x (Memᴰ.tail k.0) (Memᴰ.head refl) k.1 e).1)

    -- ---- an order: of two elements one precedes the other, and what precedes what precedes a third precedes the third

    module _ (total : (x y : A) → precedes x y ≡ false → precedes y x ≡ true) (transitive : (x y z : A) → precedes x y ≡ true → precedes y z ≡ true → precedes x z ≡ true) where
      insert_ordered : (x : A) (ys : List A) → ordered precedes ys ≡ true → ordered precedes (insert precedes x ys) ≡ true
      unfolding insert ordered all
      insert_ordered x [] o = refl
      insert_ordered x (y ∷ ys) o =
          go (precedes x y) refl (insert precedes x ys) (λ z. of_insert x {z = z} ys) (insert_ordered x ys (and_right (all (precedes y) ys) (ordered precedes ys) o))
        where
          behind : (z : A) → Memᴰ z ys → precedes y z ≡ true
          behind z m = all_each (precedes y) m (and_left (all (precedes y) ys) (ordered precedes ys) o)

          go : (b : Bool) → precedes x y ≡ b → (l : List A) → ((z : A) → Memᴰ z l → (z ≡ x) ⊎ Memᴰ z ys) → ordered precedes l ≡ true →
              ordered precedes (cond b (x ∷ y ∷ ys) (y ∷ l)) ≡ true
          go true e l of r = and_both (all_in (y ∷ ys) (λ z m. ⊎_elim (λ q. rw q e) (λ k. transitive x y z e (behind z k)) (Memᴰ.cases_cons m))) o
          go false e l of r = and_both (all_in l (λ z m. ⊎_elim (λ q. rw q (total x y e)) (behind z) (of z m))) r

      pub sort_ordered : (xs : List A) → ordered precedes (sort precedes xs) ≡ true
      unfolding sort ordered
      sort_ordered [] = refl
      sort_ordered (x ∷ xs) = insert_ordered x (sort precedes xs) (sort_ordered xs)

      keep_insert : (p : A → Bool) (x : A) (ys : List A) → ordered precedes ys ≡ true →
          keep p (insert precedes x ys) ≡ cond (p x) (insert precedes x (keep p ys)) (keep p ys)
      unfolding insert keep ordered all
      keep_insert p x [] o = refl
      keep_insert p x (y ∷ ys) o =
          go (precedes x y) refl (insert precedes x ys) (keep_insert p x ys (and_right (all (precedes y) ys) (ordered precedes ys) o))
        where
          both : (a b : Bool) (k : List A) → precedes x y ≡ false →
              cond b (y ∷ cond a (insert precedes x k) k) (cond a (insert precedes x k) k) ≡ cond a (insert precedes x (cond b (y ∷ k) k)) (cond b (y ∷ k) k)
          both true true k e = rw e
          both true false k e = refl
          both false true k e = refl
          both false false k e = refl

          ahead : precedes x y ≡ true → (z : A) → Memᴰ z (y ∷ ys) → precedes x z ≡ true
          ahead e z m =
              ⊎_elim (λ q. rw q e)
              (λ k. transitive x y z e (all_each (precedes y) k (and_left (all (precedes y) ys) (ordered precedes ys) o))) (Memᴰ.cases_cons m)

          front : precedes x y ≡ true → insert precedes x (keep p (y ∷ ys)) ≡ x ∷ keep p (y ∷ ys)
          front e = insert_first x [] (keep p (y ∷ ys)) (λ z m. ahead e z (of_keep p (y ∷ ys) m).0)

          go : (b : Bool) → precedes x y ≡ b → (l : List A) → keep p l ≡ cond (p x) (insert precedes x (keep p ys)) (keep p ys) →
              keep p (cond b (x ∷ y ∷ ys) (y ∷ l)) ≡ cond (p x) (insert precedes x (keep p (y ∷ ys))) (keep p (y ∷ ys))
          go true e l i = ap (λ k. cond (p x) k (keep p (y ∷ ys))) (sym (front e))
          go false e l i = ap (λ k. cond (p y) (y ∷ k) k) i ∙ both (p x) (p y) (keep p ys) e

      -- What is kept of a sorted list is what is kept, sorted.
      pub keep_sort : (p : A → Bool) (xs : List A) → keep p (sort precedes xs) ≡ sort precedes (keep p xs)
      unfolding sort keep
      keep_sort p [] = refl
      keep_sort p (x ∷ xs) = keep_insert p x (sort precedes xs) (sort_ordered xs) ∙ go (p x) (keep_sort p xs)
        where
          go : (b : Bool) → keep p (sort precedes xs) ≡ sort precedes (keep p xs) →
              cond b (insert precedes x (keep p (sort precedes xs))) (keep p (sort precedes xs)) ≡ sort precedes (cond b (x ∷ keep p xs) (keep p xs))
          go true e = ap (insert precedes x) e
          go false e = e
