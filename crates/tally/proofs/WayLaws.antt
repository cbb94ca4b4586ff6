-- What holds of each way. Assumes nothing.
use Prim.Native.Nat.{ℕ, zero, suc, ◌+◌, ◌≤◌, ◌<◌}
use mathlib.Core.Path.{◌≡◌, refl, sym, ap, ap₂, ◌∙◌, subst}
use mathlib.Core.Bool.{Bool, true, false, not, ◌&&◌, true≢false}
use mathlib.Core.Logic.{⊎_elim}
use mathlib.Core.List.Memᴰ
use mathlib.Core.List.{List, [], ◌∷◌, map, Memᴰ}
use native.Mathlib.Nat.{le_of_suc-le-suc, not-suc-le-zero}
use native.Mathlib.Omega.{arith}
use native.Mathlib.Decide.{dec_lt}
use lib.ListN.{length, get_or}
use Rattle.tally.specs.Tally.{one_if, sum, all, count, in_front, ways}
use Rattle.tally.specs.Way.{Way, done, put}
use Rattle.tally.proofs.TallyLaws.{and_left, and_right, and_both, all_append, count_split, count_le, count_in_front, count_one, count_same, same_list, same_refl, same_eq, Once}

module _ {A : Type 0} where
  -- what holds of all elements holds of each
  pub all_each : (p : A → Bool) {x : A} {xs : List A} → Memᴰ x xs → all p xs ≡ true → p x ≡ true
  unfolding all
  all_each p (Memᴰ.head {x = y} {xs = ys} e) t = rw e (and_left (p y) (all p ys) t)
  all_each p (Memᴰ.tail {x = y} {xs = ys} m) t = all_each p m (and_right (p y) (all p ys) t)

  -- what holds of each element holds of all
  pub all_in : {p : A → Bool} (xs : List A) → ((x : A) → Memᴰ x xs → p x ≡ true) → all p xs ≡ true
  unfolding all
  all_in [] h = refl
  all_in (x ∷ xs) h = and_both (h x (Memᴰ.head refl)) (all_in xs (λ y m. h y (Memᴰ.tail m)))

  pub all_of_map : {B : Type 0} (p : A → Bool) (f : B → A) (xs : List B) → all p (map f xs) ≡ all (λ x. p (f x)) xs
  unfolding all
  all_of_map p f [] = refl
  all_of_map p f (x ∷ xs) = ap (λ b. p (f x) && b) (all_of_map p f xs)

module _ {A : Type 0} where
  all_in_front : (p : List A → Bool) (s : List A) (r : List (List A)) → all p (in_front s r) ≡ all (λ c. all (λ l. p (c ∷ l)) r) s
  unfolding all in_front
  all_in_front p [] r = refl
  all_in_front p (c ∷ s) r = all_append p (map (λ l. c ∷ l) r) (in_front s r) ∙ ap₂ ◌&&◌ (all_of_map p (λ l. c ∷ l) r) (all_in_front p s r)

  -- a test that all ways pass holds of each way
  pub all_ways : (s : List A) (p : List A → Bool) {k : ℕ} {x : List A} → Way s k x → all p (ways s k) ≡ true → p x ≡ true
  unfolding ways all
  all_ways s p done t = and_left (p []) true t
  all_ways s p (put {c = c} {k = k} m w) t =
      all_ways s (λ l. p (c ∷ l)) w (all_each (λ d. all (λ l. p (d ∷ l)) (ways s k)) m (sym (all_in_front p s (ways s k)) ∙ t))

  pub way_length : {s : List A} {k : ℕ} {x : List A} → Way s k x → length x ≡ k
  way_length done = refl
  way_length (put m w) = ap suc (way_length w)

  pub way_cell : {s : List A} {k : ℕ} {x : List A} (d : A) → Way s k x → (i : ℕ) → i < k → Memᴰ (get_or x i d) s
  way_cell d done i h = absurd (not-suc-le-zero h)
  way_cell d (put m w) zero h = m
  way_cell d (put m w) (suc i) h = way_cell d w i (le_of_suc-le-suc h)

  pub way_map : {B : Type 0} {s : List A} (f : B → A) (xs : List B) → ((x : B) → Memᴰ x xs → Memᴰ (f x) s) → Way s (length xs) (map f xs)
  way_map f [] h = done
  way_map f (x ∷ xs) h = put (h x (Memᴰ.head refl)) (way_map f xs (λ y m. h y (Memᴰ.tail m)))

-- ---- a way is one of the ways

module _ {A : Type 0} where
  pub of_map : {B : Type 0} (f : B → A) (xs : List B) {x : A} → Memᴰ x (map f xs) → (y : B) × Memᴰ y xs × (x ≡ f y)
  of_map f [] m = absurd (Memᴰ.not-nil m)
  of_map f (y ∷ ys) (Memᴰ.head e) = (y, Memᴰ.head refl, e)
  of_map f (y ∷ ys) (Memᴰ.tail m) = let r = of_map f ys m in (r.0, Memᴰ.tail r.1, r.2)

module _ {A : Type 0} where
  in_front_lem : {c : A} {s : List A} {r : List (List A)} {l : List A} → Memᴰ c s → Memᴰ l r → Memᴰ (c ∷ l) (in_front s r)
  unfolding in_front
  in_front_lem {c} {s = []} {r} {l} k m = elim k [ ]
  in_front_lem {c} {s = d ∷ s} {r} {l} (Memᴰ.head e) m = Memᴰ.append_left (in_front s r) (Memᴰ.cast (ap (λ x. x ∷ l) e) (Memᴰ.map (λ l. d ∷ l) m))
  in_front_lem {s = d ∷ s} {r} (Memᴰ.tail k) m = Memᴰ.append_right (map (λ l. d ∷ l) r) (in_front_lem k m)

  of_front : (s : List A) (r : List (List A)) {x : List A} → Memᴰ x (in_front s r) → (c : A) × (l : List A) × Memᴰ c s × Memᴰ l r × (x ≡ c ∷ l)
  unfolding in_front
  of_front [] r m = absurd (Memᴰ.not-nil m)
  of_front (d ∷ s) r m =
      ⊎_elim
      (λ k. let q = of_map (λ l. d ∷ l) r k in (d, q.0, Memᴰ.head refl, q.1, q.2))
      (λ k. let q = of_front s r k in (q.0, q.1, Memᴰ.tail q.2, q.3, q.4))
      (Memᴰ.append_cases (map (λ l. d ∷ l) r) m)

  pub way_in : {s : List A} {k : ℕ} {x : List A} → Way s k x → Memᴰ x (ways s k)
  unfolding ways
  way_in done = Memᴰ.head refl
  way_in (put m w) = in_front_lem m (way_in w)

  pub in_way : (s : List A) (k : ℕ) {x : List A} → Memᴰ x (ways s k) → Way s k x
  unfolding ways
  in_way s zero m = subst (Way s zero) (sym (Memᴰ.eq_of_singleton m)) done
  in_way s (suc k) m = let q = of_front s (ways s k) m in subst (Way s (suc k)) (sym q.4) (put q.2 (in_way s k q.3))

-- ---- finding a way, one or two

sum_find : {A : Type 0} (f : A → ℕ) (xs : List A) → 0 < sum (map f xs) → (x : A) × Memᴰ x xs × (0 < f x)
unfolding sum
sum_find f [] h = absurd (not-suc-le-zero h)
sum_find f (x ∷ xs) h =
    elim (dec_lt 0 (f x)) [
      | yes l ↦ (x, Memᴰ.head refl, l)
      | no l ↦ let r = sum_find f xs (omega arith) in (r.0, Memᴰ.tail r.1, r.2)
    ]

bit_true : (b : Bool) → 0 < one_if b → b ≡ true
bit_true true h = refl
bit_true false h = absurd (not-suc-le-zero h)

-- where the count is not 0, some way passes
pub count_find : {A : Type 0} (s : List A) (k : ℕ) (p : List A → Bool) → 0 < count p (ways s k) → (x : List A) × Way s k x × (p x ≡ true)
unfolding ways count
count_find s zero p h = ([], done, bit_true (p []) (omega arith))
count_find s (suc k) p h =
    let c = sum_find (λ c. count (λ l. p (c ∷ l)) (ways s k)) s (omega (arith, count_in_front p s (ways s k))) in
    let r = count_find s k (λ l. p (c.0 ∷ l)) c.2 in
    (c.0 ∷ r.0, put c.1 r.1, r.2)

-- the ways that pass, besides one of them
module _ (s : List ℕ) (o : Once s) (k : ℕ) (p : List ℕ → Bool) (g : List ℕ) (w : Way s k g) (t : p g ≡ true) where
  others : List ℕ → Bool
  others x = p x && not (same_list g x)

  count_others : count p (ways s k) ≡ 1 + count others (ways s k)
  unfolding others
  count_others =
      let one = count_one s o k (λ x. p x && same_list g x) g w (and_both t (same_refl g)) (λ x _ e. sym (same_eq g x (and_right (p x) (same_list g x) e))) in
      omega (arith, count_split p (same_list g) (ways s k))

  -- one that passes makes a count of 1 or more
  pub count_some : 0 < count p (ways s k)
  count_some = omega (arith, count_others)

  -- two different ones make 2 or more
  pub count_two : (h : List ℕ) → Way s k h → p h ≡ true → (h ≡ g → ⊥) → 2 ≤ count p (ways s k)
  unfolding others
  count_two h v u d =
      let le = count_le {p = same_list h} {q = others} (λ x e. subst (λ y. others y ≡ true) (same_eq h x e) (and_both u (not_same (same_list g h) refl))) (ways s k) in
      omega (arith, count_others, count_same s o k v)
    where
      not_same : (b : Bool) → same_list g h ≡ b → not b ≡ true
      not_same true e = absurd (d (sym (same_eq g h e)))
      not_same false e = refl

  -- and a count of 2 or more has another one
  pub count_another : 2 ≤ count p (ways s k) → (h : List ℕ) × Way s k h × (p h ≡ true) × (h ≡ g → ⊥)
  unfolding others
  count_another l =
      let r = count_find s k others (omega (arith, count_others)) in
      (r.0, r.1, and_left (p r.0) _ r.2, λ e. differs r.0 e (and_right (p r.0) _ r.2))
    where
      differs : (h : List ℕ) → h ≡ g → not (same_list g h) ≡ true → ⊥
      differs h e u = let z : false ≡ true = rw (e, same_refl g) at u in true≢false (sym z)
