-- Laws of tests, counting and ways. Assumes nothing.
use Prim.Native.Nat.{ℕ, zero, suc, ◌+◌, ◌≤◌, ◌<◌, zero-le}
use mathlib.Core.Path.{◌≡◌, refl, sym, ap, ap₂, ◌∙◌, fun_ext}
use mathlib.Core.Bool.{Bool, true, false, not, ◌&&◌, ◌||◌, true≢false, and_assoc, or-true}
use mathlib.Core.List.Memᴰ
use mathlib.Core.List.{List, [], ◌∷◌, ◌++◌, map, Permᴰ, Memᴰ}
use native.Mathlib.Nat.{add-le-add, le_refl, eq-or-lt_of_le}
use mathlib.Core.Logic.{◌⊎◌, inl, inr, ⊎_elim}
use native.Mathlib.Omega.{arith}
use native.Mathlib.Decide.{ℕ_discrete}
use lib.Dec.{eqb}
use lib.ListN.{length, get_or}
use borrow.Author.Tests.{eqb-true, eq-eqb, ne_eqb}
use Rattle.std.specs.List.{list_all}
use Rattle.tally.specs.Tally.{one_if, sum, all, any, count, in_front, ways, span}
use Rattle.tally.specs.Way.{Way, done, put}

-- ---- tests

pub and_left : (a b : Bool) → (a && b) ≡ true → a ≡ true
and_left true b t = refl
and_left false b t = t

pub and_right : (a b : Bool) → (a && b) ≡ true → b ≡ true
and_right true b t = t
and_right false b t = cc

pub and_both : {a b : Bool} → a ≡ true → b ≡ true → (a && b) ≡ true
and_both s t = rw (s, t)

pub and_map : {a b c d : Bool} → (a ≡ true → c ≡ true) → (b ≡ true → d ≡ true) → (a && b) ≡ true → (c && d) ≡ true
and_map {a} {b} f g t = and_both (f (and_left a b t)) (g (and_right a b t))

pub or_split : (a b : Bool) → (a || b) ≡ true → (a ≡ true) ⊎ (b ≡ true)
or_split true b t = inl refl
or_split false b t = inr t

pub false_of : (b : Bool) → (b ≡ true → ⊥) → b ≡ false
false_of true h = absurd (h refl)
false_of false h = refl

-- two tests that pass together are equal
pub test_ext : (a b : Bool) → (a ≡ true → b ≡ true) → (b ≡ true → a ≡ true) → a ≡ b
test_ext true b f g = sym (f refl)
test_ext false true f g = g refl
test_ext false false f g = refl

and_left_comm : (a b c : Bool) → (a && (b && c)) ≡ (b && (a && c))
and_left_comm true b c = refl
and_left_comm false true c = refl
and_left_comm false false c = refl

bit_split : (a b : Bool) → one_if a ≡ one_if (a && b) + one_if (a && not b)
bit_split true true = refl
bit_split true false = refl
bit_split false b = refl

pub bit_le : (a b : Bool) → (a ≡ true → b ≡ true) → one_if a ≤ one_if b
bit_le true b h = rw (h refl) (le_refl 1)
bit_le false b h = zero-le

module _ {A : Type 0} where
  pub all_append : (p : A → Bool) (xs ys : List A) → all p (xs ++ ys) ≡ (all p xs && all p ys)
  unfolding all
  all_append p [] ys = refl
  all_append p (x ∷ xs) ys = ap (λ b. p x && b) (all_append p xs ys) ∙ sym (and_assoc (p x) (all p xs) (all p ys))

  -- what holds of all holds of all but one
  pub all_less : (p : A → Bool) (xs : List A) (x : A) (ys : List A) → all p (xs ++ x ∷ ys) ≡ true → all p (xs ++ ys) ≡ true
  unfolding all
  all_less p [] x ys t = and_right (p x) (all p ys) t
  all_less p (z ∷ xs) x ys t = and_map {a = p z} (λ h. h) (all_less p xs x ys) t

  pub all_perm : (p : A → Bool) {xs ys : List A} → Permᴰ xs ys → all p xs ≡ all p ys
  unfolding all
  all_perm p Permᴰ.nil = refl
  all_perm p (Permᴰ.cons e d) = ap₂ (λ x b. p x && b) e (all_perm p d)
  all_perm p (Permᴰ.swap {a' = a'} {b' = b'} {l = l} e₁ e₂) =
      ap₂ (λ x y. p x && (p y && all p l)) e₁ e₂ ∙ and_left_comm (p b') (p a') (all p l)
  all_perm p (Permᴰ.trans d₁ d₂) = all_perm p d₁ ∙ all_perm p d₂

  -- ---- counting

  pub count_split : (p q : A → Bool) (xs : List A) → count p xs ≡ count (λ x. p x && q x) xs + count (λ x. p x && not (q x)) xs
  unfolding count
  count_split p q [] = refl
  count_split p q (x ∷ xs) = omega (arith, bit_split (p x) (q x), count_split p q xs)

  pub count_le : {p q : A → Bool} → ((x : A) → p x ≡ true → q x ≡ true) → (xs : List A) → count p xs ≤ count q xs
  unfolding count
  count_le h [] = le_refl 0
  count_le {p} {q} h (x ∷ xs) = add-le-add (bit_le (p x) (q x) (h x)) (count_le h xs)

  pub count_ext : {p q : A → Bool} → ((x : A) → p x ≡ q x) → (xs : List A) → count p xs ≡ count q xs
  count_ext h xs = ap (λ (f : A → Bool). count f xs) (fun_ext h)

  pub count_append : (p : A → Bool) (xs ys : List A) → count p (xs ++ ys) ≡ count p xs + count p ys
  unfolding count
  count_append p [] ys = omega arith
  count_append p (x ∷ xs) ys = omega (arith, count_append p xs ys)

  pub count_map : {B : Type 0} (p : A → Bool) (f : B → A) (xs : List B) → count p (map f xs) ≡ count (λ x. p (f x)) xs
  unfolding count
  count_map p f [] = refl
  count_map p f (x ∷ xs) = ap (λ n. one_if (p (f x)) + n) (count_map p f xs)

  pub count_never : (xs : List A) → count (λ x. false) xs ≡ 0
  unfolding count
  count_never [] = refl
  count_never (x ∷ xs) = omega (arith, count_never xs)

  pub sum_on : {f g : A → ℕ} (xs : List A) → ((x : A) → Memᴰ x xs → f x ≡ g x) → sum (map f xs) ≡ sum (map g xs)
  unfolding sum
  sum_on [] h = refl
  sum_on (x ∷ xs) h = ap₂ ◌+◌ (h x (Memᴰ.head refl)) (sum_on xs (λ y m. h y (Memᴰ.tail m)))

  pub sum_bits : (p : A → Bool) (xs : List A) → sum (map (λ x. one_if (p x)) xs) ≡ count p xs
  unfolding sum count
  sum_bits p [] = refl
  sum_bits p (x ∷ xs) = ap (λ n. one_if (p x) + n) (sum_bits p xs)

pub sum_append : (xs ys : List ℕ) → sum (xs ++ ys) ≡ sum xs + sum ys
unfolding sum
sum_append [] ys = omega arith
sum_append (x ∷ xs) ys = omega (arith, sum_append xs ys)

module _ {A : Type 0} where
  -- ---- ways

  -- counting the ways one place at a time
  pub count_in_front : (p : List A → Bool) (s : List A) (r : List (List A)) → count p (in_front s r) ≡ sum (map (λ c. count (λ l. p (c ∷ l)) r) s)
  unfolding count in_front sum
  count_in_front p [] r = refl
  count_in_front p (c ∷ s) r = count_append p (map (λ l. c ∷ l) r) (in_front s r) ∙ ap₂ ◌+◌ (count_map p (λ l. c ∷ l) r) (count_in_front p s r)

  -- only the ways matter
  pub count_ways : (s : List A) (k : ℕ) {p q : List A → Bool} → ((x : List A) → Way s k x → p x ≡ q x) → count p (ways s k) ≡ count q (ways s k)
  unfolding ways count
  count_ways s zero h = ap (λ b. one_if b + 0) (h [] done)
  count_ways s (suc k) {p} {q} h =
      count_in_front p s (ways s k)
      ∙ sum_on s (λ c m. count_ways s k (λ x w. h (c ∷ x) (put m w)))
      ∙ sym (count_in_front q s (ways s k))

-- ---- the count of a single list

unfoldable pub same_list : List ℕ → List ℕ → Bool
same_list [] [] = true
same_list [] (y ∷ ys) = false
same_list (x ∷ xs) [] = false
same_list (x ∷ xs) (y ∷ ys) = eqb x y && same_list xs ys

pub same_refl : (x : List ℕ) → same_list x x ≡ true
unfolding same_list
same_refl [] = refl
same_refl (c ∷ x) = and_both (eq-eqb c c refl) (same_refl x)

pub same_eq : (x y : List ℕ) → same_list x y ≡ true → x ≡ y
unfolding same_list
same_eq [] [] t = refl
same_eq [] (c ∷ y) t = cc
same_eq (c ∷ x) [] t = cc
same_eq (c ∷ x) (d ∷ y) t = ap₂ ◌∷◌ (eqb-true c d (and_left (eqb c d) (same_list x y) t)) (same_eq x y (and_right (eqb c d) (same_list x y) t))

-- a value of s stands in s once
unfoldable pub Once : List ℕ → Type 0
Once s = (c : ℕ) → Memᴰ c s → count (eqb c) s ≡ 1

count_when : {A : Type 0} (b : Bool) (q : A → Bool) (xs : List A) → count q xs ≡ 1 → count (λ x. b && q x) xs ≡ one_if b
count_when true q xs e = e
count_when false q xs e = count_never xs

pub count_same : (s : List ℕ) → Once s → (k : ℕ) {g : List ℕ} → Way s k g → count (same_list g) (ways s k) ≡ 1
unfolding ways count same_list Once
count_same s o zero done = refl
count_same s o (suc k) (put {c = c} {x = x} m w) =
    count_in_front (same_list (c ∷ x)) s (ways s k)
    ∙ sum_on s (λ d _. count_when (eqb c d) (same_list x) (ways s k) (count_same s o k w))
    ∙ sum_bits (eqb c) s
    ∙ o c m

-- a test that no way passes; a test that exactly one way passes
pub count_none : (s : List ℕ) (k : ℕ) (p : List ℕ → Bool) → ((x : List ℕ) → Way s k x → p x ≡ true → ⊥) → count p (ways s k) ≡ 0
count_none s k p h = count_ways s k (λ x w. test_ext (p x) false (λ t. absurd (h x w t)) (λ t. cc)) ∙ count_never (ways s k)

pub count_one : (s : List ℕ) → Once s → (k : ℕ) (p : List ℕ → Bool) (g : List ℕ) → Way s k g → p g ≡ true → ((x : List ℕ) → Way s k x → p x ≡ true → x ≡ g) →
    count p (ways s k) ≡ 1
count_one s o k p g wg tg h =
    count_ways s k (λ x w. test_ext (p x) (same_list g x) (λ t. rw (h x w t) (same_refl g)) (λ t. rw (same_eq g x t) at tg)) ∙ count_same s o k wg

-- ---- numbers in a list

pub any_mem : {v : ℕ} {xs : List ℕ} → Memᴰ v xs → any (eqb v) xs ≡ true
unfolding any
any_mem {v} (Memᴰ.head {x = y} e) = rw (eq-eqb v y e)
any_mem {v} (Memᴰ.tail {x = y} m) = rw (any_mem m) (or-true (eqb v y))

pub any_in : (v : ℕ) (xs : List ℕ) → any (eqb v) xs ≡ true → Memᴰ v xs
unfolding any
any_in v [] t = absurd (true≢false (sym t))
any_in v (x ∷ xs) t = ⊎_elim (λ e. Memᴰ.head (eqb-true v x e)) (λ u. Memᴰ.tail (any_in v xs u)) (or_split (eqb v x) (any (eqb v) xs) t)

-- ---- the numbers from a on

pub bit_eq : (a b : ℕ) → a ≡ b → one_if (eqb a b) ≡ 1
bit_eq a b e = ap one_if (eq-eqb a b e)

pub bit_ne : (a b : ℕ) → (a ≡ b → ⊥) → one_if (eqb a b) ≡ 0
bit_ne a b e = ap one_if (ne_eqb a b e)

pub span_in : (a k c : ℕ) → Memᴰ c (span a k) → (a ≤ c) × (c < a + k)
unfolding span
span_in a zero c m = absurd (Memᴰ.not-nil m)
span_in a (suc k) c (Memᴰ.head e) = omega arith
span_in a (suc k) c (Memᴰ.tail m) = let h = span_in (suc a) k c m in omega arith

pub span_out : (a k c : ℕ) → c < a → count (eqb c) (span a k) ≡ 0
unfolding span count
span_out a zero c h = refl
span_out a (suc k) c h = omega (arith, bit_ne c a (omega arith), span_out (suc a) k c (omega arith))

pub span_past : (a k c : ℕ) → a + k ≤ c → count (eqb c) (span a k) ≡ 0
unfolding span count
span_past a zero c h = refl
span_past a (suc k) c h = omega (arith, bit_ne c a (omega arith), span_past (suc a) k c (omega arith))

pub span_once : (a k c : ℕ) → a ≤ c → c < a + k → count (eqb c) (span a k) ≡ 1
unfolding span count
span_once a zero c l h = absurd (omega arith)
span_once a (suc k) c l h =
    ⊎_elim (λ e. omega (arith, bit_eq c a (sym e), span_out (suc a) k c (omega arith)))
    (λ (g : a < c). omega (arith, bit_ne c a (omega arith), span_once (suc a) k c g (omega arith))) (eq-or-lt_of_le l)

pub span_mem : (a k c : ℕ) → a ≤ c → c < a + k → Memᴰ c (span a k)
unfolding span
span_mem a zero c l h = absurd (omega arith)
span_mem a (suc k) c l h = elim (ℕ_discrete c a) [ yes e ↦ Memᴰ.head e | no n ↦ Memᴰ.tail (span_mem (suc a) k c (omega arith) (omega arith)) ]

pub span_length : (a k : ℕ) → length (span a k) ≡ k
unfolding span
span_length a zero = refl
span_length a (suc k) = ap suc (span_length (suc a) k)

pub map_at : (f : ℕ → ℕ) (a k i : ℕ) → i < k → get_or (map f (span a k)) i 0 ≡ f (a + i)
unfolding span
map_at f a zero i h = absurd (omega arith)
map_at f a (suc k) zero h = ap f (omega arith)
map_at f a (suc k) (suc i) h = map_at f (suc a) k i (omega arith) ∙ ap f (omega arith)

-- ---- the library's words for the same

module _ {A : Type 0} (p : A → Bool) where
  pub all_listed : (xs : List A) → list_all p xs ≡ all p xs
  unfolding all
  all_listed [] = refl
  all_listed (x ∷ xs) = ap (λ r. p x && r) (all_listed xs)
