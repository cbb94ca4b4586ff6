-- Lists: tests of all elements, counting, sorting, and all ways to fill some places. Assumes nothing.
use Rattle.std.specs.Prelude.{ℕ, zero, suc, ◌+◌, Bool, true, false, ◌&&◌, ◌||◌, cond, List, [], ◌∷◌, ◌++◌, map}

-- the numbers from a on, k of them
unfoldable pub span : ℕ → ℕ → List ℕ
span a zero = []
span a (suc k) = a ∷ span (suc a) k

-- 1 if a test passes, else 0
abbrev pub one_if : Bool → ℕ
one_if true = 1
one_if false = 0

-- the sum of a list
unfoldable pub sum : List ℕ → ℕ
sum [] = 0
sum (x ∷ xs) = x + sum xs

module _ {A : Type 0} where
  -- every element passes the test
  unfoldable pub all : (A → Bool) → List A → Bool
  all p [] = true
  all p (x ∷ xs) = p x && all p xs

  -- how many elements pass the test
  unfoldable pub count : (A → Bool) → List A → ℕ
  count p [] = 0
  count p (x ∷ xs) = one_if (p x) + count p xs

  -- each value of s in front of each list of r
  unfoldable pub in_front : List A → List (List A) → List (List A)
  in_front [] r = []
  in_front (c ∷ s) r = map (λ l. c ∷ l) r ++ in_front s r

  -- all ways to put a value of s into each of k places
  unfoldable pub ways : List A → ℕ → List (List A)
  ways s zero = [] ∷ []
  ways s (suc k) = in_front s (ways s k)

  -- the elements that pass the test
  unfoldable pub keep : (A → Bool) → List A → List A
  keep p [] = []
  keep p (x ∷ xs) = cond (p x) (x ∷ keep p xs) (keep p xs)

  -- some element passes the test
  unfoldable pub any : (A → Bool) → List A → Bool
  any p [] = false
  any p (x ∷ xs) = p x || any p xs

  -- the first element that passes the test, or d
  unfoldable pub first : (A → Bool) → A → List A → A
  first p d [] = d
  first p d (x ∷ xs) = cond (p x) x (first p d xs)

  -- x put into a list, before the first element that it is to precede
  unfoldable pub insert : (A → A → Bool) → A → List A → List A
  insert precedes x [] = x ∷ []
  insert precedes x (y ∷ ys) = cond (precedes x y) (x ∷ y ∷ ys) (y ∷ insert precedes x ys)

  -- a list sorted
  unfoldable pub sort : (A → A → Bool) → List A → List A
  sort precedes [] = []
  sort precedes (x ∷ xs) = insert precedes x (sort precedes xs)

  -- each element precedes all behind it
  unfoldable pub ordered : (A → A → Bool) → List A → Bool
  ordered precedes [] = true
  ordered precedes (x ∷ xs) = all (precedes x) xs && ordered precedes xs

  -- the lists one behind the other
  unfoldable pub join : List (List A) → List A
  join [] = []
  join (x ∷ xs) = x ++ join xs
