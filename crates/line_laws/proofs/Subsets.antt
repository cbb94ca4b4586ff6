-- Subsets of the digits: each has every digit at most once, and whatever is kept of the digits is one. Assumes nothing.
use Prim.Native.Nat.{ℕ, ◌-◌, ◌≤◌}
use mathlib.Core.Path.{◌≡◌, refl}
use mathlib.Core.Bool.{Bool, true, false, cond}
use mathlib.Core.Logic.{⊎_elim}
use mathlib.Core.List.Memᴰ
use mathlib.Core.List.{List, [], ◌∷◌, Memᴰ}
use native.Mathlib.Omega.{arith}
use lib.Dec.{eqb}
use lib.ListN.{length}
use Rattle.tally.specs.Tally.{count, keep}
use Rattle.tally.proofs.TallyLaws.{Once}
use Rattle.rules.specs.Grid.{digits}
use Rattle.table.specs.Closed.{subsets}
use Rattle.line_laws.proofs.Lists.{mem_join, of_join, count_mem, count_in, span_is_once}

pub digits_once : (n : ℕ) → Once (digits n)
unfolding digits
digits_once n = span_is_once 1 (n - 2)

pub keep_subset : (p : ℕ → Bool) (xs : List ℕ) → Memᴰ (keep p xs) (subsets xs)
unfolding keep subsets
keep_subset p [] = Memᴰ.head refl
keep_subset p (x ∷ xs) =
    mem_join (λ s. s ∷ (x ∷ s) ∷ []) (keep_subset p xs)
    (elim (p x) as (λ b. Memᴰ (cond b (x ∷ keep p xs) (keep p xs)) (keep p xs ∷ (x ∷ keep p xs) ∷ []))
    [ true ↦ Memᴰ.tail (Memᴰ.head refl) | false ↦ Memᴰ.head refl ])

-- a subset has no more that passes a test than the whole
subset_count : (p : ℕ → Bool) (ds : List ℕ) {s : List ℕ} → Memᴰ s (subsets ds) → count p s ≤ count p ds
unfolding subsets count
subset_count p [] {s} m = let e : s ≡ [] = Memᴰ.eq_of_singleton m in rw e (omega arith)
subset_count p (d ∷ ds) {s} m =
    let w = of_join (λ s. s ∷ (d ∷ s) ∷ []) (subsets ds) m in
    let r = subset_count p ds w.1 in
    ⊎_elim (λ e. rw e (omega arith)) (λ q. let e : s ≡ d ∷ w.0 = Memᴰ.eq_of_singleton q in rw e (omega arith)) (Memᴰ.cases_cons w.2)

count_every : (xs : List ℕ) → count (λ x. true) xs ≡ length xs
unfolding count
count_every [] = refl
count_every (x ∷ xs) = omega (arith, count_every xs)

pub subset_length : (ds : List ℕ) {s : List ℕ} → Memᴰ s (subsets ds) → length s ≤ length ds
subset_length ds {s} m = omega (arith, subset_count (λ x. true) ds m, count_every s, count_every ds)

pub subset_mem : (ds : List ℕ) {s : List ℕ} → Memᴰ s (subsets ds) → (c : ℕ) → Memᴰ c s → Memᴰ c ds
subset_mem ds m c k = count_in c ds (omega (arith, count_mem k, subset_count (eqb c) ds m))

pub subset_once : (ds : List ℕ) → Once ds → {s : List ℕ} → Memᴰ s (subsets ds) → Once s
unfolding Once
subset_once ds o m c k = omega (arith, count_mem k, subset_count (eqb c) ds m, o c (subset_mem ds m c k))
