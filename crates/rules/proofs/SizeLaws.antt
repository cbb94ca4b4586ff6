-- Sizes that pass the check. Assumes nothing.
use Prim.Native.Nat.{ℕ, ◌≤◌}
use mathlib.Core.Path.{◌≡◌, refl, sym, subst}
use mathlib.Core.Bool.{Bool, true}
use native.Mathlib.Nat.{mul-le-mul}
use native.Mathlib.Omega.{arith}
use native.Mathlib.Decide.{ℕ_discrete}
use lib.Dec.{leb}
use borrow.Author.Tests.{leb-true, le-leb}
use Rattle.tally.specs.Tally.{span, all}
use Rattle.tally.proofs.TallyLaws.{and_left, and_right, and_both, span_mem}
use Rattle.tally.proofs.WayLaws.{all_each}
use Rattle.rules.specs.Check.{max_target}
use Rattle.rules.specs.CheckParts.{size_fits}
use Rattle.rules.specs.Size.{Size}

pub size_in : (n : ℕ) → size_fits n ≡ true → Size n
size_in n h =
    let u = leb-true n 9 (and_right (leb 2 n) (leb n 9) h) in
    record { low = leb-true 2 n (and_left (leb 2 n) (leb n 9) h); high = u; square = mul-le-mul u u }

pub size_fit : {n : ℕ} → Size n → size_fits n ≡ true
size_fit {n} s = and_both (le-leb 2 n s.low) (le-leb n 9 s.high)

-- a rule of the size that is computed at each of the eight
pub at_size : (q : ℕ → Bool) → all q (span 2 8) ≡ true → (n : ℕ) → Size n → q n ≡ true
at_size q t n s = all_each q (span_mem 2 8 n s.low (omega (arith, s.high))) t

-- and one that is shown at each of them
pub each_size : (P : ℕ → Type 0) → P 2 → P 3 → P 4 → P 5 → P 6 → P 7 → P 8 → P 9 → (n : ℕ) → Size n → P n
each_size P a b c d e f g h n s =
    at 2 a (λ l₂. at 3 b (λ l₃. at 4 c (λ l₄. at 5 d (λ l₅. at 6 e (λ l₆. at 7 f (λ l₇. at 8 g (λ l₈. at 9 h
    (λ l₉. absurd (omega (arith, s.low, s.high))))))))))
  where
    at : (k : ℕ) → P k → ((n ≡ k → ⊥) → P n) → P n
    at k p other = elim (ℕ_discrete n k) [ yes q ↦ subst P (sym q) p | no q ↦ other q ]

-- no target is above 28
pub target_most : (n : ℕ) → Size n → max_target n ≤ 28
unfolding max_target span all
target_most n s = leb-true (max_target n) 28 (at_size (λ n. leb (max_target n) 28) refl n s)
