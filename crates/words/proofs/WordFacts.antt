-- Facts on subsets and words that are computed case by case. Assumes nothing.
use Prim.Native.Nat.{ℕ, ◌+◌, ◌-◌, ◌%◌, ◌^◌, ◌≤◌, ◌<◌}
use mathlib.Core.Path.{◌≡◌, refl, ◌∙◌}
use mathlib.Core.Bool.{Bool, true, ◌&&◌, cond}
use native.Mathlib.Omega.{arith}
use lib.Dec.{eqb, ltb, leb}
use lib.ListN.{length}
use borrow.Author.Tests.{eqb-true, leb-true, ltb-true, lt-ltb, le-ltb, le-leb, lt-leb}
use Rattle.tally.specs.Tally.{span, all, keep, count}
use Rattle.tally.proofs.TallyLaws.{span_mem, and_left, and_right}
use Rattle.tally.proofs.WayLaws.{all_each}
use Rattle.bits.specs.Bit.{bit}
use Rattle.rules.proofs.SizeLaws.{at_size}
use Rattle.rules.specs.Size.{Size}
use Rattle.rules.specs.Check.{max_target}
use Rattle.subset_table.specs.Subsets.{subset, from_sum, mask_in, size_in, of_size}
use Rattle.words.specs.Word.{digits_of, inner_places, steps}

-- a test that is computed at each number of a span
at : (q : ℕ → Bool) (a k x : ℕ) → a ≤ x → x < a + k → all q (span a k) ≡ true → q x ≡ true
at q a k x h l t = all_each q (span_mem a k x h l) t

-- ---- the subsets

-- the sizes of the table are those of its masks read bit by bit, as the words have them, and these are bits 1 to 7
subset_test : ℕ → Bool
subset_test s = eqb (length (digits_of (mask_in s))) (size_in s) && (eqb (mask_in s % 2) 0 && ltb (mask_in s) 256)

subset_tests : all subset_test (span 0 128) ≡ true
unfolding subset_test subset digits_of span all keep bit
subset_tests = refl

fit_test : ℕ → ℕ → Bool
fit_test s n = cond (of_size n (subset s)) (leb (size_in s + 2) n) true

fit_tests : all (λ s. all (fit_test s) (span 2 8)) (span 0 128) ≡ true
unfolding fit_test of_size subset span all
fit_tests = refl

-- the subsets of a size's digits stand before those of a greater sum than the digits have
end_test : ℕ → ℕ → Bool
end_test s n = cond (of_size n (subset s)) (ltb s (from_sum (max_target n + 1))) true

end_tests : all (λ s. all (end_test s) (span 2 8)) (span 0 128) ≡ true
unfolding end_test of_size subset from_sum max_target count span all
end_tests = refl

most_tests : all (λ n. ltb (max_target n + 1) 30) (span 2 8) ≡ true
unfolding max_target span all
most_tests = refl

sum_tests : all (λ k. leb (from_sum k) 128) (span 0 30) ≡ true
unfolding from_sum count span all
sum_tests = refl

ring_test : ℕ → ℕ → ℕ → ℕ → Bool
ring_test n len start p = eqb (bit p (inner_places n len start)) (cond (ltb p n && (ltb 0 (steps n start p) && leb (steps n start p) len)) 1 0)

ring_tests : all (λ n. all (λ len. all (λ start. all (ring_test n len start) (span 0 9) && ltb (inner_places n len start) 512) (span 0 n)) (span 0 (n - 1)))
    (span 2 8) ≡ true
unfolding ring_test inner_places steps span all bit
ring_tests = refl

-- ---- the same, one by one

module _ (s : ℕ) (h : s < 128) where
  tested : subset_test s ≡ true
  tested = at subset_test 0 128 s (omega arith) (omega arith) subset_tests

  pub subset_size : length (digits_of (mask_in s)) ≡ size_in s
  unfolding subset_test
  subset_size = eqb-true _ _ (and_left _ _ tested)

  pub mask_even : mask_in s % 2 ≡ 0
  unfolding subset_test
  mask_even = eqb-true _ _ (and_left _ _ (and_right (eqb (length (digits_of (mask_in s))) (size_in s)) _ tested))

  pub mask_small : mask_in s < 256
  unfolding subset_test
  mask_small = ltb-true _ _ (and_right (eqb (mask_in s % 2) 0) _ (and_right (eqb (length (digits_of (mask_in s))) (size_in s)) _ tested))

  -- a subset of the digits of size n leaves room for two blacks
  pub subset_fits : (n : ℕ) → Size n → of_size n (subset s) ≡ true → size_in s + 2 ≤ n
  unfolding fit_test
  subset_fits n z m =
      let t = at (λ s. all (fit_test s) (span 2 8)) 0 128 s (omega arith) (omega arith) fit_tests in
      let u = at_size (fit_test s) t n z in
      leb-true (size_in s + 2) n (rw m at u)

  -- and stands before those of a greater sum than all its digits have
  pub subset_before : (n : ℕ) → Size n → of_size n (subset s) ≡ true → s < from_sum (max_target n + 1)
  unfolding end_test
  subset_before n z m =
      let t = at (λ s. all (end_test s) (span 2 8)) 0 128 s (omega arith) (omega arith) end_tests in
      let u = at_size (end_test s) t n z in
      ltb-true s (from_sum (max_target n + 1)) (rw m at u)

-- the mask of a subset of the digits of size n
pub mask_below : (s n : ℕ) → of_size n (subset s) ≡ true → mask_in s < 2 ^ (n - 1)
unfolding of_size
mask_below s n m = ltb-true _ _ m

pub most_sum : (n : ℕ) → Size n → max_target n + 1 < 30
most_sum n z = ltb-true (max_target n + 1) 30 (at_size (λ n. ltb (max_target n + 1) 30) most_tests n z)

-- the subsets of each sum begin within the table
pub from_sum_most : (k : ℕ) → k < 30 → from_sum k ≤ 128
from_sum_most k h = leb-true (from_sum k) 128 (at (λ k. leb (from_sum k) 128) 0 30 k (omega arith) (omega arith) sum_tests)

-- ---- the inner places

module _ (n len start : ℕ) (z : Size n) (l : len + 2 ≤ n) (h : start < n) where
  rings : (all (ring_test n len start) (span 0 9) && ltb (inner_places n len start) 512) ≡ true
  rings =
      let t = at_size (λ n. all (λ len. all (λ start. all (ring_test n len start) (span 0 9) && ltb (inner_places n len start) 512) (span 0 n)) (span 0 (n - 1)))
      ring_tests n z in
      let u = at (λ len. all (λ start. all (ring_test n len start) (span 0 9) && ltb (inner_places n len start) 512) (span 0 n)) 0 (n - 1) len (omega arith)
      (omega arith) t in
      at (λ start. all (ring_test n len start) (span 0 9) && ltb (inner_places n len start) 512) 0 n start (omega arith) (omega arith) u

  pub inner_small : inner_places n len start < 512
  inner_small = ltb-true _ _ (and_right (all (ring_test n len start) (span 0 9)) _ rings)

  ring : (p : ℕ) → p < 9 → bit p (inner_places n len start) ≡ cond (ltb p n && (ltb 0 (steps n start p) && leb (steps n start p) len)) 1 0
  unfolding ring_test
  ring p k = eqb-true _ _ (at (ring_test n len start) 0 9 p (omega arith) (omega arith) (and_left _ _ rings))

  pub inner_between : (p : ℕ) → p < n → 0 < steps n start p → steps n start p ≤ len → bit p (inner_places n len start) ≡ 1
  inner_between p k a b =
      ring p (omega (arith, z.high)) ∙ rw (lt-ltb p n k, lt-ltb 0 (steps n start p) a, le-leb (steps n start p) len b)

  pub inner_start : (p : ℕ) → p < n → steps n start p ≡ 0 → bit p (inner_places n len start) ≡ 0
  inner_start p k a = ring p (omega (arith, z.high)) ∙ rw (lt-ltb p n k, le-ltb 0 (steps n start p) (omega arith))

  pub inner_far : (p : ℕ) → p < n → len < steps n start p → bit p (inner_places n len start) ≡ 0
  inner_far p k a = ring p (omega (arith, z.high)) ∙ rw (lt-ltb p n k, lt-ltb 0 (steps n start p) (omega arith), lt-leb (steps n start p) len a)

  pub inner_past : (p : ℕ) → n ≤ p → p < 9 → bit p (inner_places n len start) ≡ 0
  inner_past p k a = ring p a ∙ rw (le-ltb p n k)
