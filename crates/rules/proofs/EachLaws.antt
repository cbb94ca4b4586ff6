-- A test of one thing after the other. Assumes nothing.
use Prim.Native.Nat.{ℕ, suc, ◌+◌, ◌-◌, ◌≤◌, ◌<◌}
use mathlib.Core.Path.{◌≡◌}
use mathlib.Core.Bool.{Bool, true, false, ◌&&◌}
use mathlib.Core.List.{List}
use native.Mathlib.Omega.{arith}
use native.Mathlib.Numerals.{add-one}
use lib.ListN.{length, get_or, drop, drop_of_length-le}
use lib.Seq.{drop-cons}
use Rattle.tally.specs.Tally.{all, span}

module _ (q : ℕ → Bool) where
  step : (i n : ℕ) → i < n → all q (span i (n - i)) ≡ (q i && all q (span (i + 1) (n - (i + 1))))
  unfolding all span
  step i n h = let e : n - i ≡ suc (n - (i + 1)) = omega arith in let s : i + 1 ≡ suc i = omega arith in rw (e, s)

  pub below_yes : (i n : ℕ) → i < n → q i ≡ true → all q (span i (n - i)) ≡ all q (span (i + 1) (n - (i + 1)))
  below_yes i n h e = rw (step i n h, e)

  pub below_no : (i n : ℕ) → i < n → q i ≡ false → all q (span i (n - i)) ≡ false
  below_no i n h e = rw (step i n h, e)

  pub below_end : (i n : ℕ) → n ≤ i → all q (span i (n - i)) ≡ true
  unfolding all span
  below_end i n h = let e : n - i ≡ 0 = omega arith in rw e

  -- the same of a list's elements
  pub list_yes : (l : List ℕ) (i : ℕ) → i < length l → q (get_or l i 0) ≡ true → all q (drop i l) ≡ all q (drop (i + 1) l)
  unfolding all
  list_yes l i h e = rw (add-one, drop-cons l i 0 h, e)

  pub list_no : (l : List ℕ) (i : ℕ) → i < length l → q (get_or l i 0) ≡ false → all q (drop i l) ≡ false
  unfolding all
  list_no l i h e = rw (drop-cons l i 0 h, e)

  pub list_end : (l : List ℕ) (i : ℕ) → length l ≤ i → all q (drop i l) ≡ true
  unfolding all
  list_end l i h = rw (drop_of_length-le l h)
