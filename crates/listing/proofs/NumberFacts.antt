-- The numbers of a line's arrangements are those of the definition's list, and there is room for them in its list: computed at each size and target. Assumes nothing.
use Prim.Native.Nat.{ℕ, ◌+◌, ◌/◌, ◌%◌, ◌≤◌, ◌<◌}
use mathlib.Core.Path.{◌≡◌, refl, sym, ap, ap₂, ◌∙◌}
use mathlib.Core.Bool.{Bool, true, false, ◌&&◌, true≢false}
use mathlib.Core.List.{List, [], ◌∷◌, map}
use native.Mathlib.Omega.{arith}
use lib.Dec.{eqb, ltb, leb}
use lib.ListN.{length}
use borrow.Author.Tests.{eqb-true, leb-true, ltb-true}
use Rattle.tally.specs.Tally.{span, all, count, keep, join, sort, insert, sum}
use Rattle.tally.proofs.TallyLaws.{same_list, same_eq, span_mem, and_left, and_right}
use Rattle.tally.proofs.WayLaws.{all_each, all_of_map}
use Rattle.rules.specs.Grid.{digits, meets}
use Rattle.rules.specs.Check.{max_target}
use Rattle.table.specs.Closed.{Arrangement, subsets, printed_before, printed, subsets_with, from_starts, insides, outsides, arrangements}
use Rattle.table.specs.Table.{mask_of}
use Rattle.bits.specs.Bit.{bit}
use Rattle.rules.proofs.SizeLaws.{at_size}
use Rattle.rules.specs.Size.{Size}
use Rattle.subset_table.specs.Subsets.{subset, of_size, from_sum}
use Rattle.words.specs.Word.{digits_of, arrangement_of, Known, on_side}
use Rattle.queue_state.specs.Layout.{per_line}
use Rattle.listing.specs.Numbers.{scan, starts_from, side_from, side_of, numbers_for}

-- ---- equal arrangements, by a test

alike : Bool → Bool → Bool
alike true b = b
alike false true = false
alike false false = true

same_one : Arrangement → Arrangement → Bool
same_one a b = eqb a.start b.start && (same_list a.digit_set b.digit_set && alike a.is_inside b.is_inside)

same_all : List Arrangement → List Arrangement → Bool
same_all [] [] = true
same_all [] (b ∷ bs) = false
same_all (a ∷ l) [] = false
same_all (a ∷ l) (b ∷ bs) = same_one a b && same_all l bs

-- ---- the test at one size and target

known_test : ℕ → ℕ → Bool
known_test n id = ltb id 1152 && (ltb (id % 9) n && of_size n (subset (id / 9)))

list_test : ℕ → ℕ → Bool
list_test n t =
    leb (length (numbers_for n t)) per_line && (all (known_test n) (numbers_for n t) && same_all (map (arrangement_of n) (numbers_for n t)) (arrangements n t))

list_tests : all (λ n. all (list_test n) (span 0 (max_target n + 1))) (span 2 8) ≡ true
unfolding
    list_test known_test same_all same_one alike same_list numbers_for side_of side_from of_size from_sum starts_from on_side scan arrangement_of digits_of subset
    arrangements insides outsides from_starts subsets_with printed printed_before mask_of subsets digits meets max_target span all count keep join sort insert sum bit
list_tests = refl

-- ---- what the tests say

alike_eq : (a b : Bool) → alike a b ≡ true → a ≡ b
unfolding alike
alike_eq true b t = sym t
alike_eq false true t = cc
alike_eq false false t = refl

one_eq : (a b : Arrangement) → same_one a b ≡ true → a ≡ b
unfolding same_one
one_eq a b t =
    let u = and_right (eqb a.start b.start) _ t in
    let p = eqb-true a.start b.start (and_left _ _ t) in
    let q = same_eq a.digit_set b.digit_set (and_left _ _ u) in
    let r = alike_eq a.is_inside b.is_inside (and_right (same_list a.digit_set b.digit_set) _ u) in
    λ i. record { start = p i; digit_set = q i; is_inside = r i }

all_eq : (l m : List Arrangement) → same_all l m ≡ true → l ≡ m
unfolding same_all
all_eq [] [] t = refl
all_eq [] (b ∷ bs) t = absurd (true≢false (sym t))
all_eq (a ∷ l) [] t = absurd (true≢false (sym t))
all_eq (a ∷ l) (b ∷ bs) t = ap₂ ◌∷◌ (one_eq a b (and_left (same_one a b) _ t)) (all_eq l bs (and_right (same_one a b) _ t))

module _ (n t : ℕ) (z : Size n) (h : t ≤ max_target n) where
  tested : list_test n t ≡ true
  tested =
      let a = at_size (λ n. all (list_test n) (span 0 (max_target n + 1))) list_tests n z in
      all_each (list_test n) (span_mem 0 (max_target n + 1) t (omega arith) (omega arith)) a

  others : (all (known_test n) (numbers_for n t) && same_all (map (arrangement_of n) (numbers_for n t)) (arrangements n t)) ≡ true
  unfolding list_test
  others = and_right (leb (length (numbers_for n t)) per_line) _ tested

  -- a line has no more arrangements than its list has room for
  pub numbers_few : length (numbers_for n t) ≤ per_line
  unfolding list_test
  numbers_few = leb-true _ _ (and_left (leb (length (numbers_for n t)) per_line) _ tested)

  -- they are those of the definition, in its order
  pub numbers_are : map (arrangement_of n) (numbers_for n t) ≡ arrangements n t
  numbers_are = all_eq _ _ (and_right (all (known_test n) (numbers_for n t)) _ others)

  -- and their numbers are known
  pub numbers_known : (f : ℕ → ℕ) (k : ℕ) → map f (span 0 k) ≡ numbers_for n t → (j : ℕ) → j < k → Known n (f j)
  unfolding known_test
  numbers_known f k e j l =
      let a : all (known_test n) (map f (span 0 k)) ≡ true = ap (all (known_test n)) e ∙ and_left _ _ others in
      let b = all_each (λ i. known_test n (f i)) (span_mem 0 k j (omega arith) (omega arith)) (sym (all_of_map (known_test n) f (span 0 k)) ∙ a) in
      let c = and_right (ltb (f j) 1152) _ b in
      record {
        within = ltb-true _ _ (and_left (ltb (f j) 1152) _ b);
        starts = ltb-true _ _ (and_left (ltb (f j % 9) n) _ c);
        digits = and_right (ltb (f j % 9) n) _ c;
      }
