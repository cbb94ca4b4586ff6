-- The table has the subsets of the digits as they are printed, at every size; computed for the whole table together. Assumes nothing.
use Prim.Native.Nat.{ℕ, ◌^◌, ◌<◌}
use mathlib.Core.Path.{◌≡◌, refl, sym, ap, ◌∙◌}
use mathlib.Core.Bool.{Bool, true, ◌&&◌}
use mathlib.Core.List.{map}
use native.Mathlib.Omega.{arith}
use lib.Dec.{eqb}
use lib.ListN.{length, get_or}
use borrow.Author.Tests.{eqb-true}
use Rattle.tally.specs.Tally.{span, all, count, keep, sum, sort, join, insert, ordered}
use Rattle.tally.proofs.TallyLaws.{span_mem}
use Rattle.tally.proofs.ListLaws.{keep_keep, keep_map}
use Rattle.tally.proofs.WayLaws.{all_each}
use Rattle.rules.specs.Grid.{digits}
use Rattle.rules.specs.Size.{Size}
use Rattle.rules.proofs.SizeLaws.{each_size}
use Rattle.table.specs.Table.{mask_of}
use Rattle.table.specs.Closed.{subsets, printed_before, printed, subsets_with}
use Rattle.subset_table.specs.declared.TheConstants.{SUBSETS, FROM_SUM}
use Rattle.subset_table.specs.Subsets.{subset_of, of_size, from_sum}

-- THE TABLE: the subsets of the digits 1 to 7 with their sums and sizes, in the order in which they are printed.
pub subsets_printed : SUBSETS ≡ map subset_of (printed 9)
unfolding printed printed_before subset_of mask_of sort insert subsets digits join sum span
subsets_printed = refl

-- None comes twice: each stands before all behind it, and there are as many as seven digits have.
pub printed_once : ordered printed_before (printed 9) ≡ true
unfolding ordered printed printed_before mask_of sort insert subsets digits all join sum span
printed_once = refl

pub printed_many : length (printed 9) ≡ 2 ^ 7
unfolding printed printed_before mask_of sort insert subsets digits join sum span
printed_many = refl

-- The subsets of the digits of a smaller size are the entries whose digits it has, in the same order.
pub size_printed : (n : ℕ) → Size n → keep (of_size n) SUBSETS ≡ map subset_of (printed n)
unfolding of_size printed printed_before subset_of mask_of sort insert subsets digits keep join sum span
size_printed = each_size (λ n. keep (of_size n) SUBSETS ≡ map subset_of (printed n)) refl refl refl refl refl refl refl refl

-- So the subsets whose sum passes a test, from which a line lists its arrangements, are the entries of the size whose sum passes it, in the same order.
pub with_printed : (n : ℕ) → Size n → (ok : ℕ → Bool) → map subset_of (subsets_with n ok) ≡ keep (λ s. of_size n s && ok s.sum) SUBSETS
unfolding subsets_with subset_of
with_printed n z ok =
    sym (keep_map (λ s. ok s.sum) subset_of (printed n))
    ∙ ap (keep (λ s. ok s.sum)) (sym (size_printed n z))
    ∙ keep_keep (of_size n) (λ s. ok s.sum) SUBSETS

-- where each sum begins
sum_tests : all (λ k. eqb (get_or FROM_SUM k 0) (from_sum k)) (span 0 30) ≡ true
unfolding from_sum all count span
sum_tests = refl

pub sum_begins : (k : ℕ) → k < 30 → get_or FROM_SUM k 0 ≡ from_sum k
sum_begins k h = eqb-true _ _ (all_each (λ k. eqb (get_or FROM_SUM k 0) (from_sum k)) (span_mem 0 30 k (omega arith) (omega arith)) sum_tests)
