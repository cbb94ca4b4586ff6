-- How many row_half candidates a cell has, by the set bits of its mask, and as the candidates of the table. Assumes nothing.
use Prim.Native.Nat.{ℕ, zero, suc, ◌+◌, ◌-◌, ◌*◌, ◌^◌, ◌≤◌, ◌<◌}
use mathlib.Core.Path.{◌≡◌, refl, sym, ap, ◌∙◌}
use mathlib.Core.Bool.{Bool}
use mathlib.Core.List.{List, [], ◌∷◌}
use native.Mathlib.Omega.{arith}
use lib.Dec.{eqb}
use lib.ListN.{get_or}
use lib.Bits.{bit_and, and_lt}
use lib.Count.{ones}
use borrow.Author.Tests.{eqb-true}
use Rattle.tally.specs.Tally.{one_if, span, all, count}
use Rattle.tally.proofs.TallyLaws.{span_mem, count_append}
use Rattle.tally.proofs.WayLaws.{all_each}
use Rattle.rules.specs.Grid.{digits}
use Rattle.table.specs.Table.{half}
use Rattle.table.specs.Reading.{choices}
use Rattle.bits.specs.Bit.{bit}
use Rattle.bits.proofs.BitLaws.{bit_lt, bit_and_lem, ones_sum}
use Rattle.bits.specs.Sum.{sum_over}
use Rattle.bits.proofs.SumLaws.{sum_same, sum_none, sum_first}
use Rattle.queue_state.specs.Slab.{cand, table_in}
use Rattle.queue_state.proofs.SlabLaws.{cand_in, cand_lt}
use Rattle.queue_state.proofs.ReadyLaws.{ready_unused}
use Rattle.queue_state.specs.Ready.{Ready}
use Rattle.pick.specs.Choice.{row_choices}

-- ---- by the set bits

-- the bits of the row half
pub mask_in : (v : ℕ) → 1 ≤ v → v < 10 → bit v 1022 ≡ 1
unfolding all span bit
mask_in v h g = eqb-true _ _ (all_each (λ v. eqb (bit v 1022) 1) (span_mem 1 9 v h g) refl)

pub mask_out : (v : ℕ) → 10 ≤ v → v < 16 → bit v 1022 ≡ 0
unfolding all span bit
mask_out v h g = eqb-true _ _ (all_each (λ v. eqb (bit v 1022) 0) (span_mem 10 6 v h g) refl)

pub mask_zero : bit 0 1022 ≡ 0
unfolding bit
mask_zero = refl

split_half : (f : ℕ → ℕ) → sum_over 0 16 f ≡ f 0 + sum_over 1 9 f + sum_over 10 6 f
unfolding sum_over
split_half f = omega arith

-- the set bits in the row half of a mask
ones_half : (m : ℕ) → m < 2 ^ 16 → ones (bit_and m 1022) ≡ sum_over 1 9 (λ v. bit v m)
ones_half m h =
    let f : ℕ → ℕ = λ v. bit v (bit_and m 1022) in
    let zero : f 0 ≡ 0 = bit_and_lem 0 m 1022 ∙ omega (arith, mask_zero) in
    let inner = sum_same 1 9 f (λ v. bit v m) (λ v a b. bit_and_lem v m 1022 ∙ omega (arith, mask_in v a (omega arith), bit_lt v m)) in
    let outer = sum_none 10 6 f (λ v a b. bit_and_lem v m 1022 ∙ omega (arith, mask_out v a (omega arith))) in
    ones_sum 16 (bit_and m 1022) (and_lt 16 m 1022 h (omega arith)) ∙ omega (arith, split_half f)

pub freedom_choices : (l : List ℕ) (x : ℕ) → x < 81 → get_or l x 0 < 2 ^ 16 → ones (bit_and (get_or l x 0) 1022) ≡ row_choices l x
unfolding row_choices
freedom_choices l x h g = ones_half (get_or l x 0) g ∙ sum_same 1 9 (λ v. bit v (get_or l x 0)) (cand l x) (λ v a b. sym (cand_in l x v h))

-- ---- as candidates of the table

count_sum : (q : ℕ → Bool) (a k : ℕ) → count q (span a k) ≡ sum_over a k (λ v. one_if (q v))
unfolding count span sum_over
count_sum q a zero = refl
count_sum q a (suc k) = let ih = count_sum q (suc a) k in omega (arith, sum_first a k (λ v. one_if (q v)))

sum_split : (a m k : ℕ) (f : ℕ → ℕ) → sum_over a (m + k) f ≡ sum_over a m f + sum_over (a + m) k f
unfolding sum_over
sum_split a m zero f = let z : m + 0 ≡ m = omega arith in rw z (omega arith)
sum_split a m (suc k) f =
    let s : m + suc k ≡ suc (m + k) = omega arith in
    let t : f (a + (m + k)) ≡ f (a + m + k) = ap f (omega arith) in
    rw s (omega (arith, sum_split a m k f))

blacks : (f : ℕ → ℕ) → sum_over 1 9 f ≡ sum_over 1 7 f + f 8 + f 9
unfolding sum_over
blacks f = omega arith

as_test : (k : ℕ) → k < 2 → one_if (eqb k 1) ≡ k
as_test zero h = refl
as_test (suc zero) h = refl
as_test (suc (suc k)) h = absurd (omega arith)

module _ {n : ℕ} {l : List ℕ} (s : Ready n l) where
  half_sum : (x : ℕ) → sum_over 1 9 (cand l x) ≡ sum_over 1 (n - 2) (cand l x) + cand l x 8 + cand l x 9
  half_sum x =
      let e : n - 2 + (9 - n) ≡ 7 = omega (arith, s.size.low, s.size.high) in
      let digit = rw e at (sum_split 1 (n - 2) (9 - n) (cand l x)) in
      let none = sum_none (1 + (n - 2)) (9 - n) (cand l x) (λ v a b. ready_unused s x v (omega (arith, s.size.low)) (omega (arith, s.size.high))) in
      omega (arith, blacks (cand l x))

  -- A cell has as many row_half candidates as the table has in the row half.
  pub row_choices_lem : (r c : ℕ) → choices n 8 (table_in l r c) ≡ row_choices l (r * 9 + c)
  unfolding choices half digits table_in row_choices count
  row_choices_lem r c =
      let x : ℕ = r * 9 + c in
      let test : ℕ → Bool = table_in l r c in
      let same : (v : ℕ) → one_if (test v) ≡ cand l x v = λ v. as_test (cand l x v) (cand_lt l x v) in
      let low = count_sum test 1 (n - 2) ∙ sum_same 1 (n - 2) (λ v. one_if (test v)) (cand l x) (λ v a b. same v) in
      count_append test (span 1 (n - 2)) (8 ∷ 9 ∷ []) ∙ omega (arith, same 8, same 9, half_sum x)
