-- Measures of a table that fall: its open cells when a candidate is taken, its candidates when one is struck. Assumes nothing.
use Prim.Native.Nat.{ℕ, ◌+◌, ◌*◌, ◌/◌, ◌%◌, ◌≤◌, ◌<◌}
use mathlib.Core.Path.{◌≡◌, refl, sym, ap, ◌∙◌}
use mathlib.Core.Bool.{Bool, true, false, true≢false}
use mathlib.Core.List.{List, [], ◌∷◌, map, Memᴰ}
use native.Mathlib.Omega.{arith}
use native.Mathlib.Nat.{mod-lt, div-lt_iff_lt-mul, div-eq_of_lt, mod-eq_of_lt, mul-add-div_right, mul-add-mod_self_right}
use native.Mathlib.Decide.{ℕ_discrete}
use lib.Dec.{eqb, ltb}
use borrow.Author.Tests.{eq-eqb, ltb-true, lt-ltb, le-ltb}
use Rattle.tally.specs.Tally.{one_if, sum, count, span}
use Rattle.tally.proofs.TallyLaws.{Once, bit_le, sum_bits, span_in, span_mem, span_length}
use Rattle.rules.proofs.GridLaws.{place_lt, place_size}
use Rattle.rules.specs.Grid.{across}
use Rattle.rules.specs.Mark.{left_black}
use Rattle.table.specs.Table.{Table, first_black, half}
use Rattle.table.specs.Steps.{taken}
use Rattle.table.specs.Reading.{choices, open_cells, total}
use Rattle.line_laws.proofs.Pigeonhole.{sum_most}
use Rattle.line_laws.proofs.Half.{half_once}
use Rattle.line_laws.proofs.CellValues.{half_every}
use Rattle.soundness.specs.SameGrids.{Within}
use Rattle.soundness.proofs.Taken.{taken_gone, taken_within, strikes_here, row_value}

-- ---- sums and counts, element by element

sum_le : (f g : ℕ → ℕ) (xs : List ℕ) → ((x : ℕ) → Memᴰ x xs → f x ≤ g x) → sum (map f xs) ≤ sum (map g xs)
unfolding sum
sum_le f g [] h = omega arith
sum_le f g (x ∷ xs) h = omega (arith, h x (Memᴰ.head refl), sum_le f g xs (λ y m. h y (Memᴰ.tail m)))

sum_less : (f g : ℕ → ℕ) {y : ℕ} {xs : List ℕ} → Memᴰ y xs → ((x : ℕ) → Memᴰ x xs → f x ≤ g x) → f y < g y → sum (map f xs) < sum (map g xs)
unfolding sum
sum_less f g (Memᴰ.head {x = x} {xs = xs} e) h l =
    let k : f x < g x = rw e at l in omega (arith, sum_le f g xs (λ z m. h z (Memᴰ.tail m)))
sum_less f g (Memᴰ.tail {x = x} {xs = xs} k) h l = omega (arith, h x (Memᴰ.head refl), sum_less f g k (λ z m. h z (Memᴰ.tail m)) l)

count_le : (p q : ℕ → Bool) (xs : List ℕ) → ((x : ℕ) → Memᴰ x xs → p x ≡ true → q x ≡ true) → count p xs ≤ count q xs
count_le p q xs h = omega (arith, sum_bits p xs, sum_bits q xs, sum_le (λ x. one_if (p x)) (λ x. one_if (q x)) xs (λ x m. bit_le (p x) (q x) (h x m)))

count_less : (p q : ℕ → Bool) {y : ℕ} {xs : List ℕ} → Memᴰ y xs → ((x : ℕ) → Memᴰ x xs → p x ≡ true → q x ≡ true) → p y ≡ false → q y ≡ true →
    count p xs < count q xs
count_less p q {xs = xs} k h a b =
    let l = sum_less (λ x. one_if (p x)) (λ x. one_if (q x)) k (λ x m. bit_le (p x) (q x) (h x m)) (omega (arith, ap one_if a, ap one_if b)) in
    omega (arith, sum_bits p xs, sum_bits q xs)

-- ---- the cells of a table, row by row

cell_in : (n i : ℕ) → Memᴰ i (span 0 (n * n)) → (i / n < n) × (i % n < n)
cell_in n i m =
    let l = span_in 0 (n * n) i m in
    let h : i < n * n = omega arith in
    let z = place_size n i h in
    ((div-lt_iff_lt-mul z).1 h, mod-lt i z)

module _ (n r c : ℕ) (hr : r < n) (hc : c < n) where
  cell_mem : Memᴰ (r * n + c) (span 0 (n * n))
  cell_mem = let l = place_lt n r c hr hc in span_mem 0 (n * n) (r * n + c) (omega arith) (omega arith)

  cell_row : (r * n + c) / n ≡ r
  cell_row = let z : 0 < n = omega arith in mul-add-div_right z r c ∙ omega (arith, div-eq_of_lt hc)

  cell_column : (r * n + c) % n ≡ c
  cell_column = mul-add-mod_self_right r n c ∙ mod-eq_of_lt hc

-- the row_half candidates of cell i, and whether it is open
abbrev choices_at : ℕ → Table → ℕ → ℕ
choices_at n t i = choices n left_black (t (i / n) (i % n))

abbrev open_at : ℕ → Table → ℕ → Bool
open_at n t i = ltb 1 (choices_at n t i)

-- ---- smaller tables

module _ (n : ℕ) {u t : Table} (w : Within n u t) where
  row_kept : (r c v : ℕ) → r < n → c < n → Memᴰ v (half n left_black) → u r c v ≡ true → t r c v ≡ true
  unfolding first_black
  row_kept r c v hr hc m = w.kept r c v hr hc (half_every n (across r) v m)

  choices_le : (i : ℕ) → Memᴰ i (span 0 (n * n)) → choices_at n u i ≤ choices_at n t i
  unfolding choices
  choices_le i m =
      let q = cell_in n i m in
      count_le (u (i / n) (i % n)) (t (i / n) (i % n)) (half n left_black) (λ v k. row_kept (i / n) (i % n) v q.0 q.1 k)

  open_kept : (i : ℕ) → Memᴰ i (span 0 (n * n)) → open_at n u i ≡ true → open_at n t i ≡ true
  open_kept i m e = lt-ltb 1 (choices_at n t i) (omega (arith, choices_le i m, ltb-true 1 (choices_at n u i) e))

  -- A smaller table has no more candidates and no more open cells.
  pub total_le : total n u ≤ total n t
  unfolding total
  total_le = sum_le (choices_at n u) (choices_at n t) (span 0 (n * n)) choices_le

  pub open_le : open_cells n u ≤ open_cells n t
  unfolding open_cells
  open_le = count_le (open_at n u) (open_at n t) (span 0 (n * n)) open_kept

  module _ (r c : ℕ) (hr : r < n) (hc : c < n) where
    -- Where a candidate of a row half is gone there are fewer.
    pub total_less : (v : ℕ) → Memᴰ v (half n left_black) → t r c v ≡ true → u r c v ≡ false → total n u < total n t
    unfolding total choices
    total_less v m a b =
        sum_less (choices_at n u) (choices_at n t) (cell_mem n r c hr hc) choices_le
        (rw (cell_row n r c hr hc, cell_column n r c hr hc) (count_less (u r c) (t r c) m (λ x k. row_kept r c x hr hc k) b a))

    -- Where an open cell is closed there are fewer open cells.
    pub open_less : 2 ≤ choices n left_black (t r c) → choices n left_black (u r c) ≤ 1 → open_cells n u < open_cells n t
    unfolding open_cells
    open_less a b =
        count_less (open_at n u) (open_at n t) (cell_mem n r c hr hc) open_kept
        (rw (cell_row n r c hr hc, cell_column n r c hr hc) (le-ltb 1 (choices n left_black (u r c)) b))
        (rw (cell_row n r c hr hc, cell_column n r c hr hc) (lt-ltb 1 (choices n left_black (t r c)) a))

-- ---- the measures fall

-- There are no more open cells than cells.
pub open_most : (n : ℕ) (t : Table) → open_cells n t ≤ n * n
unfolding open_cells
open_most n t =
    let l = sum_most (λ i. one_if (open_at n t i)) (span 0 (n * n)) (λ i m. bit_le (open_at n t i) true (λ e. refl)) in
    omega (arith, sum_bits (open_at n t) (span 0 (n * n)), span_length 0 (n * n))

module _ (n : ℕ) (t : Table) (r c v : ℕ) (hr : r < n) (hc : c < n) (m : Memᴰ v (half n left_black)) where
  taken_choices : n ≤ 9 → choices n left_black (taken t r c v r c) ≤ 1
  unfolding choices Once
  taken_choices z =
      omega (
        arith,
        half_once n 8 z (omega arith) v m,
        count_le (taken t r c v r c) (eqb v) (half n left_black) (λ w q e.
            elim (ℕ_discrete w v) [
              | yes x ↦ eq-eqb v w (sym x)
              | no x ↦ absurd (true≢false (sym e ∙ taken_gone t r c v r c w (strikes_here r c v w (rw (row_value n v z m, row_value n w z q)) x)))
            ]),
      )

  -- Taking a candidate closes its open cell.
  pub taken_open : n ≤ 9 → 2 ≤ choices n left_black (t r c) → open_cells n (taken t r c v) < open_cells n t
  taken_open z many = open_less n (taken_within n t r c v) r c hr hc many (taken_choices z)
