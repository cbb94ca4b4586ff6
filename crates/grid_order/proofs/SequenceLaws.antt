-- The sequence of values by which grids are ordered, split at each of them. Assumes nothing.
use Prim.Native.Nat.{ℕ, ◌-◌, ◌≤◌, ◌<◌}
use mathlib.Core.Path.{◌≡◌, refl}
use mathlib.Core.Logic.{◌⊎◌, inl, inr, ⊎_elim}
use mathlib.Core.List.Memᴰ
use mathlib.Core.List.{List, [], ◌∷◌, ◌++◌, map, reverse, Memᴰ}
use native.Mathlib.Omega.{arith}
use Rattle.tally.specs.Tally.{span}
use Rattle.tally.proofs.TallyLaws.{span_in}
use Rattle.tally.proofs.WayLaws.{of_map}
use Rattle.line_laws.proofs.Lists.{of_join}
use Rattle.rules.specs.Grid.{digits}
use Rattle.rules.specs.Mark.{left_black, right_black}
use Rattle.rules.specs.Order.{RowValue, row_value, black_sequence, digit_sequence, sequence}
use Rattle.table.specs.Table.{half}
use Rattle.grid_order.specs.Split.{Split}
use Rattle.grid_order.proofs.SplitLaws.{split_each, split_head, split_tail, split_left, split_right, split_join, split_map, split_span, split_reverse, in_reverse}

-- What comes before a black: blacks of the rows above, and of its row the right one.
pub record BeforeBlack (r v : ℕ) (t : RowValue) : Type 0 where
  pub black : 8 ≤ t.value
  pub sooner : (t.row < r) ⊎ ((t.row ≡ r) × (v < t.value))

-- What comes before a digit: greater values, and the digit in the rows above.
pub record BeforeDigit (n r d : ℕ) (t : RowValue) : Type 0 where
  pub row_in : t.row < n
  pub sooner : (d < t.value) ⊎ ((t.value ≡ d) × (t.row < r))

abbrev blacks : ℕ → List RowValue
blacks r = row_value r right_black ∷ row_value r left_black ∷ []

of_blacks : {t : RowValue} (r : ℕ) → Memᴰ t (blacks r) → (t ≡ row_value r 9) ⊎ (t ≡ row_value r 8)
of_blacks r m = ⊎_elim inl (λ k. inr (Memᴰ.eq_of_singleton k)) (Memᴰ.cases_cons m)

black_row : {t : RowValue} (r : ℕ) → Memᴰ t (blacks r) → (t.row ≡ r) × (8 ≤ t.value) × (t.value < 10)
black_row r m = ⊎_elim (λ e. rw e (refl, omega arith, omega arith)) (λ e. rw e (refl, omega arith, omega arith)) (of_blacks r m)

module _ {n r : ℕ} (h : r < n) where
  two_blacks : (v : ℕ) → (v ≡ 9) ⊎ (v ≡ 8) → Split (row_value r v) (blacks r) (λ t. (t ≡ row_value r 9) × (v < 9))
  two_blacks v (inl e) = rw e (split_head (row_value r 9) (row_value r 8 ∷ []) _)
  two_blacks v (inr e) = rw e (split_tail (row_value r 9) (refl, omega arith) (split_head (row_value r 8) [] _))

  pub split_black : (v : ℕ) → (v ≡ 9) ⊎ (v ≡ 8) → Split (row_value r v) (sequence n) (BeforeBlack r v)
  unfolding sequence black_sequence
  split_black v e =
      split_left (digit_sequence n)
      (split_join blacks {x = r} (split_span 0 n r (omega arith) (omega arith))
      (λ z q w m. let b = black_row z m in record { black = b.1; sooner = inl (omega (arith, b.0, q.1)) })
      (split_each (two_blacks v e) (λ t q. rw q.0 (record { black = omega arith; sooner = inr (refl, q.1) }))))

  pub split_digit : n ≤ 9 → (d : ℕ) → 1 ≤ d → d < n - 1 → Split (row_value r d) (sequence n) (BeforeDigit n r d)
  unfolding sequence black_sequence digit_sequence digits
  split_digit small d low high =
      split_right (black_sequence n)
      (λ t m. let o = of_join blacks (span 0 n) m in
      let b = black_row o.0 o.2 in
      record { row_in = let s = span_in 0 n o.0 o.1 in omega (arith, b.0, s.1); sooner = inl (omega (arith, b.1)) })
      (split_join (λ w. map (λ k. row_value k w) (span 0 n)) {x = d} (split_reverse 1 (n - 2) d low (omega arith))
      (λ w q t m. let o = of_map (λ k. row_value k w) (span 0 n) m in let s = span_in 0 n o.0 o.1 in
      rw o.2 (record { row_in = omega (arith, s.1); sooner = inl q.0 }))
      (split_each (split_map (λ k. row_value k d) (split_span 0 n r (omega arith) (omega arith)))
      (λ t o. rw o.2 (record { row_in = omega (arith, o.1.1); sooner = inr (refl, o.1.1) }))))

-- A value of the sequence: its row is one of the grid's, and it is in the row half.
pub in_sequence : (n : ℕ) (t : RowValue) → Memᴰ t (sequence n) → (t.row < n) × Memᴰ t.value (half n 8)
unfolding sequence black_sequence digit_sequence half
in_sequence n t m = ⊎_elim black digit (Memᴰ.append_cases (black_sequence n) m)
  where
    black : Memᴰ t (black_sequence n) → (t.row < n) × Memᴰ t.value (digits n ++ 8 ∷ 9 ∷ [])
    black k =
        let o = of_join blacks (span 0 n) k in
        let s = span_in 0 n o.0 o.1 in
        ⊎_elim (λ e. rw e (omega (arith, s.1), Memᴰ.append_right (digits n) (Memᴰ.tail (Memᴰ.head refl)))) (λ e. rw e (omega (arith, s.1), Memᴰ.append_right (digits n) (Memᴰ.head refl)))
        (of_blacks o.0 o.2)

    digit : Memᴰ t (digit_sequence n) → (t.row < n) × Memᴰ t.value (digits n ++ 8 ∷ 9 ∷ [])
    digit k =
        let o = of_join (λ w. map (λ i. row_value i w) (span 0 n)) (reverse (digits n)) k in
        let i = of_map (λ i. row_value i o.0) (span 0 n) o.2 in
        let s = span_in 0 n i.0 i.1 in
        rw i.2 (omega (arith, s.1), Memᴰ.append_left (8 ∷ 9 ∷ []) (in_reverse (digits n) o.1))
