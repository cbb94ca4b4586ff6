-- The values of a cell and of a line's half: what their lists say and what their numbers say is the same. Assumes nothing.
use Prim.Native.Nat.{ℕ, suc, ◌+◌, ◌-◌, ◌≤◌, ◌<◌}
use mathlib.Core.Path.{◌≡◌}
use mathlib.Core.Logic.{◌⊎◌, inl, inr, ⊎_elim}
use mathlib.Core.List.Memᴰ
use mathlib.Core.List.{[], ◌∷◌, Memᴰ}
use native.Mathlib.Omega.{arith}
use native.Mathlib.Decide.{dec_lt, ℕ_discrete}
use Rattle.tally.proofs.TallyLaws.{span_mem}
use Rattle.rules.specs.Grid.{digits, Line, across, down}
use Rattle.rules.specs.Mark.{left_black, upper_black}
use Rattle.table.specs.Table.{first_black, half, every_value}
use Rattle.table.specs.Value.{IsValue, ValueOf, InHalf, HalfOf}
use Rattle.line_laws.proofs.Half.{HalfValue, a_digit, a_first, a_second, half_value, digit_range, digit_in, first_in, second_in}

-- By its kind: a digit, a black of the cell's row or a black of its column.
pub data CellValue (n v : ℕ) : Type 0 where
  digit_value : Memᴰ v (digits n) → v < n - 1 → CellValue n v
  row_black : Memᴰ v (half n left_black) → 8 ≤ v → v < 10 → CellValue n v
  column_black : Memᴰ v (half n upper_black) → 10 ≤ v → v < 12 → CellValue n v

pub cell_value : (n v : ℕ) → IsValue n v → CellValue n v
unfolding every_value
cell_value n v m =
    ⊎_elim (λ q. low q (half_value n 8 v q)) (λ q. ⊎_elim upper (λ z. lower (Memᴰ.eq_of_singleton z)) (Memᴰ.cases_cons q))
    (Memᴰ.append_cases (half n 8) m)
  where
    low : Memᴰ v (half n 8) → HalfValue n 8 v → CellValue n v
    low q (a_digit m l u) = digit_value m u
    low q (a_first e) = row_black q (omega arith) (omega arith)
    low q (a_second e) = row_black q (omega arith) (omega arith)

    upper : v ≡ 10 → CellValue n v
    upper e = column_black (Memᴰ.cast e (first_in n 10)) (omega arith) (omega arith)

    lower : v ≡ 11 → CellValue n v
    lower e = column_black (Memᴰ.cast e (second_in n 10)) (omega arith) (omega arith)

-- A value of a line's half is one of the cell's.
pub half_every : (n : ℕ) (ℓ : Line) (v : ℕ) → InHalf n ℓ v → IsValue n v
unfolding first_black every_value
half_every n (across r) v m = Memᴰ.append_left (10 ∷ 11 ∷ []) m
half_every n (down c) v m = go (half_value n 10 v m)
  where
    go : HalfValue n 10 v → IsValue n v
    go (a_digit q l u) = Memᴰ.append_left (10 ∷ 11 ∷ []) (digit_in n 8 q)
    go (a_first e) = Memᴰ.append_right (half n 8) (Memᴰ.head e)
    go (a_second e) = Memᴰ.append_right (half n 8) (Memᴰ.tail (Memᴰ.head e))

-- ---- by number

pub value_range : {n v : ℕ} → n ≤ 9 → ValueOf n v → (1 ≤ v) × (v < 12)
unfolding ValueOf
value_range h = ⊎_elim (λ q. omega (arith, q.0, q.1)) (λ q. omega (arith, q.0, q.1))

pub value_small : (n v : ℕ) → n ≤ 9 → IsValue n v → v < 16
value_small n v z m = go (cell_value n v m)
  where
    go : CellValue n v → v < 16
    go (digit_value q h) = omega arith
    go (row_black q l h) = omega arith
    go (column_black q l h) = omega arith

pub value_of : (n v : ℕ) → IsValue n v → ValueOf n v
unfolding ValueOf
value_of n v m = go (cell_value n v m)
  where
    go : CellValue n v → ((1 ≤ v) × (v < n - 1)) ⊎ ((8 ≤ v) × (v < 12))
    go (digit_value q h) = inl (digit_range n v q)
    go (row_black q l h) = inr (l, omega arith)
    go (column_black q l h) = inr (omega arith, h)

-- a value of the size that is one of a half by its number is in the half's list
pub of_half : (n k v : ℕ) → ValueOf n v → HalfOf k v → Memᴰ v (half n k)
unfolding ValueOf HalfOf digits
of_half n k v (inl d) h = digit_in n k (span_mem 1 (n - 2) v d.0 (omega (arith, d.1)))
of_half n k v (inr b) (inl h) = absurd (omega (arith, b.0))
of_half n k v (inr b) (inr h) =
    elim (ℕ_discrete v k) [
      | yes e ↦ Memᴰ.cast e (first_in n k)
      | no e ↦ let s : v ≡ suc k = omega (arith, h.0, h.1) in Memᴰ.cast s (second_in n k)
    ]

pub value_half : (n k v : ℕ) → IsValue n v → HalfOf k v → Memᴰ v (half n k)
value_half n k v m h = of_half n k v (value_of n v m) h

pub row_half_value : (n v : ℕ) → ValueOf n v → v < 10 → Memᴰ v (half n 8)
unfolding HalfOf
row_half_value n v m h = of_half n 8 v m (elim (dec_lt v 8) [ yes l ↦ inl l | no l ↦ inr (omega arith, omega arith) ])

pub value_every : (n v : ℕ) → n ≤ 9 → ValueOf n v → IsValue n v
unfolding HalfOf first_black
value_every n v z m =
    elim (dec_lt v 10) [
      | yes h ↦ half_every n (across 0) v (row_half_value n v m h)
      | no h ↦ half_every n (down 0) v (of_half n 10 v m (inr (omega arith, omega (arith, (value_range z m).1))))
    ]

pub half_range : (n k v : ℕ) → n ≤ 9 → k ≤ 10 → Memᴰ v (half n k) → (v < 16) × HalfOf k v
unfolding HalfOf
half_range n k v z h m = go (half_value n k v m)
  where
    go : HalfValue n k v → (v < 16) × ((v < 8) ⊎ ((k ≤ v) × (v < k + 2)))
    go (a_digit q l u) = (omega arith, inl (omega arith))
    go (a_first e) = (omega arith, inr (omega arith, omega arith))
    go (a_second e) = (omega arith, inr (omega arith, omega arith))
