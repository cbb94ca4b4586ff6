-- The cell that a mask stands for: its lowest digit, or black. Assumes nothing.
use Prim.Native.Nat.{ℕ, zero, suc, ◌+◌, ◌-◌, ◌*◌, ◌^◌, ◌≤◌, ◌<◌}
use mathlib.Core.Path.{◌≡◌, refl, sym, ap, ◌∙◌}
use mathlib.Core.Logic.{⊎_elim}
use mathlib.Core.Bool.{Bool, true, false, true≢false}
use mathlib.Core.List.{List}
use native.Mathlib.Omega.{arith}
use native.Mathlib.Decide.{ℕ_discrete, dec_lt}
use lib.Dec.{eqb}
use lib.ListN.{get_or}
use lib.Bits.{bit_and, and_lt}
use lib.Count.{count_trailing_zeros}
use borrow.Author.Tests.{eqb-true, eq-eqb, ne_eqb}
use Rattle.tally.specs.Tally.{span, all, first}
use Rattle.tally.proofs.TallyLaws.{span_in, span_mem}
use Rattle.tally.proofs.ListLaws.{first_none}
use Rattle.tally.proofs.WayLaws.{all_each}
use Rattle.rules.specs.Grid.{digits}
use Rattle.table.specs.Reading.{read_cell}
use Rattle.bits.specs.Bit.{bit}
use Rattle.bits.proofs.BitLaws.{bit_lt, bit_and_lem, bit_none, Lowest, trailing_lowest}
use Rattle.queue_state.specs.Slab.{cand, table_in}
use Rattle.queue_state.proofs.SlabLaws.{cand_in}
use Rattle.queue_state.proofs.ReadyLaws.{ready_valid}
use Rattle.queue_state.specs.Ready.{Ready}
use Rattle.table.specs.Value.{ValueOf}

first_at : (q : ℕ → Bool) (d a k t : ℕ) → a ≤ t → t < a + k → q t ≡ true → ((j : ℕ) → a ≤ j → j < t → q j ≡ false) → first q d (span a k) ≡ t
unfolding first span
first_at q d a zero t h g p e = absurd (omega arith)
first_at q d a (suc k) t h g p e =
    elim (ℕ_discrete a t) [
      | yes z ↦ rw (z, p)
      | no z ↦ rw (e a (omega arith) (omega arith)) (first_at q d (suc a) k t (omega arith) (omega arith) p (λ j u v. e j (omega arith) v))
    ]

-- the bits of the digits
digit_mask : (v : ℕ) → 1 ≤ v → v < 8 → bit v 254 ≡ 1
unfolding all span bit
digit_mask v h g = eqb-true _ _ (all_each (λ v. eqb (bit v 254) 1) (span_mem 1 7 v h g) refl)

black_mask : (v : ℕ) → 8 ≤ v → v < 16 → bit v 254 ≡ 0
unfolding all span bit
black_mask v h g = eqb-true _ _ (all_each (λ v. eqb (bit v 254) 0) (span_mem 8 8 v h g) refl)

zero_mask : bit 0 254 ≡ 0
unfolding bit
zero_mask = refl

in_digits : (v : ℕ) → v < 16 → bit v 254 ≡ 1 → (1 ≤ v) × (v < 8)
in_digits v h e = (
  elim (ℕ_discrete v 0) [ yes q ↦ absurd (omega (arith, zero_mask, ap (λ w. bit w 254) q)) | no q ↦ omega arith ],
  elim (dec_lt v 8) [ yes q ↦ q | no q ↦ absurd (omega (arith, black_mask v (omega arith) h)) ],
)

module _ {n : ℕ} {l : List ℕ} {r c : ℕ} (s : Ready n l) (row : r < n) (column : c < n) where
  abbrev m : ℕ
  m = get_or l (r * 9 + c) 0

  is_bit : (v : ℕ) → cand l (r * 9 + c) v ≡ bit v m
  is_bit v = cand_in l (r * 9 + c) v (omega (arith, row, column, s.size.high))

  in_table : (v : ℕ) → bit v m ≡ 1 → table_in l r c v ≡ true
  unfolding table_in
  in_table v e = eq-eqb _ 1 (is_bit v ∙ e)

  not_in_table : (v : ℕ) → bit v m ≡ 0 → table_in l r c v ≡ false
  unfolding table_in
  not_in_table v e = ne_eqb (cand l (r * 9 + c) v) 1 (λ q. omega (arith, is_bit v))

  absent : (v : ℕ) → 1 ≤ v → v < n - 1 → bit v (bit_and m 254) ≡ 0 → table_in l r c v ≡ false
  absent v h g e = not_in_table v (omega (arith, bit_and_lem v m 254, digit_mask v h (omega (arith, s.size.high)), bit_lt v m))

  -- no digit is left
  pub read_black : bit_and m 254 ≡ 0 → 255 ≡ read_cell n (table_in l r c)
  unfolding read_cell digits
  read_black e =
      sym (first_none (table_in l r c) 255 (span 1 (n - 2)) (λ v k t. let h = span_in 1 (n - 2) v k in true≢false (sym t ∙ absent v h.0 (omega (arith, h.1, s.size.low)) (ap (bit v) e ∙ bit_none v))))

  module _ (f : m < 2 ^ 16) (some : (bit_and m 254 ≡ 0) → ⊥) where
    abbrev t : ℕ
    t = count_trailing_zeros 16 (bit_and m 254)

    lowest : Lowest 16 (bit_and m 254) t
    lowest = trailing_lowest 16 (bit_and m 254) (and_lt 16 m 254 f (omega arith)) (omega arith)

    both : (bit t m ≡ 1) × (bit t 254 ≡ 1)
    both = omega (arith, bit_and_lem t m 254, lowest.here, bit_lt t m, bit_lt t 254)

    -- a digit of the size
    digit : (1 ≤ t) × (t < n - 1)
    unfolding ValueOf
    digit =
        let d = in_digits t lowest.in_width both.1 in
        ⊎_elim (λ w. w) (λ w. absurd (omega (arith, d, w))) (ready_valid s (r * 9 + c) t lowest.in_width (is_bit t ∙ both.0)).value

    -- the lowest digit
    pub read_digit : t ≡ read_cell n (table_in l r c)
    unfolding read_cell digits
    read_digit =
        sym (first_at (table_in l r c) 255 1 (n - 2) t digit.0 (omega (arith, digit)) (in_table t both.0)
        (λ v h g. absent v h (omega (arith, digit)) (lowest.below v g)))
