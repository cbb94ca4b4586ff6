-- The rows looked through one after another: what comes first in the sequence among the values that open cells have. Assumes nothing.
use Prim.Native.Nat.{ℕ, ◌+◌, ◌-◌, ◌*◌, ◌/◌, ◌%◌, ◌^◌, ◌≤◌, ◌<◌}
use mathlib.Core.Path.{◌≡◌, ap}
use mathlib.Core.Bool.{cond}
use mathlib.Core.Logic.{◌⊎◌, inl, inr, ⊎_elim}
use mathlib.Core.List.{List}
use native.Mathlib.Omega.{arith}
use native.Mathlib.Decide.{ℕ_discrete, dec_lt, dec_le}
use lib.Dec.{leb}
use borrow.Author.Tests.{le-leb, lt-leb}
use Rattle.std.specs.Prelude.{Option, Some, None}
use Rattle.rules.specs.Order.{row_value, sequence}
use Rattle.rules.specs.Order as order
use Rattle.bits.specs.Bit.{bit}
use Rattle.bits.proofs.BitLaws.{bit_none}
use Rattle.table.specs.Value.{ValueOf}
use Rattle.queue_state.specs.Ready.{Ready}
use Rattle.queue_state.proofs.ReadyLaws.{ready_valid}
use Rattle.grid_order.proofs.SplitLaws.{split_each}
use Rattle.grid_order.proofs.SequenceLaws.{BeforeBlack, BeforeDigit, split_black, split_digit}
use Rattle.pick.specs.declared.RowValue.{RowValue}
use Rattle.pick.specs.Choice.{row_choices, Open, Decided, Branch}
use Rattle.pick.specs.Scanning.{OpenValues, Undecided, Leading, Led, greater_of, FirstValue, LastColumn}
use Rattle.pick.proofs.OpenLaws.{some_open, highest_here, highest_above}

-- ---- the column

module _ {l : List ℕ} where
  pub last_start : (s : RowValue) → LastColumn l s 0 0
  last_start s = record { here = λ j h o. absurd (omega arith); last = λ j h g o. absurd (omega arith) }

  module _ {s : RowValue} {k c : ℕ} (so_far : LastColumn l s k c) where
    pub last_here : Open l (s.row * 9 + k) s.value → LastColumn l s (k + 1) k
    last_here o = record { here = λ j h _. (omega arith, o); last = λ j h g _. absurd (omega arith) }

    pub last_there : (Open l (s.row * 9 + k) s.value → ⊥) → LastColumn l s (k + 1) c
    last_there f =
        record {
          here = λ j h o.
              elim (ℕ_discrete j k) [
                | yes q ↦ absurd (f (rw q at o))
                | no q ↦ let w = so_far.here j (omega arith) o in (omega (arith, w.0), w.1)
              ];
          last = λ j h g o.
              elim (ℕ_discrete j k) [
                | yes q ↦ f (rw q at o)
                | no q ↦ so_far.last j h (omega arith) o
              ];
        }

-- ---- the value

module _ {n : ℕ} {l : List ℕ} where
  pub led_start : Led n l 0 None
  led_start r c w h = absurd (omega arith)

  -- ---- one row more

  -- a row without an open cell
  pub led_same : {k m : ℕ} → OpenValues l k n m → m ≡ 0 → (best : Option RowValue) → Led n l k best → Led n l (k + 1) best
  led_same {k} {m} values z = go
    where
      none : (r c w : ℕ) → r < k + 1 → c < n → Open l (r * 9 + c) w → r < k
      none r c w h g o =
          elim (ℕ_discrete r k) [
            | yes q ↦ absurd (omega (arith, values.all w c g (rw q at o), ap (bit w) z, bit_none w))
            | no q ↦ omega arith
          ]

      go : (best : Option RowValue) → Led n l k best → Led n l (k + 1) best
      go None led = λ r c w h g o. led r c w (none r c w h g o) g o
      go (Some s) led =
          record {
            undecided = led.undecided;
            seen = omega (arith, led.seen);
            digit = led.digit;
            greatest = λ r c w h g o. led.greatest r c w (none r c w h g o) g o;
          }

  -- The highest value of the row, which the mask shows.
  module _ {k m v : ℕ} (values : OpenValues l k n m) (low : 2 ^ v ≤ m) (high : m < 2 * 2 ^ v) (small : v < 16) (row_in : k < n) where
    most : (c w : ℕ) → c < n → Open l (k * 9 + c) w → w ≤ v
    most c w h o = highest_above v m w high (values.all w c h o)

    top : Undecided n l (record { row = k; value = v })
    top =
        let w = values.has v small (highest_here v m low high) in
        record { row_in = row_in; column = w.0; column_in = w.1; open_here = w.2 }

    -- a black: what is open above is no black, and in the row nothing is above it
    pub lead_black : 8 ≤ v → (best : Option RowValue) → Led n l k best → FirstValue n l (Some (record { row = k; value = v }))
    lead_black h best led = (top, split_each (split_black row_in v which) decided)
      where
        range : v < 10
        range = top.open_here.candidate.high

        which : (v ≡ 9) ⊎ (v ≡ 8)
        which = elim (ℕ_discrete v 9) [ yes e ↦ inl e | no e ↦ inr (omega (arith, range)) ]

        above : (best : Option RowValue) → Led n l k best → (r c w : ℕ) → r < k → c < n → Open l (r * 9 + c) w → w < 8
        above None led r c w i g o = absurd (led r c w i g o)
        above (Some s) led r c w i g o = let d = led.digit in ⊎_elim (λ q. omega arith) (λ q. omega (arith, q.0)) (led.greatest r c w i g o)

        decided : (t : order.RowValue) → BeforeBlack k v t → Decided n l t
        decided t b =
            record {
              none_open = λ c g o.
                  ⊎_elim (λ q. absurd (omega (arith, above best led t.row c t.value q g o, b.black)))
                  (λ q. absurd (omega (arith, most c t.value g (rw q.0 at o), q.1))) b.sooner;
            }

    -- a digit: the greater one leads
    at_most : (w : ℕ) → w ≤ v → {r : ℕ} → r ≡ k → (w < v) ⊎ ((w ≡ v) × (k ≤ r))
    at_most w a e = elim (ℕ_discrete w v) [ yes q ↦ inr (q, omega arith) | no q ↦ inl (omega arith) ]

    next : RowValue
    next = record { row = k; value = v }

    lead_next : v < 8 → ((r c w : ℕ) → r < k → c < n → Open l (r * 9 + c) w → w < v) → Leading n l (k + 1) next
    unfolding next
    lead_next h above =
        record {
          undecided = top;
          seen = omega arith;
          digit = h;
          greatest = λ r c w i g o.
              elim (ℕ_discrete r k) [ yes q ↦ at_most w (most c w g (rw q at o)) q | no q ↦ inl (above r c w (omega arith) g o) ];
        }

    lead_old : (s : RowValue) → Leading n l k s → v ≤ s.value → Leading n l (k + 1) s
    lead_old s led h =
        record {
          undecided = led.undecided;
          seen = omega (arith, led.seen);
          digit = led.digit;
          greatest = λ r c w i g o.
              elim (ℕ_discrete r k) [
                | yes q ↦
                    ⊎_elim (λ a. inl (omega arith))
                    (λ a. elim (ℕ_discrete w s.value) [ yes e ↦ inr (e, omega (arith, led.seen)) | no e ↦ inl (omega (arith, a.0)) ]) (at_most w (most c w g (rw q at o)) q)
                | no q ↦ led.greatest r c w (omega arith) g o
              ];
        }

    pub lead_digit : v < 8 → (best : Option RowValue) → Led n l k best → Led n l (k + 1) (greater_of best (record { row = k; value = v }))
    unfolding next
    lead_digit h None led = lead_next h (λ r c w i g o. absurd (led r c w i g o))
    lead_digit h (Some s) led = go (dec_le v s.value)
      where
        go : Dec (v ≤ s.value) → Led n l (k + 1) (cond (leb v s.value) (Some s) (Some next))
        go (yes q) = rw (le-leb v s.value q) (lead_old s led q)
        go (no q) =
            rw (lt-leb v s.value (omega arith))
            (lead_next h (λ r c w i g o. ⊎_elim (λ a. omega arith) (λ a. omega (arith, a.0)) (led.greatest r c w i g o)))

  -- ---- all rows

  pub lead_done : Ready n l → (best : Option RowValue) → Led n l n best → FirstValue n l best
  unfolding ValueOf
  lead_done ready None led = led
  lead_done ready (Some s) led = (u, split_each (split_digit u.row_in ready.size.high s.value u.open_here.candidate.low digit) decided)
    where
      u : Undecided n l s
      u = led.undecided

      digit : s.value < n - 1
      digit =
          ⊎_elim (λ q. q.1) (λ q. absurd (omega (arith, q.0, led.digit)))
          (ready_valid ready (s.row * 9 + u.column) s.value (omega (arith, led.digit)) u.open_here.candidate.has).value

      decided : (t : order.RowValue) → BeforeDigit n s.row s.value t → Decided n l t
      decided t b =
          record {
            none_open = λ c g o.
                let i = led.greatest t.row c t.value b.row_in g o in
                ⊎_elim (λ q. ⊎_elim (λ a. omega arith) (λ a. omega (arith, a.0)) i) (λ q. ⊎_elim (λ a. omega (arith, q.0)) (λ a. omega (arith, a.1, q.1)) i) b.sooner;
          }

  -- ---- what is picked

  pub picked_some : {s : RowValue} {c : ℕ} → FirstValue n l (Some s) → LastColumn l s n c → Branch n l s.row c s.value
  picked_some {s} first column =
      let u = first.0 in
      let w = column.here u.column u.column_in u.open_here in
      record { row_in = u.row_in; column_in = w.0; open_here = w.1; foremost = first.1; rightmost = column.last }

  pub picked_none : FirstValue n l None → (x : ℕ) → x / 9 < n → x % 9 < n → row_choices l x ≤ 1
  picked_none none x h g =
      elim (dec_lt 1 (row_choices l x)) [
        | yes q ↦
            let o = some_open l x q in
            absurd (none (x / 9) (x % 9) o.0 h g (let e : x / 9 * 9 + x % 9 ≡ x = omega arith in rw e o.1))
        | no q ↦ omega arith
      ]
