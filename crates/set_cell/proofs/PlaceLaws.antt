-- Striking a value at places of a line. Assumes nothing.
use Prim.Native.Nat.{ℕ, ◌+◌, ◌-◌, ◌*◌, ◌/◌, ◌%◌, ◌^◌, ◌≤◌, ◌<◌}
use mathlib.Core.Path.{◌≡◌, sym, ap, subst, ◌∙◌}
use mathlib.Core.Logic.{◌≢◌, ◌⊎◌, inl, inr, ⊎_elim}
use mathlib.Core.Bool.{true}
use mathlib.Core.List.{List}
use native.Mathlib.Omega.{arith}
use native.Mathlib.Decide.{ℕ_discrete, dec_lt}
use lib.Bits.{bit_and}
use lib.Pow.{pow_mono}
use Rattle.bits.specs.Bit.{bit}
use Rattle.bits.proofs.BitLaws.{bit_lt, bit_le, bit_and_lem, bit_none, bit_taken, bit_kept, shl_one}
use Rattle.value.specs.Mask.{LowestOf}
use Rattle.value.proofs.LowestLaws.{rest_without, rest_keeps}
use Rattle.value.proofs.RunMask.{in_run, run_in}
use Rattle.lane.specs.declared.Lane.{Lane}
use Rattle.lane.specs.Lanes.{lane_value}
use Rattle.lane.specs.Rows.{RowLane, ColumnLane}
use Rattle.queue_state.specs.Slab.{cand, line_mask, Struck, One}
use Rattle.queue_state.proofs.StruckLaws.{struck_none, struck_both, struck_as}
use Rattle.set_cell.specs.Places.{At, InMask, MaskAsk, Running}
use Rattle.set_cell.specs.Setting.{Others, Around}

-- ---- the places of a mask, one after the other

-- a bit of a mask of places is a place
pub few_places : (m p : ℕ) → m < 512 → bit p m ≡ 1 → p < 9
few_places m p h e = elim (dec_lt p 9) [ yes k ↦ k | no k ↦ absurd (omega (arith, bit_le p m e, pow_mono {i = 9} {j = p} (omega arith))) ]

-- a bit of a line's mask and of another is one of the other
pub of_both : (m k p : ℕ) → bit p (bit_and m k) ≡ 1 → bit p k ≡ 1
of_both m k p e = omega (arith, bit_and_lem p m k, bit_lt p k, bit_lt p m)

pub running_start : (l : List ℕ) (lane : Lane) (m v : ℕ) → Running l l lane m m v
running_start l lane m v =
    record { within = λ p e. e; struck = struck_none l _ (λ x w n q. absurd (omega (arith, q.among.0, q.among.1))) }

pub running_next : {l₀ l l' : List ℕ} {lane : Lane} {m rest v p rest' : ℕ} →
    Running l₀ l lane m rest v → p < 9 → LowestOf rest p rest' → Struck l l' (One (lane.start + p * lane.stride) v) → Running l₀ l' lane m rest' v
unfolding One
running_next {lane = lane} {m = m} {rest = rest} {v = v} {p = p} {rest' = rest'} g z b s =
    record {
      within = λ q e. g.within q (sym (rest_keeps b q (λ d. omega (arith, rest_without b, ap (λ y. bit y rest') d))) ∙ e);
      struck = struck_as (struck_both g.struck s)
          (λ x w n. ⊎_elim
          (λ q.
          let other : q.place ≡ p → ⊥ = λ d. omega (arith, b.here, q.among.1, ap (λ y. bit y rest) d) in
          record { place = q.place; narrow = q.narrow; among = (q.among.0, rest_keeps b q.place other ∙ q.among.1); there = q.there; value = q.value })
          (λ q. record { place = p; narrow = z; among = (g.within p b.here, rest_without b); there = q.0; value = q.1 }))
          (λ x w n q. inl (one x w q (ℕ_discrete q.place p)));
    }
  where
    one : (x w : ℕ) (q : At lane (λ p. (bit p m ≡ 1) × (bit p rest' ≡ 0)) v x w) → Dec (q.place ≡ p) →
        At lane (λ p. (bit p m ≡ 1) × (bit p rest ≡ 0)) v x w ⊎ ((x ≡ lane.start + p * lane.stride) × (w ≡ v))
    one x w q (yes e) = inr (q.there ∙ ap (λ y. lane.start + y * lane.stride) e, q.value)
    one x w q (no e) =
        inl (record { place = q.place; narrow = q.narrow; among = (q.among.0, sym (rest_keeps b q.place e) ∙ q.among.1); there = q.there; value = q.value })

pub running_place : {l₀ l : List ℕ} {lane : Lane} {k v rest p : ℕ} → MaskAsk l₀ k v → (m : ℕ) → Running l₀ l lane (bit_and m k) rest v → bit p rest ≡ 1 → p < 9
running_place {k = k} {p = p} a m g e = few_places k p a.few (of_both m k p (g.within p e))

pub running_end : {l₀ l : List ℕ} {lane : Lane} {k v rest : ℕ} → MaskAsk l₀ k v → Running l₀ l lane (bit_and (line_mask l₀ lane.number v) k) rest v →
    rest ≡ 0 → Struck l₀ l (At lane (InMask k) v)
running_end {l₀} {l} {lane} {k} {v} {rest} a g z =
    struck_as g.struck
    (λ x w n q. record { place = q.place; narrow = q.narrow; among = of_both (line_mask l₀ lane.number v) k q.place q.among.0; there = q.there; value = q.value })
    (λ x w n q. go x w q (ℕ_discrete (bit q.place (line_mask l₀ lane.number v)) 1))
  where
    go : (x w : ℕ) (q : At lane (InMask k) v x w) → Dec (bit q.place (line_mask l₀ lane.number v) ≡ 1) →
        At lane (λ p. (bit p (bit_and (line_mask l₀ lane.number v) k) ≡ 1) × (bit p rest ≡ 0)) v x w ⊎ (cand l₀ x w ≡ 0)
    go x w q (yes e) = inl (record {
      place = q.place;
      narrow = q.narrow;
      among = (bit_and_lem q.place (line_mask l₀ lane.number v) k ∙ omega (arith, q.among), ap (bit q.place) z ∙ bit_none q.place);
      there = q.there;
      value = q.value;
    })
    go x w q (no d) = inr (
        let m = a.sized.masks.bits lane.number q.place v lane.within q.narrow a.value in
        rw (q.there ∙ lane.cells q.place q.narrow, q.value) (omega (arith, bit_lt q.place (line_mask l₀ lane.number v))))

-- the same places, said otherwise
at_as : {lane : Lane} {P Q : ℕ → Type 0} {v x w : ℕ} → ((p : ℕ) → p < 9 → P p → Q p) → At lane P v x w → At lane Q v x w
at_as f q = record { place = q.place; narrow = q.narrow; among = f q.place q.narrow q.among; there = q.there; value = q.value }

-- ---- the masks of the code: all places but one, those before it, and those behind it

module _ {i : ℕ} (h : i < 9) where
  pub but_one : (p : ℕ) → p < 9 → bit p (511 - 1 * 2 ^ i % 65536) ≡ 1 → p ≢ i
  but_one p k e d =
      let z : bit i (511 - 1 * 2 ^ i % 65536) ≡ 0 = rw (shl_one i (omega arith)) (bit_taken i 511 (run_in 0 9 i (omega arith) h (omega arith))) in
      let o : bit i (511 - 1 * 2 ^ i % 65536) ≡ 1 = rw d at e in
      omega arith

  pub one_out : (p : ℕ) → p < 9 → p ≢ i → bit p (511 - 1 * 2 ^ i % 65536) ≡ 1
  one_out p k d =
      rw (shl_one i (omega arith)) (bit_kept i 511 p (run_in 0 9 i (omega arith) h (omega arith)) d ∙ run_in 0 9 p (omega arith) k (omega arith))

  pub behind_enough : 1 * 2 ^ (i + 1) % 65536 ≤ 512
  behind_enough = rw (shl_one (i + 1) (omega arith)) (pow_mono {i = i + 1} {j = 9} (omega arith))

-- the strikes of the parts, by their masks
module _ {l l' : List ℕ} {lane : Lane} {i : ℕ} (h : i < 9) where
  pub others_struck : {v : ℕ} → lane_value lane.first v ≡ true → Struck l l' (At lane (InMask (511 - 1 * 2 ^ i % 65536)) v) → Struck l l' (Others lane i v)
  others_struck t s = struck_as s (λ x w n q. (t, at_as (but_one h) q)) (λ x w n q. inl (at_as (one_out h) q.1))

  pub around_struck : {l₁ : List ℕ} → Struck l l₁ (At lane (InMask (1 * 2 ^ i % 65536 - 1)) (lane.first + 1)) →
      Struck l₁ l' (At lane (InMask (512 - 1 * 2 ^ (i + 1) % 65536)) lane.first) → Struck l l' (Around lane i)
  around_struck s t =
      struck_as (struck_both s t)
      (λ x w n. ⊎_elim
      (λ q. inl (at_as (λ p k e. (in_run 0 i p (omega arith) (omega arith) (omega arith) e).1) q))
      (λ q. inr (at_as (λ p k e. let a = (in_run (i + 1) 9 p (omega arith) (omega arith) (omega arith) e).0 in omega arith) q)))
      (λ x w n. ⊎_elim
      (λ q. inl (inl (at_as (λ p k e. run_in 0 i p (omega arith) e (omega arith)) q)))
      (λ q. inl (inr (at_as (λ p k e. run_in (i + 1) 9 p (omega arith) k (omega arith)) q))))

-- a row and a column as lines: their cells, and where the candidates at their places are
row_cell : {n s : ℕ} (lane : Lane) → RowLane n s lane → (p : ℕ) → lane.start + p * lane.stride ≡ s * 9 + p
row_cell lane e p = rw (e.1, e.2) (omega arith)

column_cell : {n s : ℕ} (lane : Lane) → ColumnLane n s lane → (p : ℕ) → lane.start + p * lane.stride ≡ s + p * 9
column_cell lane e p = rw (e.1, e.2)

module _ {n s u x w : ℕ} {P : ℕ → Type 0} {lane : Lane} where
  pub row_at : RowLane n s lane → At lane P u x w → (x / 9 ≡ s) × P (x % 9)
  row_at e q =
      let t : x ≡ s * 9 + q.place = q.there ∙ row_cell lane e q.place in
      let p : x % 9 ≡ q.place = omega (arith, q.narrow) in
      (omega (arith, q.narrow), subst P (sym p) q.among)

  pub at_row : RowLane n s lane → x / 9 ≡ s → P (x % 9) → w ≡ u → At lane P u x w
  at_row e d h f = record { place = x % 9; narrow = omega arith; among = h; there = omega (arith, row_cell lane e (x % 9)); value = f }

  pub column_at : ColumnLane n s lane → At lane P u x w → s < 9 → (x % 9 ≡ s) × P (x / 9)
  column_at e q h =
      let t : x ≡ s + q.place * 9 = q.there ∙ column_cell lane e q.place in
      let p : x / 9 ≡ q.place = omega (arith, q.narrow) in
      (omega (arith, q.narrow), subst P (sym p) q.among)

  pub at_column : ColumnLane n s lane → x % 9 ≡ s → x < 81 → P (x / 9) → w ≡ u → At lane P u x w
  at_column e d z h f = record { place = x / 9; narrow = omega arith; among = h; there = omega (arith, column_cell lane e (x / 9)); value = f }
