-- The fresh state is ready: there is room for all its candidates, and only candidates of the size are in it. Assumes nothing.
use Prim.Native.Nat.{ℕ, ◌-◌, ◌/◌, ◌%◌, ◌^◌, ◌≤◌, ◌<◌}
use mathlib.Core.Path.{◌≡◌, refl, sym, ap, ◌∙◌}
use mathlib.Core.Logic.{◌⊎◌, inl, inr}
use mathlib.Core.Bool.{Bool, true, false, ◌&&◌, ◌||◌, cond, or-true, and_comm}
use mathlib.Core.List.{List}
use native.Mathlib.Omega.{arith}
use native.Mathlib.Decide.{ℕ_discrete, dec_lt}
use lib.Dec.{eqb, ltb, leb}
use borrow.Author.Tests.{lt-ltb, le-leb, leb-true, ltb-true, eq-eqb, ne_eqb}
use Rattle.tally.specs.Tally.{span, all}
use Rattle.tally.specs.Tally as tally
use Rattle.tally.proofs.TallyLaws.{and_left, and_right}
use Rattle.rules.specs.Grid.{digits}
use Rattle.rules.proofs.SizeLaws.{at_size}
use Rattle.rules.specs.Size.{Size}
use Rattle.table.specs.Table.{half, every_value, mask_of}
use Rattle.value.proofs.MaskLaws.{mask_bits}
use Rattle.value.proofs.RunMask.{run_bits}
use Rattle.bits.specs.Bit.{bit}
use Rattle.bits.specs.Sum.{sum_over}
use Rattle.bits.proofs.SumLaws.{sum_same}
use Rattle.bits.proofs.BitLaws.{bit_lt, bit_none}
use Rattle.queue_state.specs.Layout.{queue_room, tail_at}
use Rattle.queue_state.specs.Slab.{cand, tail, waits, lag, candidates_left, Mirrored}
use Rattle.queue_state.proofs.SlabLaws.{cand_in, cand_out}
use Rattle.queue_state.specs.Ready.{Valid, Ready}
use Rattle.table.specs.Value.{ValueOf}
use Rattle.table.specs.Lines.{cell_at}
use Rattle.lane.proofs.LaneLaws.{cell_row, cell_column, cell_in as cell_in_grid}
use Rattle.fresh.specs.Fresh.{cell_in, places_of, mask_in_line, Fresh}

-- the candidates of the full table of size n
unfoldable pub full_cand : ℕ → ℕ → ℕ → ℕ
full_cand n x v = bit v (cell_in n n (mask_of (every_value n)) x)

-- ---- computed at each size

room_test : ℕ → Bool
room_test n = leb (sum_over 0 1296 (λ (k : ℕ). full_cand n (k / 16) (k % 16))) queue_room

room_right : all room_test (span 2 8) ≡ true
unfolding room_test full_cand cell_in mask_of every_value half digits span all sum_over bit tally.sum
room_right = refl

-- a full line has the places of the size
place_bit : (n p : ℕ) → Size n → p < 9 → bit p (2 ^ n - 1) ≡ cond (ltb p n) 1 0
place_bit n p s h = run_bits 0 n p (omega arith) s.high (omega arith) ∙ rw (le-leb 0 p (omega arith)) refl

-- which bits a full cell has
unfoldable pub full_bit : ℕ → ℕ → Bool
full_bit n v = (leb 1 v && ltb v (n - 1)) || (leb 8 v && ltb v 12)

pub full_bit_lem : (n v : ℕ) → Size n → v < 16 → bit v (mask_of (every_value n)) ≡ cond (full_bit n v) 1 0
unfolding full_bit mask_of every_value half digits span all bit tally.sum
full_bit_lem = mask_bits every_value (λ n v. cond (full_bit n v) 1 0) refl

pub named_value : (n v : ℕ) → full_bit n v ≡ true → ValueOf n v
unfolding full_bit ValueOf
named_value n v t = go (leb 1 v && ltb v (n - 1)) refl t
  where
    go : (b : Bool) → (leb 1 v && ltb v (n - 1)) ≡ b → (b || (leb 8 v && ltb v 12)) ≡ true → ((1 ≤ v) × (v < n - 1)) ⊎ ((8 ≤ v) × (v < 12))
    go true e u = inl (leb-true 1 v (and_left (leb 1 v) _ e), ltb-true v (n - 1) (and_right (leb 1 v) _ e))
    go false e u = inr (leb-true 8 v (and_left (leb 8 v) _ u), ltb-true v 12 (and_right (leb 8 v) _ u))

pub value_named : (n v : ℕ) → ValueOf n v → full_bit n v ≡ true
unfolding full_bit ValueOf
value_named n v (inl h) = rw (le-leb 1 v h.0, lt-ltb v (n - 1) h.1)
value_named n v (inr h) =
    rw (le-leb 8 v h.0, lt-ltb v 12 h.1) (or-true (leb 1 v && ltb v (n - 1)))

-- ---- the fresh state

module _ {n : ℕ} {l : List ℕ} (s : Size n) (f : Fresh n l) where
  pub fresh_cand : (x v : ℕ) → x < 81 → cand l x v ≡ full_cand n x v
  unfolding full_cand
  fresh_cand x v h = cand_in l x v h ∙ ap (bit v) (f.cells x h)

  pub fresh_tail : tail l ≡ 0
  fresh_tail = f.queue tail_at (omega arith) (omega arith)

  pub fresh_lag : (x v : ℕ) → lag l 0 x v ≡ cand l x v
  unfolding lag waits sum_over
  fresh_lag x v = rw fresh_tail (omega arith)

  -- a candidate in the table is one of the size
  fresh_valid : (x v : ℕ) → v < 16 → 1 ≤ cand l x v → Valid n x v
  unfolding full_cand cell_in
  fresh_valid x v h c = go (dec_lt x 81)
    where
      along_row : x < 81 → (b : Bool) → ltb (x / 9) n ≡ b → 1 ≤ bit v (cond (b && ltb (x % 9) n) (mask_of (every_value n)) 0) → (e : Bool) → ltb (x % 9) n ≡ e →
          1 ≤ bit v (cond (b && e) (mask_of (every_value n)) 0) → (d : Bool) → full_bit n v ≡ d → Valid n x v
      along_row k false p u e q w d r = absurd (omega (arith, bit_none v))
      along_row k true p u false q w d r = absurd (omega (arith, bit_none v))
      along_row k true p u true q w false r = absurd (let z : bit v (mask_of (every_value n)) ≡ 0 = rw r at (full_bit_lem n v s h) in omega arith)
      along_row k true p u true q w true r = record { row = ltb-true (x / 9) n p; column = ltb-true (x % 9) n q; value = named_value n v r }

      go : Dec (x < 81) → Valid n x v
      go (yes k) =
          let c₁ : 1 ≤ bit v (cond (ltb (x / 9) n && ltb (x % 9) n) (mask_of (every_value n)) 0) = omega (arith, fresh_cand x v k) in
          along_row k (ltb (x / 9) n) refl c₁ (ltb (x % 9) n) refl c₁ (full_bit n v) refl
      go (no k) = absurd (omega (arith, cand_out l x v (omega arith)))

  -- and every candidate of the size is in the table
  pub fresh_full : (x v : ℕ) → v < 16 → Valid n x v → cand l x v ≡ 1
  unfolding full_cand cell_in
  fresh_full x v h a =
      let k : x < 81 = omega (arith, a.row, s.high) in
      fresh_cand x v k ∙ rw (lt-ltb (x / 9) n a.row, lt-ltb (x % 9) n a.column) (full_bit_lem n v s h ∙ rw (value_named n v a.value))

  fresh_room : candidates_left l ≤ queue_room
  unfolding candidates_left room_test
  fresh_room =
      let e = sum_same 0 1296 (λ (k : ℕ). cand l (k / 16) (k % 16)) (λ (k : ℕ). full_cand n (k / 16) (k % 16)) (λ k p q. fresh_cand (k / 16) (k % 16) (omega arith)) in
      omega (arith, leb-true (sum_over 0 1296 (λ (k : ℕ). full_cand n (k / 16) (k % 16))) queue_room (at_size room_test room_right n s))

  -- a place of a line has a value in its mask exactly where its cell has it
  fresh_masks : Mirrored l
  unfolding full_cand cell_in mask_in_line places_of
  fresh_masks =
      record {
        bits = λ ℓ p v h k u.
            ap (bit p) (f.masks ℓ v h u)
            ∙ both (ltb (ℓ % 9) n) (ltb p n) p v (place_bit n p s k) (dec_one v)
            ∙ ap (λ b. bit v (cond b (mask_of (every_value n)) 0)) (sym (in_grid ℓ p h k))
            ∙ sym (fresh_cand (cell_at ℓ p) v (cell_in_grid ℓ p h k));
      }
    where
      dec_one : (v : ℕ) → Dec (bit v (mask_of (every_value n)) ≡ 1)
      dec_one v = ℕ_discrete (bit v (mask_of (every_value n))) 1

      in_grid : (ℓ p : ℕ) → ℓ < 18 → p < 9 → (ltb (cell_at ℓ p / 9) n && ltb (cell_at ℓ p % 9) n) ≡ (ltb (ℓ % 9) n && ltb p n)
      in_grid ℓ p h k =
          elim (dec_lt ℓ 9) [
            | yes r ↦
                let a : cell_at ℓ p / 9 ≡ ℓ % 9 = omega (arith, cell_row ℓ p r) in
                let b : cell_at ℓ p % 9 ≡ p = omega (arith, cell_row ℓ p r) in
                rw (a, b) refl
            | no r ↦
                let a : cell_at ℓ p / 9 ≡ p = omega (arith, cell_column ℓ p (omega arith)) in
                let b : cell_at ℓ p % 9 ≡ ℓ % 9 = omega (arith, cell_column ℓ p (omega arith)) in
                rw (a, b) (and_comm (ltb p n) (ltb (ℓ % 9) n))
          ]

      both : (a b : Bool) (p v : ℕ) → bit p (2 ^ n - 1) ≡ cond b 1 0 → Dec (bit v (mask_of (every_value n)) ≡ 1) →
          bit p (cond a (cond (eqb (bit v (mask_of (every_value n))) 1) (2 ^ n - 1) 0) 0) ≡ bit v (cond (a && b) (mask_of (every_value n)) 0)
      both false b p v e d = bit_none p ∙ sym (bit_none v)
      both true true p v e (yes d) = rw (eq-eqb _ 1 d) (e ∙ sym d)
      both true false p v e (yes d) = rw (eq-eqb _ 1 d) (e ∙ sym (bit_none v))
      both true true p v e (no d) = rw (ne_eqb _ 1 d) (bit_none p ∙ omega (arith, bit_lt v (mask_of (every_value n))))
      both true false p v e (no d) = rw (ne_eqb _ 1 d) (bit_none p ∙ sym (bit_none v))

  pub fresh_ready : Ready n l
  fresh_ready =
      record {
        sized = record { size = f.size; room = omega (arith, fresh_tail, fresh_room); masks = fresh_masks };
        size = s;
        proper = λ x v h k. fresh_valid x v h (omega (arith, fresh_lag x v));
      }
