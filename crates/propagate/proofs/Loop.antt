-- The loop over the waiting strikes. Assumes nothing.
use Prim.Native.Nat.{ℕ, zero, suc, ◌+◌, ◌*◌, ◌/◌, ◌%◌, ◌^◌, ◌≤◌, ◌<◌}
use mathlib.Core.Path.{◌≡◌, refl, sym, ◌∙◌, subst}
use mathlib.Core.Bool.{false, true≢false}
use mathlib.Core.Logic.{◌≢◌}
use mathlib.Core.List.{List}
use native.Mathlib.Omega.{arith}
use native.Mathlib.Nat.{pow-suc}
use native.Mathlib.Decide.{ℕ_discrete}
use lib.ListN.{length, get_or}
use borrow.Author.Tests.{ne_eqb}
use Rattle.bits.specs.Bit.{bit}
use Rattle.bits.proofs.BitLaws.{bit_zero, bit_suc, bit_none}
use Rattle.bits.proofs.SumLaws.{same_no}
use Rattle.queue_state.specs.Layout.{queue_room, slab_size}
use Rattle.queue_state.specs.Slab.{cand, table_in, tail, entry, lag}
use Rattle.queue_state.proofs.SlabLaws.{cand_in}
use Rattle.queue_state.proofs.ReadyLaws.{ready_grown, lag_pop}
use Rattle.queue_state.specs.Ready.{Valid, Next}
use Rattle.counters.proofs.CounterLaws.{next_valid}
use Rattle.invariants.specs.State.{Occupied, Lagging, Propagated}
use Rattle.propagate.proofs.FlowLaws.{flows_refl, flows_both, grids_same}
use Rattle.propagate.specs.Flow.{Flows}
use Rattle.propagate.specs.Update.{UpdateAsk, UpdateDone}

-- a number that is not 0 has a bit
one_bit : (w m : ℕ) → m < 2 ^ w → m ≢ 0 → (v : ℕ) × (v < w) × (bit v m ≡ 1)
one_bit zero m h d = absurd (d (omega arith))
one_bit (suc w) m h d =
    let u : m < 2 ^ w * 2 = rw pow-suc at h in
    elim (ℕ_discrete (m % 2) 1) [
      | yes e ↦ (0, omega arith, bit_zero m ∙ e)
      | no e ↦ let r = one_bit w (m / 2) (omega arith) (λ q. d (omega arith)) in (suc r.0, omega (arith, r.1), bit_suc r.0 m ∙ r.2)
    ]

-- After the strikes before the head.
pub record Propagating (n : ℕ) (l₀ l : List ℕ) (head : ℕ) : Type 0 where
  pub lagging : Lagging n l head
  pub size : length l ≡ length l₀
  pub sub : (x v : ℕ) → v < 16 → cand l x v ≤ cand l₀ x v
  pub flows : Flows n l₀ l

pub loop_start : {n : ℕ} {l : List ℕ} → Lagging n l 0 → Propagating n l l 0
loop_start {n} {l} a = record { lagging = a; size = refl; sub = λ x v h. omega arith; flows = flows_refl n l }

module _ {n : ℕ} {l₀ l : List ℕ} {head : ℕ} (g : Propagating n l₀ l head) where
  pub loop_size : length l ≡ slab_size
  loop_size = g.lagging.ready.sized.size

  pub loop_tail : tail l ≤ queue_room
  loop_tail = omega (arith, g.lagging.ready.sized.room)

  module _ (under : head < tail l) (e : ℕ) (is : e ≡ entry l head) where
    next : Next l head (e / 16) (e % 16)
    next = record { waiting = under; is = sym is ∙ omega arith }

    valid : Valid n (e / 16) (e % 16)
    valid = next_valid g.lagging.ready next (omega arith)

    pub loop_cell : e / 16 < 81
    loop_cell = omega (arith, valid.row, g.lagging.ready.size.high)

    cell_place : e / 16 / 9 * 9 + e / 16 % 9 ≡ e / 16
    cell_place = omega arith

    pub loop_ask : UpdateAsk n l (e / 16 / 9) (e / 16 % 9) (e % 16)
    loop_ask =
        record {
          head = head;
          strike = record {
            ready = g.lagging.ready;
            row = valid.row;
            column = valid.column;
            value = valid.value;
            next = subst (λ x. Next l head x (e % 16)) (sym cell_place) next;
          };
          once = g.lagging.once;
          counted = g.lagging.counted;
        }

    -- a cell is empty
    pub loop_empty : get_or l (e / 16) 0 ≡ 0 → Propagated n l₀ l false
    unfolding table_in
    loop_empty z =
        record {
          size = g.size;
          sub = g.sub;
          sound = λ p q k. grids_same l₀ l g.lagging.ready.size.high g.sub p q (g.flows.flow p q k).1;
          stable = λ p q k. (g.flows.flow p q k).1;
          emptied = λ _. record {
            row = e / 16 / 9;
            column = e / 16 % 9;
            row_in = valid.row;
            column_in = valid.column;
            empty = λ v m. ne_eqb (cand l (e / 16 / 9 * 9 + e / 16 % 9) v) 1 (λ q. omega (arith, none v, rw cell_place at q));
          };
          lagging = λ f. absurd (true≢false (sym f));
          kept = λ f. absurd (true≢false (sym f));
          closed = λ f. absurd (true≢false (sym f));
          lone_set = λ f. absurd (true≢false (sym f));
          filled = λ f. absurd (true≢false (sym f));
        }
      where
        none : (v : ℕ) → cand l (e / 16) v ≡ 0
        none v = cand_in l (e / 16) v loop_cell ∙ rw z (bit_none v)

    -- the strike is handled
    module _ (some : get_or l (e / 16) 0 ≢ 0) (fits : get_or l (e / 16) 0 < 2 ^ 16) {l' : List ℕ} (d : UpdateDone n l l' (e / 16 / 9) (e / 16 % 9) (e % 16)) where
      occupied : Occupied n l' (head + 1)
      unfolding Occupied lag
      occupied y hr hc = go (ℕ_discrete y (e / 16))
        where
          go : Dec (y ≡ e / 16) → (v : ℕ) × (v < 16) × (1 ≤ lag l' (head + 1) y v)
          go (yes q) =
              let b = one_bit 16 (get_or l (e / 16) 0) fits some in
              let c : cand l y b.0 ≡ 1 = rw q (cand_in l (e / 16) b.0 loop_cell ∙ b.2) in
              (b.0, b.1, omega (arith, d.grown.lags (head + 1) y b.0 (omega arith) b.1))
          go (no q) =
              let o = g.lagging.occupied y hr hc in
              let s = same_no (y * 16 + o.0) (e / 16 * 16 + e % 16) (λ x. q (omega (arith, o.1))) in
              (o.0, o.1, omega (arith, d.grown.lags (head + 1) y o.0 (omega arith) o.1, lag_pop next y o.0, o.2, s))

      pub loop_next : Propagating n l₀ l' (head + 1)
      loop_next =
          record {
            lagging = record {
              ready = ready_grown d.grown g.lagging.ready;
              upto = omega (arith, d.grown.grows);
              once = λ x v w. omega (arith, d.grown.lags 0 x v (omega arith) w, g.lagging.once x v w);
              occupied = occupied;
              counted = d.counted head (subst (λ x. Next l head x (e % 16)) (sym cell_place) next) g.lagging.counted;
            };
            size = d.grown.size ∙ g.size;
            sub = λ x v w. omega (arith, d.grown.sub x v w, g.sub x v w);
            flows = flows_both g.flows d.flows;
          }
