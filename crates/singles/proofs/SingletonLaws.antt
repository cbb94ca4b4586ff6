-- The handler of both halves of a cell. Assumes nothing.
use Prim.Native.Nat.{ℕ, ◌+◌, ◌*◌}
use mathlib.Core.Path.{refl}
use mathlib.Core.Logic.{inl, inr}
use mathlib.Core.List.{List}
use native.Mathlib.Omega.{arith}
use Rattle.rules.specs.Grid.{across, down, index}
use Rattle.rules.specs.Mark.{left_black, upper_black}
use Rattle.lane.specs.Lanes.{lane_value}
use Rattle.queue_state.specs.Layout.{row_half_place, col_half_place}
use Rattle.queue_state.specs.Ready.{Next}
use Rattle.counters.specs.Counters.{HalvesOf}
use Rattle.counters.proofs.CounterLaws.{moved_wide, moved_both}
use Rattle.counters.proofs.Families.{half_moved}
use Rattle.set_cell.proofs.SettingLaws.{row_value, column_value}
use Rattle.singles.proofs.ReasonLaws.{steps_both}
use Rattle.singles.proofs.HandlingLaws.{handling_grown, handling_at, handling_now, handling_cell, handling_value}
use Rattle.singles.specs.Handling.{Handling, HalfAt, HalfAsk, HalfDone, SingletonAsk, SingletonDone}

module _ {n r c v h : ℕ} {l : List ℕ} (a : Handling n l r c v h) where
  row_at : HalvesOf (across r) n l h → HalfAt n l (lane_value left_black v) (row_half_place (r * 9 + c)) (r * 9 + c) 1022 (across r) c h v
  unfolding index
  row_at w =
      record { line = a.row; place = a.column; there = refl; at_counter = refl; at_mask = refl; value = a.value; owned = row_value v; next = a.next; halves = w }

  column_at : HalvesOf (down c) n l h → HalfAt n l (lane_value upper_black v) (col_half_place (r * 9 + c)) (r * 9 + c) 3326 (down c) r h v
  unfolding index
  column_at w =
      record { line = a.column; place = a.row; there = refl; at_counter = refl; at_mask = refl; value = a.value; owned = column_value v (handling_value a); next = a.next; halves = w }

module _ {n r c v : ℕ} {l : List ℕ} (a : SingletonAsk n l r c v) where
  pub row_half_ask : HalfAsk n l (lane_value left_black v) (row_half_place (r * 9 + c)) (r * 9 + c) 1022
  row_half_ask =
      record { ready = a.strike.ready; line = across r; place = c; head = a.head; value = v; half = row_at a.strike a.halves.rows }

  module _ {l₁ : List ℕ} (d : HalfDone n l l₁ (lane_value left_black v) (row_half_place (r * 9 + c)) (r * 9 + c) 1022) where
    column_now : (h : ℕ) → Next l h (r * 9 + c) v → HalvesOf (down 0) n l h →
        HalfAt n l₁ (lane_value upper_black v) (col_half_place (r * 9 + c)) (r * 9 + c) 3326 (down c) r h v
    column_now h x w =
        column_at (handling_now d.moved.grown a.strike h x)
        (half_moved a.strike.ready.size.high d.moved (omega (arith, x.waiting)) (down 0) (inr (omega (arith, handling_cell a.strike))) w)

    pub column_half_ask : HalfAsk n l₁ (lane_value upper_black v) (col_half_place (r * 9 + c)) (r * 9 + c) 3326
    column_half_ask =
        record {
          ready = (handling_grown d.moved.grown a.strike).ready;
          line = down c;
          place = r;
          head = a.head;
          value = v;
          half = column_now a.head a.strike.next a.halves.columns;
        }

    pub singleton_done : {l₂ : List ℕ} → HalfDone n l₁ l₂ (lane_value upper_black v) (col_half_place (r * 9 + c)) (r * 9 + c) 3326 →
        SingletonDone n l l₂ r c v
    singleton_done f =
        record {
          moved = moved_both (moved_wide d.moved (omega arith) (omega (arith, handling_cell a.strike)))
              (moved_wide f.moved (omega arith) (omega (arith, handling_cell a.strike)));
          steps = steps_both d.steps f.steps;
          halves = λ h x w.
              record {
                rows = half_moved a.strike.ready.size.high f.moved (omega (arith, x.waiting, d.moved.grown.grows)) (across 0) (inl (omega arith))
                    (d.halves (across r) c h v (row_at (handling_at a.strike h x) w.rows));
                columns = f.halves (down c) r h v (column_now h x w.columns);
              };
        }
