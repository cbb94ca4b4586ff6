-- The handler of both kinds of blacks of a cell. Assumes nothing.
use Prim.Native.Nat.{ℕ, ◌+◌, ◌*◌}
use mathlib.Core.Path.{refl}
use mathlib.Core.Logic.{inl, inr}
use mathlib.Core.List.{List}
use native.Mathlib.Omega.{arith}
use Rattle.rules.specs.Grid.{across, down, index}
use Rattle.rules.specs.Mark.{left_black, upper_black}
use Rattle.lane.specs.Lanes.{lane_black}
use Rattle.queue_state.specs.Layout.{row_blacks_place, col_blacks_place}
use Rattle.queue_state.specs.Ready.{Next}
use Rattle.counters.specs.Counters.{BlacksOf}
use Rattle.counters.proofs.CounterLaws.{moved_wide, moved_both}
use Rattle.counters.proofs.Families.{black_moved}
use Rattle.singles.proofs.ReasonLaws.{steps_both}
use Rattle.singles.proofs.HandlingLaws.{handling_grown, handling_at, handling_now, handling_cell}
use Rattle.singles.specs.Handling.{Handling, BlacksAt, BlacksAsk, BlacksDone, ConsistencyAsk, ConsistencyDone}

module _ {n r c v h : ℕ} {l : List ℕ} (a : Handling n l r c v h) where
  row_at : BlacksOf (across r) n l h → BlacksAt n l (lane_black left_black v) (row_blacks_place (r * 9 + c)) (r * 9 + c) 3072 (across r) c h v
  unfolding index
  row_at w =
      record { line = a.row; place = a.column; there = refl; at_counter = refl; at_mask = refl; value = a.value; owned = refl; next = a.next; blacks = w }

  column_at : BlacksOf (down c) n l h → BlacksAt n l (lane_black upper_black v) (col_blacks_place (r * 9 + c)) (r * 9 + c) 768 (down c) r h v
  unfolding index
  column_at w =
      record { line = a.column; place = a.row; there = refl; at_counter = refl; at_mask = refl; value = a.value; owned = refl; next = a.next; blacks = w }

module _ {n r c v : ℕ} {l : List ℕ} (a : ConsistencyAsk n l r c v) where
  pub row_blacks_ask : BlacksAsk n l (lane_black left_black v) (row_blacks_place (r * 9 + c)) (r * 9 + c) 3072
  row_blacks_ask =
      record { ready = a.strike.ready; line = across r; place = c; head = a.head; value = v; counted = row_at a.strike a.blacks.rows }

  module _ {l₁ : List ℕ} (d : BlacksDone n l l₁ (lane_black left_black v) (row_blacks_place (r * 9 + c)) (r * 9 + c) 3072) where
    column_now : (h : ℕ) → Next l h (r * 9 + c) v → BlacksOf (down 0) n l h →
        BlacksAt n l₁ (lane_black upper_black v) (col_blacks_place (r * 9 + c)) (r * 9 + c) 768 (down c) r h v
    column_now h x w =
        column_at (handling_now d.moved.grown a.strike h x)
        (black_moved a.strike.ready.size.high d.moved (omega (arith, x.waiting)) (down 0) (inr (omega (arith, handling_cell a.strike))) w)

    pub column_blacks_ask : BlacksAsk n l₁ (lane_black upper_black v) (col_blacks_place (r * 9 + c)) (r * 9 + c) 768
    column_blacks_ask =
        record {
          ready = (handling_grown d.moved.grown a.strike).ready;
          line = down c;
          place = r;
          head = a.head;
          value = v;
          counted = column_now a.head a.strike.next a.blacks.columns;
        }

    pub consistency_done : {l₂ : List ℕ} → BlacksDone n l₁ l₂ (lane_black upper_black v) (col_blacks_place (r * 9 + c)) (r * 9 + c) 768 →
        ConsistencyDone n l l₂ r c v
    consistency_done f =
        record {
          moved = moved_both (moved_wide d.moved (omega arith) (omega (arith, handling_cell a.strike)))
              (moved_wide f.moved (omega arith) (omega (arith, handling_cell a.strike)));
          steps = steps_both d.steps f.steps;
          blacks = λ h x w.
              record {
                rows = black_moved a.strike.ready.size.high f.moved (omega (arith, x.waiting, d.moved.grown.grows)) (across 0) (inl (omega arith))
                    (d.blacks (across r) c h v (row_at (handling_at a.strike h x) w.rows));
                columns = f.blacks (down c) r h v (column_now h x w.columns);
              };
        }
