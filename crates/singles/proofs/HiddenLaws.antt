-- The handler of a value's places in both lines of a cell. Assumes nothing.
use Prim.Native.Nat.{ℕ, ◌+◌, ◌*◌, ◌≤◌}
use mathlib.Core.Logic.{inl, inr}
use mathlib.Core.List.{List}
use native.Mathlib.Omega.{arith}
use Rattle.rules.specs.Grid.{across, down, index}
use Rattle.rules.specs.Mark.{left_black, upper_black}
use Rattle.lane.specs.Lanes.{lane_value}
use Rattle.queue_state.specs.Layout.{places_at, value_place, row_blacks_at}
use Rattle.queue_state.specs.Ready.{Next}
use Rattle.counters.specs.Counters.{PlacesOf}
use Rattle.counters.proofs.CounterLaws.{moved_wide, moved_both}
use Rattle.counters.proofs.Families.{place_moved}
use Rattle.set_cell.proofs.SettingLaws.{row_value, column_value}
use Rattle.singles.proofs.ReasonLaws.{steps_both}
use Rattle.singles.proofs.HandlingLaws.{handling_grown, handling_at, handling_now, handling_value}
use Rattle.singles.specs.Handling.{Handling, PlacesAt, PlacesAsk, PlacesDone, HiddenAsk, HiddenDone}

module _ {n r c v h : ℕ} {l : List ℕ} (a : Handling n l r c v h) where
  row_at : PlacesOf (across r) n l h → PlacesAt n l (lane_value left_black v) (value_place r v) (r * 9) 1 v (across r) c h
  unfolding index
  row_at w =
      record {
        line = a.row;
        place = a.column;
        along = λ j. omega arith;
        at_counter = omega arith;
        value = a.value;
        owned = row_value v;
        next = a.next;
        places = w;
      }

  column_at : PlacesOf (down c) n l h → PlacesAt n l (lane_value upper_black v) (value_place (9 + c) v) c 9 v (down c) r h
  unfolding index
  column_at w =
      record {
        line = a.column;
        place = a.row;
        along = λ j. omega arith;
        at_counter = omega arith;
        value = a.value;
        owned = column_value v (handling_value a);
        next = a.next;
        places = w;
      }

module _ {n r c v : ℕ} {l : List ℕ} (a : HiddenAsk n l r c v) where
  row_end : value_place r v + 1 ≤ places_at + 9 * 16
  row_end = omega (arith, a.strike.row, a.strike.ready.size.high, handling_value a.strike)

  column_end : value_place (9 + c) v + 1 ≤ row_blacks_at
  column_end = omega (arith, a.strike.column, a.strike.ready.size.high, handling_value a.strike)

  pub row_places_ask : PlacesAsk n l (lane_value left_black v) (value_place r v) (r * 9) 1 v
  row_places_ask = record { ready = a.strike.ready; line = across r; place = c; head = a.head; counted = row_at a.strike a.places.rows }

  module _ {l₁ : List ℕ} (d : PlacesDone n l l₁ (lane_value left_black v) (value_place r v) (r * 9) 1 v) where
    column_now : (h : ℕ) → Next l h (r * 9 + c) v → PlacesOf (down 0) n l h →
        PlacesAt n l₁ (lane_value upper_black v) (value_place (9 + c) v) c 9 v (down c) r h
    column_now h x w =
        column_at (handling_now d.moved.grown a.strike h x) (place_moved a.strike.ready.size.high d.moved (omega (arith, x.waiting)) (down 0) (inr row_end) w)

    pub column_places_ask : PlacesAsk n l₁ (lane_value upper_black v) (value_place (9 + c) v) c 9 v
    column_places_ask =
        record {
          ready = (handling_grown d.moved.grown a.strike).ready;
          line = down c;
          place = r;
          head = a.head;
          counted = column_now a.head a.strike.next a.places.columns;
        }

    pub hidden_done : {l₂ : List ℕ} → PlacesDone n l₁ l₂ (lane_value upper_black v) (value_place (9 + c) v) c 9 v → HiddenDone n l l₂ r c v
    hidden_done f =
        record {
          moved = moved_both (moved_wide d.moved (omega arith) (omega (arith, row_end))) (moved_wide f.moved (omega arith) column_end);
          steps = steps_both d.steps f.steps;
          places = λ h x w.
              record {
                rows = place_moved a.strike.ready.size.high f.moved (omega (arith, x.waiting, d.moved.grown.grows)) (across 0) (inl (omega arith))
                    (d.places (across r) c h (row_at (handling_at a.strike h x) w.rows));
                columns = f.places (down c) r h (column_now h x w.columns);
              };
        }
