-- Where no strike waits, the table is closed, as far as arrangements do not enter. Assumes nothing.
use Prim.Native.Nat.{ℕ, ◌+◌, ◌*◌, ◌/◌, ◌%◌, ◌≤◌, ◌<◌}
use mathlib.Core.Path.{◌≡◌, sym, ap, ◌∙◌}
use mathlib.Core.Bool.{true, false, ◌||◌, true≢false}
use mathlib.Core.Logic.{◌≢◌, ⊎_elim}
use mathlib.Core.List.{List, Memᴰ}
use native.Mathlib.Omega.{arith}
use native.Mathlib.Decide.{ℕ_discrete}
use lib.ListN.{get_or}
use Rattle.tally.proofs.TallyLaws.{test_ext, or_split, false_of}
use Rattle.rules.specs.Grid.{digits, Line, across, down, index}
use Rattle.rules.specs.Mark.{left_black, right_black, upper_black, lower_black}
use Rattle.table.specs.Table.{places, first_black, half}
use Rattle.table.specs.Lines.{row_of, column_of}
use Rattle.table.specs.Stable.{LoneSet}
use Rattle.table.specs.Steps.{strikes}
use Rattle.line_laws.proofs.Half.{digit_range, digit_in}
use Rattle.bits.proofs.SumLaws.{sum_none, sum_one}
use Rattle.queue_state.specs.Slab.{cand, table_in, tail}
use Rattle.queue_state.proofs.SlabLaws.{cand_lt}
use Rattle.queue_state.proofs.ReadyLaws.{ready_valid}
use Rattle.queue_state.specs.Ready.{Ready}
use Rattle.set_cell.proofs.SettingLaws.{or_left, or_right}
use Rattle.set_cell.proofs.SetLaws.{table_yes, yes_table, no_table}
use Rattle.line_laws.proofs.CellValues.{value_range, value_small}
use Rattle.counters.specs.Counters.{IsSet, AllSet, NoBlacks, InGrid, half_value, halves_base, places_base, halves, line_places, blacks_base, own_black, cross_black, cell_blacks, HalvesOf, PlacesOf, BlacksOf, Halves, LinePlaces, Blacks}
use Rattle.counters.proofs.CounterLaws.{ruled_rest}
use Rattle.counters.proofs.Families.{value_narrow, value_once, value_in, HalfPlace, half_place, fine_halves, fine_places, fine_blacks}
use Rattle.counters.proofs.Lines.{cell_is, in_grid, grid_place, place_yes, yes_place, no_place, digit_in_line, half_in, in_half, cell_hit, line_hit, counter_value, counter_used, counter_cell, counter_cand}
use Rattle.table.specs.Lines.{cell_of}

-- No strike waits for these counters.
pub record AtRest (n : ℕ) (l : List ℕ) : Type 0 where
  pub ready : Ready n l
  pub halves : Halves n l (tail l)
  pub places : LinePlaces n l (tail l)
  pub blacks : Blacks n l (tail l)

module _ {n : ℕ} {l : List ℕ} (ready : Ready n l) where
  high : n ≤ 9
  high = ready.size.high

  none_or : (x v : ℕ) → (cand l x v ≡ 1 → ⊥) → cand l x v ≡ 0
  none_or x v d = elim (ℕ_discrete (cand l x v) 1) [ yes e ↦ absurd (d e) | no e ↦ omega (arith, cand_lt l x v) ]

  -- the only candidate of a half has been set
  module _ (ℓ : Line) (w : HalvesOf ℓ n l (tail l)) (i v : ℕ) (hℓ : index ℓ < n) (hi : i < n) (m : Memᴰ v (half n (first_black ℓ)))
      (e : places (table_in l) ℓ i v ≡ true)
      (only : (w : ℕ) → Memᴰ w (half n (first_black ℓ)) → places (table_in l) ℓ i w ≡ true → w ≡ v) where
    place : HalfPlace ℓ v
    place = let q = half_in n ℓ v high m in let b = value_range high q.0 in half_place ℓ v b.0 b.1 q.1

    grid : InGrid n (cell_of ℓ i)
    grid = in_grid n ℓ i high hℓ hi

    other : (k : ℕ) → k < 9 → (k ≡ place.place → ⊥) → cand l (cell_of ℓ i) (half_value ℓ k) ≡ 0
    other k h d =
        none_or (cell_of ℓ i) (half_value ℓ k)
        (λ c.
        let u = ready_valid ready (cell_of ℓ i) (half_value ℓ k) (omega (arith, value_narrow ℓ k h)) c in
        let f = only (half_value ℓ k) (in_half n ℓ (half_value ℓ k) u.value (value_in ℓ k h)) (yes_place l ℓ i (half_value ℓ k) c) in
        d (value_once ℓ k place.place (f ∙ sym place.is)))

    one : get_or l (halves_base ℓ + cell_of ℓ i) 0 ≡ 1
    one =
        ruled_rest (halves ℓ) 1 (AllSet (halves ℓ)) (fine_halves ℓ) n high w (cell_of ℓ i) grid
        ∙ sum_one 0 9 place.place (λ j. cand l (cell_of ℓ i) (half_value ℓ j)) (omega arith) (omega (arith, place.small))
        (ap (cand l (cell_of ℓ i)) place.is ∙ place_yes l ℓ i v e) (λ k a b d. other k (omega arith) d)

    half_set : IsSet l (cell_of ℓ i) v
    half_set = rw place.is at (w.rule (cell_of ℓ i) grid (omega (arith, one)) place.place place.small)

  -- a value's only place in a line has been set
  module _ (ℓ : Line) (w : PlacesOf ℓ n l (tail l)) (i v : ℕ) (hℓ : index ℓ < n) (hi : i < n) (m : Memᴰ v (half n (first_black ℓ)))
      (e : places (table_in l) ℓ i v ≡ true)
      (only : (j : ℕ) → j < n → places (table_in l) ℓ j v ≡ true → j ≡ i) where
    narrow : v < 16
    narrow = omega (arith, value_range high (half_in n ℓ v high m).0)

    used : (line_places ℓ).used n (index ℓ * 16 + v)
    used = let q = half_in n ℓ v high m in counter_used ℓ v narrow n hℓ q.0 q.1

    elsewhere : (j : ℕ) → j < 9 → (j ≡ i → ⊥) → cand l (cell_of ℓ j) v ≡ 0
    elsewhere j h d =
        none_or (cell_of ℓ j) v
        (λ c.
        let u = ready_valid ready (cell_of ℓ j) v narrow c in
        d (only j (grid_place n ℓ j (omega (arith, high)) h (u.row, u.column)) (yes_place l ℓ j v c)))

    single_one : get_or l (places_base ℓ + (index ℓ * 16 + v)) 0 ≡ 1
    single_one =
        ruled_rest (line_places ℓ) 1 (AllSet (line_places ℓ)) (fine_places ℓ) n high w (index ℓ * 16 + v) used
        ∙ sum_one 0 9 i (λ j. cand l ((line_places ℓ).cell (index ℓ * 16 + v) j) ((index ℓ * 16 + v) % 16)) (omega arith) (omega (arith, high))
        (counter_cand ℓ v narrow l i ∙ place_yes l ℓ i v e) (λ k a b d. counter_cand ℓ v narrow l k ∙ elsewhere k (omega arith) d)

    place_set : IsSet l (cell_of ℓ i) v
    place_set =
        rw (counter_cell ℓ v narrow i, counter_value ℓ v narrow) at (w.rule (index ℓ * 16 + v) used (omega (arith, single_one)) i (omega (arith, high)))

  -- a cell without the blacks of one of its lines has none of the other's
  module _ (ℓ : Line) (w : BlacksOf ℓ n l (tail l)) (r c : ℕ) (hr : r < n) (hc : c < n) where
    no_blacks : cand l (r * 9 + c) (own_black ℓ) ≡ 0 → cand l (r * 9 + c) (own_black ℓ + 1) ≡ 0 → NoBlacks (cross_black ℓ) l (r * 9 + c)
    no_blacks a b = w.rule (r * 9 + c) grid (omega (arith, zero))
      where
        grid : InGrid n (r * 9 + c)
        grid = (omega (arith, high), omega (arith, high))

        each : (j : ℕ) → j < 2 → cand l (r * 9 + c) (own_black ℓ + j) ≡ 0
        each j h =
            elim (ℕ_discrete j 0) [
              | yes e ↦ let q : own_black ℓ + j ≡ own_black ℓ = omega arith in ap (cand l (r * 9 + c)) q ∙ a
              | no e ↦ let q : own_black ℓ + j ≡ own_black ℓ + 1 = omega arith in ap (cand l (r * 9 + c)) q ∙ b
            ]

        zero : get_or l (blacks_base ℓ + (r * 9 + c)) 0 ≡ 0
        zero =
            ruled_rest (cell_blacks ℓ) 0 (NoBlacks (cross_black ℓ)) (fine_blacks ℓ) n high w (r * 9 + c) grid
            ∙ sum_none 0 2 (λ j. cand l (r * 9 + c) (own_black ℓ + j)) (λ j a b. each j (omega arith))

    black_too : (table_in l r c (cross_black ℓ) || table_in l r c (cross_black ℓ + 1)) ≡ true →
        (table_in l r c (own_black ℓ) || table_in l r c (own_black ℓ + 1)) ≡ true
    black_too t = go (own_black ℓ) (own_black ℓ + 1) no_blacks (ℕ_discrete (cand l (r * 9 + c) (own_black ℓ)) 1)
        (ℕ_discrete (cand l (r * 9 + c) (own_black ℓ + 1)) 1)
      where
        go : (k m : ℕ) → (cand l (r * 9 + c) k ≡ 0 → cand l (r * 9 + c) m ≡ 0 → NoBlacks (cross_black ℓ) l (r * 9 + c)) →
            Dec (cand l (r * 9 + c) k ≡ 1) → Dec (cand l (r * 9 + c) m ≡ 1) → (table_in l r c k || table_in l r c m) ≡ true
        go k m f (yes e) d = or_left (table_in l r c k) (table_in l r c m) (yes_table l r c k e)
        go k m f (no e) (yes d) = or_right (table_in l r c k) (table_in l r c m) (yes_table l r c m d)
        go k m f (no e) (no d) =
            let z = f (omega (arith, cand_lt l (r * 9 + c) k)) (omega (arith, cand_lt l (r * 9 + c) m)) in
            absurd (⊎_elim (λ s. true≢false (sym s ∙ no_table l r c (cross_black ℓ) z.0)) (λ s. true≢false (sym s ∙ no_table l r c (cross_black ℓ + 1) z.1))
            (or_split (table_in l r c (cross_black ℓ)) (table_in l r c (cross_black ℓ + 1)) t))

halves_at : {n h : ℕ} {l : List ℕ} → Halves n l h → (ℓ : Line) → HalvesOf ℓ n l h
halves_at w (across r) = w.rows
halves_at w (down c) = w.columns

places_at : {n h : ℕ} {l : List ℕ} → LinePlaces n l h → (ℓ : Line) → PlacesOf ℓ n l h
places_at w (across r) = w.rows
places_at w (down c) = w.columns

-- The parts of a closed table that do not speak of arrangements.
module _ {n : ℕ} {l : List ℕ} (a : AtRest n l) where
  small : n ≤ 9
  small = a.ready.size.high

  pub lone : (ℓ : Line) → index ℓ < n → (i j v : ℕ) → i < n → j < n → i ≢ j → Memᴰ v (half n (first_black ℓ)) → places (table_in l) ℓ i v ≡ true →
      ((w : ℕ) → Memᴰ w (half n (first_black ℓ)) → places (table_in l) ℓ i w ≡ true → w ≡ v) → places (table_in l) ℓ j v ≡ false
  lone ℓ hℓ i j v hi hj d m e only =
      let q = half_in n ℓ v small m in
      no_place l ℓ j v
      ((half_set a.ready ℓ (halves_at a.halves ℓ) i v hℓ hi m e only).struck (place_yes l ℓ i v e) (cell_of ℓ j) v (omega (arith, value_range small q.0))
      (line_hit ℓ i j v (omega (arith, small)) (omega (arith, small)) (omega (arith, small)) d q.1))

  pub single : (ℓ : Line) → index ℓ < n → (i v w : ℕ) → i < n → Memᴰ v (half n (first_black ℓ)) → Memᴰ w (half n (first_black ℓ)) → places
      (table_in l) ℓ i v ≡ true →
      ((j : ℕ) → j < n → places (table_in l) ℓ j v ≡ true → j ≡ i) → places (table_in l) ℓ i w ≡ true → w ≡ v
  single ℓ hℓ i v w hi m k e only f = go (ℕ_discrete w v)
    where
      go : Dec (w ≡ v) → w ≡ v
      go (yes d) = d
      go (no d) =
          let q = half_in n ℓ v small m in
          let u = half_in n ℓ w small k in
          absurd (omega (
            arith,
            place_yes l ℓ i w f,
            (place_set a.ready ℓ (places_at a.places ℓ) i v hℓ hi m e only).struck (place_yes l ℓ i v e) (cell_of ℓ i) w
                (omega (arith, value_range small u.0)) (cell_hit ℓ (cell_of ℓ i) v w d q.1 u.1),
          ))

  pub crossed : (r c i d : ℕ) → r < n → c < n → i < n → Memᴰ d (digits n) → table_in l r c d ≡ true →
      ((w : ℕ) → Memᴰ w (half n left_black) → table_in l r c w ≡ true → w ≡ d) → i ≢ r → table_in l i c d ≡ false
  unfolding index places first_black
  crossed r c i d hr hc hi m e only ne =
      let b = digit_range n d m in
      no_table l i c d
      ((half_set a.ready (across r) a.halves.rows c d hr hc (digit_in n left_black m) e only).struck (table_yes l r c d e) (i * 9 + c) d
      (omega (arith, small))
      (line_hit (down c) r i d (omega (arith, small)) (omega (arith, small)) (omega (arith, small)) (λ q. ne (sym q))
      (digit_in_line (down c) d (omega (arith, small)))))

  pub crossed_back : (r c j d : ℕ) → r < n → c < n → j < n → Memᴰ d (digits n) → table_in l r c d ≡ true →
      ((w : ℕ) → Memᴰ w (half n upper_black) → table_in l r c w ≡ true → w ≡ d) → j ≢ c → table_in l r j d ≡ false
  unfolding index places first_black
  crossed_back r c j d hr hc hj m e only ne =
      let b = digit_range n d m in
      no_table l r j d
      ((half_set a.ready (down c) a.halves.columns r d hc hr (digit_in n upper_black m) e only).struck (table_yes l r c d e) (r * 9 + j) d
      (omega (arith, small))
      (line_hit (across r) c j d (omega (arith, small)) (omega (arith, small)) (omega (arith, small)) (λ q. ne (sym q))
      (digit_in_line (across r) d (omega (arith, small)))))

  -- what is alone in a half has been set
  pub lone_set : LoneSet n (table_in l)
  lone_set =
      record {
        set = λ ℓ i v hℓ hi m e only r c w hr hc q t.
            let x = cell_is ℓ i (omega (arith, small)) (omega (arith, small)) in
            let y : (r * 9 + c) / 9 ≡ r = omega (arith, small) in
            let z : (r * 9 + c) % 9 ≡ c = omega (arith, small) in
            false_of (strikes (row_of ℓ i) (column_of ℓ i) v r c w)
            (λ s. true≢false (sym t ∙ no_table l r c w
            ((half_set a.ready ℓ (halves_at a.halves ℓ) i v hℓ hi m e only).struck (place_yes l ℓ i v e) (r * 9 + c) w (value_small n w small q)
            (rw (x.0, x.1, y, z) s))));
      }

  pub blacks : (r c : ℕ) → r < n → c < n → (table_in l r c left_black || table_in l r c right_black) ≡ (table_in l r c upper_black || table_in l r c lower_black)
  blacks r c hr hc =
      test_ext (table_in l r c 8 || table_in l r c 9) (table_in l r c 10 || table_in l r c 11)
      (black_too a.ready (down c) a.blacks.columns r c hr hc)
      (black_too a.ready (across r) a.blacks.rows r c hr hc)
