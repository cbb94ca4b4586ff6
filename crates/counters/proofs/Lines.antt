-- The places of a line as cells of the state, its values, and what setting a cell strikes in it. Assumes nothing.
use Prim.Native.Nat.{ℕ, suc, ◌+◌, ◌-◌, ◌*◌, ◌/◌, ◌%◌, ◌≤◌, ◌<◌}
use mathlib.Core.Path.{◌≡◌, refl}
use mathlib.Core.Bool.{true, false, ◌&&◌, ◌||◌}
use mathlib.Core.Logic.{◌≢◌, ◌⊎◌, inl, inr, ⊎_elim}
use mathlib.Core.List.Memᴰ
use mathlib.Core.List.{List, Memᴰ}
use native.Mathlib.Omega.{arith}
use native.Mathlib.Decide.{ℕ_discrete}
use lib.Dec.{ltb, leb}
use borrow.Author.Tests.{lt-ltb, le-leb, ltb-true, leb-true}
use Rattle.tally.proofs.TallyLaws.{and_both, span_mem, or_split}
use Rattle.rules.specs.Grid.{digits, Line, across, down, index}
use Rattle.table.specs.Table.{places, first_black, half, same_half}
use Rattle.line_laws.proofs.Half.{HalfValue, a_digit, a_first, a_second, half_value, digit_in, first_in, second_in}
use Rattle.table.specs.Lines.{row_of, column_of, cell_of}
use Rattle.queue_state.specs.Slab.{cand, table_in}
use Rattle.table.specs.Value.{ValueOf}
use Rattle.set_cell.specs.Setting.{SetHit, along_row, along_column, in_cell}
use Rattle.set_cell.proofs.SettingLaws.{or_left, or_right, hits_strikes}
use Rattle.set_cell.proofs.SetLaws.{table_yes, yes_table, no_table}
use Rattle.counters.specs.Counters.{InGrid, in_line, place_along, line_places}

-- ---- cells

pub cell_is : (ℓ : Line) (i : ℕ) → index ℓ < 9 → i < 9 → (cell_of ℓ i / 9 ≡ row_of ℓ i) × (cell_of ℓ i % 9 ≡ column_of ℓ i)
unfolding index row_of column_of
cell_is (across r) i h k = omega arith
cell_is (down c) i h k = omega arith

pub cell_place : (ℓ : Line) (i : ℕ) → place_along ℓ (index ℓ) i ≡ cell_of ℓ i
unfolding index
cell_place (across r) i = refl
cell_place (down c) i = refl

-- A line and a place in it are those of a cell of the grid.
pub in_grid : (n : ℕ) (ℓ : Line) (i : ℕ) → n ≤ 9 → index ℓ < n → i < n → InGrid n (cell_of ℓ i)
unfolding index
in_grid n (across r) i z h k = omega arith
in_grid n (down c) i z h k = omega arith

pub grid_place : (n : ℕ) (ℓ : Line) (i : ℕ) → index ℓ < 9 → i < 9 → InGrid n (cell_of ℓ i) → i < n
unfolding index
grid_place n (across r) i h k g = omega (arith, g.1)
grid_place n (down c) i h k g = omega (arith, g.0)

-- ---- candidates

pub place_yes : (l : List ℕ) (ℓ : Line) (i v : ℕ) → places (table_in l) ℓ i v ≡ true → cand l (cell_of ℓ i) v ≡ 1
unfolding places
place_yes l (across r) i v t = table_yes l r i v t
place_yes l (down c) i v t = table_yes l i c v t

pub yes_place : (l : List ℕ) (ℓ : Line) (i v : ℕ) → cand l (cell_of ℓ i) v ≡ 1 → places (table_in l) ℓ i v ≡ true
unfolding places
yes_place l (across r) i v t = yes_table l r i v t
yes_place l (down c) i v t = yes_table l i c v t

pub no_place : (l : List ℕ) (ℓ : Line) (i v : ℕ) → cand l (cell_of ℓ i) v ≡ 0 → places (table_in l) ℓ i v ≡ false
unfolding places
no_place l (across r) i v t = no_table l r i v t
no_place l (down c) i v t = no_table l i c v t

-- ---- values

-- A value of a line's half, said in two ways.
pub digit_in_line : (ℓ : Line) (v : ℕ) → v < 8 → in_line ℓ v ≡ true
digit_in_line (across r) v h = lt-ltb v 10 (omega arith)
digit_in_line (down c) v h = or_left (ltb v 8) (leb 10 v) (lt-ltb v 8 h)

black_in_line : (ℓ : Line) (v : ℕ) → first_black ℓ ≤ v → v < first_black ℓ + 2 → (in_line ℓ v ≡ true) × (8 ≤ v) × (v < 12)
unfolding first_black
black_in_line (across r) v h k = (lt-ltb v 10 (omega arith), omega arith, omega arith)
black_in_line (down c) v h k = (or_right (ltb v 8) (leb 10 v) (le-leb 10 v h), omega arith, omega arith)

pub half_in : (n : ℕ) (ℓ : Line) (v : ℕ) → n ≤ 9 → Memᴰ v (half n (first_black ℓ)) → ValueOf n v × (in_line ℓ v ≡ true)
unfolding ValueOf
half_in n ℓ v z m = go (half_value n (first_black ℓ) v m)
  where
    go : HalfValue n (first_black ℓ) v → (((1 ≤ v) × (v < n - 1)) ⊎ ((8 ≤ v) × (v < 12))) × (in_line ℓ v ≡ true)
    go (a_digit q a b) = (inl (a, b), digit_in_line ℓ v (omega arith))
    go (a_first e) = let q = black_in_line ℓ v (omega arith) (omega arith) in (inr (q.1, q.2), q.0)
    go (a_second e) = let q = black_in_line ℓ v (omega arith) (omega arith) in (inr (q.1, q.2), q.0)

digit_mem : (n v : ℕ) → 1 ≤ v → v < n - 1 → Memᴰ v (digits n)
unfolding digits
digit_mem n v a b = span_mem 1 (n - 2) v a (omega arith)

black_is : (ℓ : Line) (v : ℕ) → 8 ≤ v → v < 12 → in_line ℓ v ≡ true → (v ≡ first_black ℓ) ⊎ (v ≡ suc (first_black ℓ))
unfolding first_black
black_is (across r) v a b t = let h = ltb-true v 10 t in elim (ℕ_discrete v 8) [ yes e ↦ inl e | no e ↦ inr (omega arith) ]
black_is (down c) v a b t =
    ⊎_elim (λ s. absurd (omega (arith, ltb-true v 8 s)))
    (λ s. let h = leb-true 10 v s in elim (ℕ_discrete v 10) [ yes e ↦ inl e | no e ↦ inr (omega arith) ]) (or_split (ltb v 8) (leb 10 v) t)

pub in_half : (n : ℕ) (ℓ : Line) (v : ℕ) → ValueOf n v → in_line ℓ v ≡ true → Memᴰ v (half n (first_black ℓ))
unfolding ValueOf
in_half n ℓ v o t =
    ⊎_elim (λ q. digit_in n (first_black ℓ) (digit_mem n v q.0 q.1))
    (λ q. ⊎_elim (λ e. Memᴰ.cast e (first_in n (first_black ℓ))) (λ e. Memᴰ.cast e (second_in n (first_black ℓ))) (black_is ℓ v q.0 q.1 t)) o

-- ---- what setting a cell strikes

pub both_in : (ℓ : Line) (v w : ℕ) → in_line ℓ v ≡ true → in_line ℓ w ≡ true → same_half v w ≡ true
both_in (across r) v w s t = or_left (ltb v 10 && ltb w 10) ((ltb v 8 || leb 10 v) && (ltb w 8 || leb 10 w)) (and_both s t)
both_in (down c) v w s t = or_right (ltb v 10 && ltb w 10) ((ltb v 8 || leb 10 v) && (ltb w 8 || leb 10 w)) (and_both s t)

-- its half's other values
pub cell_hit : (ℓ : Line) (x v w : ℕ) → w ≢ v → in_line ℓ v ≡ true → in_line ℓ w ≡ true → SetHit (x / 9) (x % 9) v x w
cell_hit ℓ x v w d s t = hits_strikes (x / 9) (x % 9) v (x / 9) (x % 9) w (in_cell refl refl d (both_in ℓ v w s t))

-- the value at the line's other places
pub line_hit : (ℓ : Line) (i j v : ℕ) → index ℓ < 9 → i < 9 → j < 9 → i ≢ j → in_line ℓ v ≡ true → SetHit (cell_of ℓ i / 9) (cell_of ℓ i % 9) v (cell_of ℓ j) v
unfolding index
line_hit (across r) i j v h a b d t = hits_strikes _ _ v _ _ v (along_row (omega arith) (λ e. d (omega arith)) t refl)
line_hit (down c) i j v h a b d t = hits_strikes _ _ v _ _ v (along_column (omega arith) (λ e. d (omega arith)) t refl)

-- ---- the counter of a value in a line

module _ (ℓ : Line) (v : ℕ) (hv : v < 16) where
  pub counter_line : (index ℓ * 16 + v) / 16 ≡ index ℓ
  counter_line = omega arith

  pub counter_value : (index ℓ * 16 + v) % 16 ≡ v
  counter_value = omega arith

  pub counter_used : (n : ℕ) → index ℓ < n → ValueOf n v → in_line ℓ v ≡ true → (line_places ℓ).used n (index ℓ * 16 + v)
  counter_used n h o t = (rw counter_line h, rw counter_value o, rw counter_value t)

  pub counter_cell : (j : ℕ) → (line_places ℓ).cell (index ℓ * 16 + v) j ≡ cell_of ℓ j
  counter_cell j = rw counter_line (cell_place ℓ j)

  pub counter_cand : (l : List ℕ) (j : ℕ) → cand l ((line_places ℓ).cell (index ℓ * 16 + v) j) ((index ℓ * 16 + v) % 16) ≡ cand l (cell_of ℓ j) v
  counter_cand l j = rw (counter_cell j, counter_value)
