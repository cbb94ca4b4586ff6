-- The strikes of set_cell's parts are those of setting the cell; the table after them. Assumes nothing.
use Prim.Native.Nat.{ℕ, ◌+◌, ◌*◌, ◌/◌, ◌%◌, ◌≤◌, ◌<◌}
use mathlib.Core.Path.{◌≡◌, refl, sym, ◌∙◌}
use mathlib.Core.Bool.{Bool, true, false, not, ◌&&◌, true≢false, and-true, and-false}
use mathlib.Core.Logic.{◌⊎◌, inl, inr}
use mathlib.Core.List.{List}
use native.Mathlib.Omega.{arith}
use native.Mathlib.Decide.{ℕ_discrete}
use borrow.Author.Tests.{eqb-true, eq-eqb, ne_eqb}
use Rattle.bits.specs.Bit.{bit}
use Rattle.table.specs.Steps.{strikes, taken}
use Rattle.table.specs.Table.{in_column, in_row}
use Rattle.lane.specs.declared.Lane.{Lane}
use Rattle.lane.specs.Lanes.{lane_value}
use Rattle.lane.specs.Rows.{RowLane, ColumnLane}
use Rattle.queue_state.specs.Slab.{cand, table_in, Grown, Struck, Masked}
use Rattle.queue_state.proofs.SlabLaws.{cand_lt}
use Rattle.queue_state.proofs.StruckLaws.{struck_none, struck_both, struck_as}
use Rattle.queue_state.proofs.ReadyLaws.{ready_grown, ready_valid}
use Rattle.queue_state.specs.Ready.{Valid}
use Rattle.set_cell.proofs.PlaceLaws.{row_at, at_row, column_at, at_column}
use Rattle.set_cell.specs.Places.{PlaceAsk}
use Rattle.set_cell.specs.Setting.{SetHit, SetAsk, Others, Around, RestOfHalf, Hits, along_row, along_column, in_cell, to_left, to_right, above, below}
use Rattle.set_cell.proofs.SettingLaws.{hits_strikes, strikes_hits, row_value, column_value}
use Rattle.line_laws.proofs.CellValues.{value_range}

-- ---- what the parts ask
pub ask_grown : {n r c v : ℕ} {l l' : List ℕ} → Grown l l' → SetAsk n l r c v → SetAsk n l' r c v
ask_grown g a = record { ready = ready_grown g a.ready; row = a.row; column = a.column; value = a.value }

module _ {n r c v : ℕ} {l : List ℕ} (a : SetAsk n l r c v) where
  pub ask_high : n ≤ 9
  ask_high = a.ready.size.high

  pub ask_value : (1 ≤ v) × (v < 12)
  ask_value = value_range ask_high a.value

  pub ask_narrow : v < 16
  ask_narrow = omega (arith, ask_value)

  pub ask_row : {v : ℕ} → v < 16 → PlaceAsk l c v
  ask_row h = record { sized = a.ready.sized; place = omega (arith, a.column, ask_high); value = h }

  pub ask_column : {v : ℕ} → v < 16 → PlaceAsk l r v
  ask_column h = record { sized = a.ready.sized; place = omega (arith, a.row, ask_high); value = h }

-- ---- the parts together
module _ {n r c v m : ℕ} {l : List ℕ} (row column : Lane) (a : SetAsk n l r c v) (g₁ : RowLane n r row) (g₂ : ColumnLane n c column) (f : RestOfHalf v m) where
  Parts : ℕ → ℕ → Type 0
  Parts x w = ((Others row c v x w ⊎ Others column r v x w) ⊎ Masked (r * 9 + c) m x w) ⊎ ((8 ≤ v) × (Around row c x w ⊎ Around column r x w))

  high : n ≤ 9
  high = ask_high a

  row_has : lane_value row.first v ≡ in_row v
  row_has = rw g₁.3 (row_value v)

  column_has : lane_value column.first v ≡ in_column v
  column_has = rw g₂.3 (column_value v (ask_value a).1)

  part_row : (x w : ℕ) → Others row c v x w → Hits r c v (x / 9) (x % 9) w
  part_row x w q = let p = row_at g₁ q.1 in along_row p.0 p.1 (sym row_has ∙ q.0) q.1.value

  part_column : (x w : ℕ) → Others column r v x w → Hits r c v (x / 9) (x % 9) w
  part_column x w q = let p = column_at g₂ q.1 (omega (arith, high, a.column)) in along_column p.0 p.1 (sym column_has ∙ q.0) q.1.value

  part_cell : (x w : ℕ) → w < 16 → x ≡ r * 9 + c → bit w m ≡ 1 → Hits r c v (x / 9) (x % 9) w
  part_cell x w h e b =
      let q = f.only w h b in in_cell (omega (arith, high, a.column)) (omega (arith, high, a.column)) q.0 q.1

  part_blacks : (x w : ℕ) → 8 ≤ v → Around row c x w ⊎ Around column r x w → Hits r c v (x / 9) (x % 9) w
  part_blacks x w h (inl (inl q)) = let p = row_at g₁ q in to_left h p.0 p.1 (omega (arith, q.value, g₁.3))
  part_blacks x w h (inl (inr q)) = let p = row_at g₁ q in to_right h p.0 p.1 (omega (arith, q.value, g₁.3))
  part_blacks x w h (inr (inl q)) = let p = column_at g₂ q (omega (arith, high, a.column)) in above h p.0 p.1 (omega (arith, q.value, g₂.3))
  part_blacks x w h (inr (inr q)) = let p = column_at g₂ q (omega (arith, high, a.column)) in below h p.0 p.1 (omega (arith, q.value, g₂.3))

  of_parts : (x w : ℕ) → w < 16 → Parts x w → Hits r c v (x / 9) (x % 9) w
  unfolding Parts Masked
  of_parts x w h (inl (inl (inl q))) = part_row x w q
  of_parts x w h (inl (inl (inr q))) = part_column x w q
  of_parts x w h (inl (inr q)) = part_cell x w h q.0 q.1
  of_parts x w h (inr q) = part_blacks x w q.0 q.1

  to_parts : (x w : ℕ) → Valid n x w → Hits r c v (x / 9) (x % 9) w → Parts x w
  unfolding Parts Masked
  to_parts x w k (along_row e d t g) = inl (inl (inl (row_has ∙ t, at_row g₁ e d g)))
  to_parts x w k (along_column e d t g) = inl (inl (inr (column_has ∙ t, at_column g₂ e (omega (arith, k.row, high)) d g)))
  to_parts x w k (in_cell e d t g) =
      let b = value_range high k.value in inl (inr (omega arith, f.each w b.0 b.1 t g))
  to_parts x w k (to_left h e d g) = inr (h, inl (inl (at_row g₁ e d (omega (arith, g, g₁.3)))))
  to_parts x w k (to_right h e d g) = inr (h, inl (inr (at_row g₁ e d (omega (arith, g, g₁.3)))))
  to_parts x w k (above h e d g) = inr (h, inr (inl (at_column g₂ e (omega (arith, k.row, high)) d (omega (arith, g, g₂.3)))))
  to_parts x w k (below h e d g) = inr (h, inr (inr (at_column g₂ e (omega (arith, k.row, high)) d (omega (arith, g, g₂.3)))))

  struck_parts : {l' : List ℕ} → Struck l l' Parts → Struck l l' (SetHit r c v)
  struck_parts s =
      struck_as s
      (λ x w h q. hits_strikes r c v (x / 9) (x % 9) w (of_parts x w h q))
      (λ x w h t. back x w h t (ℕ_discrete (cand l x w) 1))
    where
      back : (x w : ℕ) → w < 16 → SetHit r c v x w → Dec (cand l x w ≡ 1) → Parts x w ⊎ (cand l x w ≡ 0)
      back x w h t (yes e) = inl (to_parts x w (ready_valid a.ready x w h e) (strikes_hits r c v (x / 9) (x % 9) w t))
      back x w h t (no e) = inr (omega (arith, cand_lt l x w))

  pub set_struck : {l₁ l₂ l₃ l₄ : List ℕ} → Struck l l₁ (Others row c v) → Struck l₁ l₂ (Others column r v) →
      Struck l₂ l₃ (Masked (r * 9 + c) m) → Struck l₃ l₄ (λ x w. (8 ≤ v) × (Around row c x w ⊎ Around column r x w)) → Struck l l₄ (SetHit r c v)
  unfolding Parts
  set_struck p q s t = struck_parts (struck_both (struck_both (struck_both p q) s) t)

-- ---- a part under a test
pub some_struck : {l l' : List ℕ} {H : ℕ → ℕ → Type 0} {t : Type 0} → t → Struck l l' H → Struck l l' (λ x w. t × H x w)
some_struck e s = struck_as s (λ x w h q. (e, q)) (λ x w h q. inl q.1)

pub none_struck : (l : List ℕ) (H : ℕ → ℕ → Type 0) (t : Type 0) → (t → ⊥) → Struck l l (λ x w. t × H x w)
none_struck l H t d = struck_none l (λ x w. t × H x w) (λ x w h q. absurd (d q.0))

-- ---- the table
pub table_yes : (l : List ℕ) (r c v : ℕ) → table_in l r c v ≡ true → cand l (r * 9 + c) v ≡ 1
unfolding table_in
table_yes l r c v t = eqb-true (cand l (r * 9 + c) v) 1 t

pub yes_table : (l : List ℕ) (r c v : ℕ) → cand l (r * 9 + c) v ≡ 1 → table_in l r c v ≡ true
unfolding table_in
yes_table l r c v e = eq-eqb (cand l (r * 9 + c) v) 1 e

pub no_table : (l : List ℕ) (r c v : ℕ) → cand l (r * 9 + c) v ≡ 0 → table_in l r c v ≡ false
unfolding table_in
no_table l r c v e = ne_eqb (cand l (r * 9 + c) v) 1 (omega arith)

pub table_no : (l : List ℕ) (r c v : ℕ) → table_in l r c v ≡ false → cand l (r * 9 + c) v ≡ 0
table_no l r c v t =
    elim (ℕ_discrete (cand l (r * 9 + c) v) 1) [
      | yes e ↦ absurd (true≢false (sym (yes_table l r c v e) ∙ t))
      | no e ↦ omega (arith, cand_lt l (r * 9 + c) v)
    ]

-- The table after a cell is set.
pub set_table : {l l' : List ℕ} (r c v : ℕ) → Struck l l' (SetHit r c v) →
    (i j w : ℕ) → i < 9 → j < 9 → w < 16 → table_in l' i j w ≡ taken (table_in l) r c v i j w
unfolding taken
set_table {l} {l'} r c v s i j w hi hj hw = go (strikes r c v i j w) refl (ℕ_discrete (cand l (i * 9 + j) w) 1) (ℕ_discrete (cand l' (i * 9 + j) w) 0)
  where
    ei : (i * 9 + j) / 9 ≡ i
    ei = omega arith

    ej : (i * 9 + j) % 9 ≡ j
    ej = omega arith

    go : (b : Bool) → strikes r c v i j w ≡ b → Dec (cand l (i * 9 + j) w ≡ 1) → Dec (cand l' (i * 9 + j) w ≡ 0) → table_in l' i j w ≡
        (table_in l i j w && not (strikes r c v i j w))
    go true t d e = rw t (no_table l' i j w (s.gone (i * 9 + j) w hw (rw (ei, ej) t)) ∙ sym (and-false (table_in l i j w)))
    go false t (yes d) (yes e) = absurd (true≢false (sym (rw (ei, ej) at (s.only (i * 9 + j) w hw d e)) ∙ t))
    go false t (yes d) (no e) = rw t (yes_table l' i j w (omega (arith, cand_lt l' (i * 9 + j) w)) ∙ sym (yes_table l i j w d) ∙ sym
        (and-true (table_in l i j w)))
    go false t (no d) e =
        let z : cand l (i * 9 + j) w ≡ 0 = omega (arith, cand_lt l (i * 9 + j) w) in
        rw t (no_table l' i j w (omega (arith, s.grown.sub (i * 9 + j) w hw)) ∙ sym (no_table l i j w z) ∙ sym (and-true (table_in l i j w)))
