-- Handling a strike: the lines of its cell, and all others. Assumes nothing.
use Prim.Native.Nat.{ℕ, ◌+◌, ◌*◌, ◌≤◌, ◌<◌}
use mathlib.Core.Path.{◌≡◌, sym, ap, ◌∙◌, subst}
use mathlib.Core.Logic.{inl, inr, ⊎_elim}
use mathlib.Core.List.{List}
use native.Mathlib.Omega.{arith}
use native.Mathlib.Decide.{ℕ_discrete, dec_lt}
use lib.ListN.{length}
use Rattle.queue_state.specs.Layout.{slab_size}
use Rattle.queue_state.specs.Slab.{cand, tail}
use Rattle.queue_state.proofs.StruckLaws.{grown_gone}
use Rattle.queue_state.proofs.ReadyLaws.{ready_grown, next_grown}
use Rattle.queue_state.specs.Ready.{Next}
use Rattle.table.specs.Value.{ValueOf}
use Rattle.lane.specs.declared.Lane.{Lane}
use Rattle.lane.specs.Rows.{RowLane, ColumnLane}
use Rattle.arcs.specs.Arc.{lives, Tallied, Arc, ArcAsk, ArcDone}
use Rattle.table.specs.Lines.{cell_at, LineOf}
use Rattle.lane.proofs.LaneLaws.{cell_row, cell_column}
use Rattle.arcs.proofs.LineLaws.{line_in}
use Rattle.arcs.specs.Sweep.{AllAlive, LineAsk, LineDone}
use Rattle.arcs.proofs.PrunedLaws.{line_tallied, line_alive, line_pruned, pruned_trans, Clear, clear_alive}

-- ---- the two lines of a cell

module _ {n : ℕ} {l : List ℕ} {r c v : ℕ} (a : ArcAsk n l r c v) where
  arc_narrow : v < 12
  unfolding ValueOf
  arc_narrow = ⊎_elim (λ h. omega (arith, h.1, a.ready.size.high)) (λ h. h.1) a.value

  high : n ≤ 9
  high = a.ready.size.high

  r_low : r < 9
  r_low = omega (arith, a.row, high)

  c_low : c < 9
  c_low = omega (arith, a.column, high)

  row_of : LineOf n r
  unfolding LineOf
  row_of = inl a.row

  column_of : LineOf n (9 + c)
  unfolding LineOf
  column_of = inr (omega arith, omega (arith, a.column))

  row_cell : cell_at r c ≡ r * 9 + c
  row_cell = cell_row r c r_low

  column_cell : cell_at (9 + c) r ≡ r * 9 + c
  column_cell = cell_column (9 + c) r (omega arith) ∙ omega arith

  pub row_ask : {lane : Lane} → RowLane n r lane → LineAsk lane c v l
  row_ask e =
      record {
        ready = rw e.4 a.ready;
        place = rw e.4 a.column;
        narrow = omega (arith, arc_narrow);
        gone = rw e.0 (ap (λ x. cand l x v) row_cell ∙ a.gone);
        tallied = rw (e.0, e.4) (a.tallied r row_of);
      }

  column_ask : {lane : Lane} → ColumnLane n c lane → LineAsk lane r v l
  column_ask e =
      record {
        ready = rw e.4 a.ready;
        place = rw e.4 a.row;
        narrow = omega (arith, arc_narrow);
        gone = rw e.0 (ap (λ x. cand l x v) column_cell ∙ a.gone);
        tallied = rw (e.0, e.4) (a.tallied (9 + c) column_of);
      }

  -- a line that is handled leaves the other one as it has to be
  arc_next : {l' : List ℕ} → LineDone n r c v l l' → ArcAsk n l' r c v
  arc_next d =
      record {
        ready = ready_grown d.grown a.ready;
        row = a.row;
        column = a.column;
        value = a.value;
        gone = grown_gone d.grown (r * 9 + c) v (omega (arith, arc_narrow)) a.gone;
        tallied = line_tallied a.ready.size a.ready.sized.size row_of a.tallied d;
      }

  -- a line that does not have the cell
  clear_far : (m : ℕ) → m < 18 → (m ≡ r → ⊥) → (m ≡ 9 + c → ⊥) → Clear n m (r * 9 + c) v
  unfolding Clear
  clear_far m i d e id q h x = absurd (go (dec_lt m 9))
    where
      go : Dec (m < 9) → ⊥
      go (yes b) = d (omega (arith, cell_row m q b, high, c_low))
      go (no b) = e (omega (arith, cell_column m q (omega arith), high, c_low))

  -- ---- both lines

  module _ {l₁ l₂ : List ℕ} (d : LineDone n r c v l l₁) (f : LineDone n (9 + c) r v l₁ l₂) where
    one_tallied : (m : ℕ) → LineOf n m → Tallied n m (lives l₁ m) l₁
    one_tallied = (arc_next d).tallied

    long : length l₁ ≡ slab_size
    long = d.grown.size ∙ a.ready.sized.size

    two_tallied : (m : ℕ) → LineOf n m → Tallied n m (lives l₂ m) l₂
    two_tallied = line_tallied a.ready.size long column_of one_tallied f

    first : (m h : ℕ) → LineOf n m → (m ≡ r → ⊥) → h ≤ tail l → AllAlive n m l h → AllAlive n m l₁ h
    first = line_alive a.ready.size a.ready.sized.size row_of a.tallied d

    second : (m h : ℕ) → LineOf n m → (m ≡ 9 + c → ⊥) → h ≤ tail l₁ → AllAlive n m l₁ h → AllAlive n m l₂ h
    second = line_alive a.ready.size long column_of one_tallied f

    both_done : ArcDone n l l₂ r c v
    unfolding AllAlive
    both_done =
        record {
          pruned = pruned_trans a.ready.size
              (line_pruned a.ready.size a.ready.sized.size row_of a.tallied d)
              (line_pruned a.ready.size long column_of one_tallied f);
          tallied = two_tallied;
          arcs = λ h x g m o. record { tallied = two_tallied m o; alive = alive h x g m o (ℕ_discrete m r) (ℕ_discrete m (9 + c)) };
        }
      where
        alive : (h : ℕ) → Next l h (r * 9 + c) v → ((m : ℕ) → LineOf n m → Arc n m l h) → (m : ℕ) → LineOf n m → Dec (m ≡ r) → Dec (m ≡ 9 + c) →
            AllAlive n m l₂ (h + 1)
        alive h x g m o (yes e) _ =
            let n₁ = next_grown d.grown x in
            subst (λ m. AllAlive n m l₂ (h + 1)) (sym e)
            (second r (h + 1) row_of (λ q. omega (arith, r_low)) (omega (arith, n₁.waiting))
            (d.alive h (subst (λ y. Next l h y v) (sym row_cell) x) (g r row_of).alive))
        alive h x g m o (no e) (yes i) =
            subst (λ m. AllAlive n m l₂ (h + 1)) (sym i)
            (f.alive h (subst (λ y. Next l₁ h y v) (sym column_cell) (next_grown d.grown x))
            (first (9 + c) h column_of (λ q. omega (arith, r_low)) (omega (arith, x.waiting)) (g (9 + c) column_of).alive))
        alive h x g m o (no e) (no i) =
            let n₁ = next_grown d.grown x in
            clear_alive n m h (r * 9 + c) v (next_grown f.grown n₁) (omega (arith, arc_narrow)) (clear_far m (line_in a.ready.size o) e i)
            (second m h o i (omega (arith, n₁.waiting)) (first m h o e (omega (arith, x.waiting)) (g m o).alive))

-- ---- as the code does it: the row, then the column

module _ {n : ℕ} {l l₁ : List ℕ} {r c v : ℕ} (row column : Lane) (a : ArcAsk n l r c v)
    (e : RowLane n r row) (d : LineDone row.len row.number c v l l₁) (f : ColumnLane n c column) where
  row_done : LineDone n r c v l l₁
  row_done = rw (e.0, e.4) at d

  pub arc_column : LineAsk column r v l₁
  arc_column = column_ask (arc_next a row_done) f

  pub arc_done : {l₂ : List ℕ} → LineDone column.len column.number r v l₁ l₂ → ArcDone n l l₂ r c v
  arc_done g = both_done a row_done (rw (f.0, f.4) at g)
