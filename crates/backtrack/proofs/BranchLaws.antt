-- A branch: the two tables, the grids that they leave in order, and what falls. Assumes nothing.
use Prim.Native.Nat.{ℕ, ◌+◌, ◌*◌, ◌/◌, ◌%◌, ◌≤◌, ◌<◌}
use mathlib.Core.Path.{◌≡◌, refl, sym, ap₂, ◌∙◌, subst}
use mathlib.Core.Bool.{true}
use mathlib.Core.Logic.{⊎_elim}
use mathlib.Core.List.Memᴰ
use mathlib.Core.List.{List, ◌∷◌, ◌++◌, Memᴰ}
use native.Mathlib.Omega.{arith}
use native.Mathlib.Decide.{ℕ_discrete, dec_le}
use borrow.Author.Tests.{eqb-true}
use Rattle.rules.specs.Grid.{Puzzle, across}
use Rattle.rules.specs.Order.{row_value}
use Rattle.table.specs.Table.{places, half, first_black}
use Rattle.table.specs.Closed.{Closed}
use Rattle.table.specs.Stable.{Only}
use Rattle.table.specs.Steps.{struck, taken}
use Rattle.table.specs.Reading.{choices, open_cells, total}
use Rattle.line_laws.proofs.CellValues.{half_every, half_range, value_of, value_range, value_small, row_half_value}
use Rattle.table.specs.Value.{IsValue, ValueOf, HalfOf}
use Rattle.soundness.proofs.SameLaws.{same_ext}
use Rattle.soundness.specs.SameGrids.{Within}
use Rattle.soundness.proofs.Measures.{open_le, total_less, taken_open}
use Rattle.bits.specs.Sum.{sum_over}
use Rattle.bits.proofs.SumLaws.{sum_lone}
use Rattle.queue_state.specs.Slab.{cand, table_in, Struck, One}
use Rattle.queue_state.proofs.ReadyLaws.{ready_valid}
use Rattle.queue_state.specs.Ready.{Ready}
use Rattle.set_cell.specs.Setting.{SetHit}
use Rattle.set_cell.proofs.SetLaws.{set_table, yes_table, no_table}
use Rattle.grid_order.specs.Remaining.{remaining}
use Rattle.grid_order.proofs.SequenceLaws.{in_sequence}
use Rattle.grid_order.proofs.RemainingLaws.{OrderedBranch, remaining_same, branch_order}
use Rattle.pick.specs.Choice.{row_choices, Open, Branch}
use Rattle.pick.proofs.ChoiceLaws.{row_choices_lem}
use Rattle.invariants.proofs.StateLaws.{within_sub, one_table}

module _ {n : ℕ} {l : List ℕ} {r c v : ℕ} (ready : Ready n l) (b : Branch n l r c v) where
  small : n ≤ 9
  small = ready.size.high

  abbrev x : ℕ
  x = r * 9 + c

  at_row : x / 9 ≡ r
  at_row = omega (arith, small, b.column_in)

  at_column : x % 9 ≡ c
  at_column = omega (arith, small, b.column_in)

  pub branch_value : ValueOf n v
  branch_value = (ready_valid ready x v (omega (arith, b.open_here.candidate.high)) b.open_here.candidate.has).value

  in_half : Memᴰ v (half n 8)
  in_half = row_half_value n v branch_value b.open_here.candidate.high

  has_it : table_in l r c v ≡ true
  has_it = yes_table l r c v b.open_here.candidate.has

  many : 2 ≤ choices n 8 (table_in l r c)
  many = omega (arith, row_choices_lem ready r c, b.open_here.many)

  module _ {l₂ : List ℕ} (s : Struck l l₂ (SetHit r c v)) where
    as_taken : (i j w : ℕ) → i < n → j < n → IsValue n w → table_in l₂ i j w ≡ taken (table_in l) r c v i j w
    as_taken i j w hi hj m = set_table r c v s i j w (omega (arith, small)) (omega (arith, small)) (value_small n w small m)

    -- fewer cells are open on the branch that takes it
    pub branch_open : open_cells n (table_in l₂) < open_cells n (table_in l)
    branch_open =
        let w : Within n (table_in l₂) (taken (table_in l) r c v) = record { kept = λ i j y hi hj m e. sym (as_taken i j y hi hj m) ∙ e } in
        omega (arith, open_le n w, taken_open n (table_in l) r c v b.row_in b.column_in in_half small many)

  module _ {l₃ : List ℕ} (d : Struck l l₃ (One x v)) where
    as_struck : (i j w : ℕ) → i < n → j < n → IsValue n w → table_in l₃ i j w ≡ struck (table_in l) r c v i j w
    as_struck i j w hi hj m =
        one_table x v d i j w (omega (arith, small)) (omega (arith, small)) (value_small n w small m)
        ∙ ap₂ (λ a b. struck (table_in l) a b v i j w) at_row at_column

    -- fewer candidates are left on the branch that rejects it
    pub branch_total : total n (table_in l₃) < total n (table_in l)
    unfolding One
    branch_total =
        total_less n (within_sub n l l₃ small d.grown.sub) r c b.row_in b.column_in v in_half has_it
        (no_table l₃ r c v (d.gone x v (omega (arith, b.open_here.candidate.high)) (refl, refl)))

  -- a candidate of a cell that is not open is alone in its row half
  row_range : (w : ℕ) → Memᴰ w (half n 8) → (1 ≤ w) × (w < 10)
  unfolding HalfOf first_black
  row_range w m =
      let low = value_range small (value_of n w (half_every n (across 0) w m)) in
      let high = half_range n 8 w small (omega arith) m in
      (low.0, ⊎_elim (λ h. omega arith) (λ h. omega (arith, h.1)) high.1)

  only_there : (i j w : ℕ) → Memᴰ w (half n 8) → table_in l i j w ≡ true → (Open l (i * 9 + j) w → ⊥) → Only n (table_in l) (across i) j w
  unfolding table_in places first_black row_choices
  only_there i j w m e none u k f =
      let cell : ℕ = i * 9 + j in
      let here = eqb-true (cand l cell w) 1 e in
      let there = eqb-true (cand l cell u) 1 f in
      let a = row_range w m in
      let b = row_range u k in
      elim (ℕ_discrete u w) [
        | yes q ↦ q
        | no q ↦
            elim (dec_le 2 (sum_over 1 9 (cand l cell))) [
              | yes h ↦ absurd (none (record { many = h; candidate = record { low = a.0; high = a.1; has = here } }))
              | no h ↦
                  absurd (omega (arith, there, sum_lone 1 9 w u (cand l cell) a.0 (omega (arith, a.1)) b.0 (omega (arith, b.1)) q here (omega arith)))
            ]
      ]

-- The grids that are left, in order: those of the branch that takes the value, then those of the branch that rejects it.
module _ (p : Puzzle) {l : List ℕ} {r c v : ℕ} (ready : Ready p.size l) (b : Branch p.size l r c v) (closed : Closed p (table_in l)) where
  ordered : OrderedBranch p (table_in l) r c v
  ordered =
      let f = b.foremost in
      record {
        closed = closed;
        row_in = b.row_in;
        column_in = b.column_in;
        in_half = in_half ready b;
        here = has_it ready b;
        split = record {
          before = f.before;
          behind = f.behind;
          whole = f.whole;
          each = λ s m.
              let w = in_sequence p.size s (subst (Memᴰ s) (sym f.whole) (Memᴰ.append_left (row_value r v ∷ f.behind) m)) in
              record { row_in = w.0; in_half = w.1; alone = λ i h e. only_there ready b s.row i s.value w.1 e ((f.each s m).none_open i h) };
        };
        rightmost = λ j h g e. only_there ready b r j v (in_half ready b) e (b.rightmost j h g);
      }

  pub branch_shared : {l₂ l₃ : List ℕ} → Struck l l₂ (SetHit r c v) → Struck l l₃ (One (r * 9 + c) v) → remaining p (table_in l) ≡ remaining p (table_in l₂) ++ remaining p (table_in l₃)
  branch_shared s d =
      let z = ready.size.high in
      branch_order p z (table_in l) r c v ordered
      ∙ ap₂ ◌++◌ (remaining_same p (same_ext p z (λ i j w hi hj m. sym (as_taken ready b s i j w hi hj m))))
      (remaining_same p (same_ext p z (λ i j w hi hj m. sym (as_struck ready b d i j w hi hj m))))
