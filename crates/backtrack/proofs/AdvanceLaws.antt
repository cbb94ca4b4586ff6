-- What propagation and the branching rule tell: no grid left, one grid left, or a choice. Assumes nothing.
use Prim.Native.Nat.{ℕ, ◌+◌, ◌*◌, ◌/◌, ◌%◌, ◌≤◌, ◌<◌}
use mathlib.Core.Path.{◌≡◌, sym, ap, ◌∙◌, subst}
use mathlib.Core.Bool.{Bool, true, false}
use mathlib.Core.List.{List, [], ◌∷◌}
use native.Mathlib.Omega.{arith}
use Rattle.rules.specs.Size.{Size}
use Rattle.rules.specs.Grid.{Puzzle}
use Rattle.table.specs.Reading.{choices, read_off, AllSettled}
use Rattle.line_laws.specs.Grids.{GridOf}
use Rattle.settled.proofs.EmptyLaws.{empty_left}
use Rattle.settled.specs.EmptyCell.{Empty}
use Rattle.settled.proofs.NoStall.{no_stall}
use Rattle.settled.proofs.ReadLaws.{read_way}
use Rattle.settled.proofs.SettledTable.{read_keeps, read_fits, settled_left}
use Rattle.soundness.proofs.SameLaws.{same_left}
use Rattle.queue_state.specs.Slab.{table_in}
use Rattle.queue_state.specs.Ready.{Ready}
use Rattle.invariants.specs.State.{Kept, Propagated}
use Rattle.invariants.proofs.StateLaws.{within_sub}
use Rattle.pick.specs.Choice.{row_choices, Branch}
use Rattle.pick.proofs.ChoiceLaws.{row_choices_lem}
use Rattle.grid_order.proofs.RemainingLaws.{remaining_same, remaining_none, remaining_one}
use Rattle.backtrack.specs.Search.{NoneLeft, OneLeft, Branching}

module _ {n : ℕ} {l l' : List ℕ} (z : Size n) where
  pub advance_none : {b : Bool} → b ≡ false → Propagated n l l' b → NoneLeft n l l'
  advance_none f a =
      let e = a.emptied f in
      record {
        size = a.size;
        none = λ p q k.
            remaining_none p (table_in l)
            (same_left (a.sound p q k)
            ∙ empty_left p (table_in l') (subst (λ m. m ≤ 9) (sym q) z.high) e.row e.column (subst (λ m. e.row < m) (sym q) e.row_in) (subst (λ m. e.column < m) (sym q) e.column_in)
            (subst (λ m. Empty m (table_in l') e.row e.column) (sym q) e.empty));
      }

  module _ {b : Bool} (t : b ≡ true) (a : Propagated n l l' b) where
    pub advance_ready : Ready n l'
    advance_ready = (a.lagging t).ready

    -- at most one row_half candidate in each cell: settled
    module _ (few : (x : ℕ) → x / 9 < n → x % 9 < n → row_choices l' x ≤ 1) where
      row_few : (r c : ℕ) → r < n → c < n → choices n 8 (table_in l' r c) ≤ 1
      row_few r c h k =
          let f = few (r * 9 + c) (omega arith) (omega arith) in
          let s = row_choices_lem advance_ready r c in
          omega arith

      settled_at : (p : Puzzle) → p.size ≡ n → Kept p l → AllSettled p.size (table_in l')
      settled_at p q k =
          no_stall p (table_in l') (subst Size (sym q) z) (a.closed t p q k)
          (subst (λ m. (r c : ℕ) → r < m → c < m → Empty m (table_in l') r c → ⊥) (sym q) (a.filled t))
          (subst (λ m. (r c : ℕ) → r < m → c < m → choices m 8 (table_in l' r c) ≤ 1) (sym q) row_few)

      pub advance_one : OneLeft n l l'
      advance_one =
          record {
            size = a.size;
            ready = advance_ready;
            one = λ p q k.
                let small = subst Size (sym q) z in
                let u = table_in l' in
                let cl = a.closed t p q k in
                let se = settled_at p q k in
                let d : GridOf p (read_off p.size u) = record { filled = read_way p.size u; kept = read_keeps p u small cl se } in
                remaining_same p (a.sound p q k)
                ∙ remaining_one p u (read_off p.size u) (settled_left p u small cl se) d (read_fits p u small cl se)
                ∙ ap (λ m. read_off m u ∷ []) q;
          }

    pub advance_branch : {r c v : ℕ} → Branch n l' r c v → Branching n l l' r c v
    advance_branch br =
        record {
          size = a.size;
          lagging = a.lagging t;
          within = within_sub n l l' z.high a.sub;
          kept = a.kept t;
          same = a.sound;
          closed = a.closed t;
          branch = br;
        }
