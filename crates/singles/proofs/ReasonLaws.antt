-- Why a handler struck candidates, in the words of tables. Assumes nothing.
use Prim.Native.Nat.{ℕ, ◌+◌, ◌*◌, ◌-◌, ◌/◌, ◌%◌, ◌≤◌, ◌<◌}
use mathlib.Core.Path.{◌≡◌, ap, ap₂, ◌∙◌}
use mathlib.Core.List.{List}
use lib.Dec.{eqb}
use lib.ListN.{get_or, set}
use Rattle.rules.specs.Grid.{Line, index}
use Rattle.table.specs.Steps.{taken}
use Rattle.table.specs.Lines.{row_of, column_of, cell_of}
use Rattle.queue_state.specs.Layout.{counters_at}
use Rattle.queue_state.specs.Slab.{table_in, Sized, Struck}
use Rattle.queue_state.proofs.StruckLaws.{set_cand}
use Rattle.set_cell.specs.Setting.{SetHit}
use Rattle.set_cell.proofs.SetLaws.{set_table}
use Rattle.counters.proofs.Lines.{cell_is}
use Rattle.singles.specs.Reasons.{TableIs, Reason, Steps, still, done, step}

pub steps_both : {n : ℕ} {l l₁ l₂ : List ℕ} → Steps n l l₁ → Steps n l₁ l₂ → Steps n l l₂
steps_both done b = b
steps_both (step r a) b = step r (steps_both a b)

-- a counter that falls changes no candidate
pub still_lower : {n p : ℕ} {l l' : List ℕ} → Sized l → counters_at ≤ p → l' ≡ set l p (get_or l p 0 - 1) → Reason n l l'
unfolding table_in
still_lower {p = p} {l = l} s h e =
    still (record { is = λ r c v a b d. rw e (ap (λ (x : ℕ). eqb x 1) (set_cand l p (get_or l p 0 - 1) s h (r * 9 + c) v)) })

-- a place of a line is set
pub taken_at : {l l' : List ℕ} (ℓ : Line) (i x v : ℕ) → index ℓ < 9 → i < 9 → x ≡ cell_of ℓ i → Struck l l' (SetHit (x / 9) (x % 9) v) →
    TableIs l' (taken (table_in l) (row_of ℓ i) (column_of ℓ i) v)
taken_at {l} {l'} ℓ i x v h k e s =
    let q = cell_is ℓ i h k in
    record {
      is = λ r c w hr hc hw.
          set_table (x / 9) (x % 9) v s r c w hr hc hw
          ∙ ap₂ (λ y z. taken (table_in l) y z v r c w) (ap (λ y. y / 9) e ∙ q.0) (ap (λ y. y % 9) e ∙ q.1);
    }
