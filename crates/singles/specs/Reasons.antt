-- Why a handler struck candidates, in the words of tables. Assumes nothing.
use Rattle.std.specs.Prelude.{ℕ, suc, ◌≤◌, ◌<◌, ◌≡◌, true, false}
use mathlib.Core.List.{List, Memᴰ}
use Rattle.rules.specs.Grid.{Line, index}
use Rattle.table.specs.Table.{Table, places, first_black, half}
use Rattle.table.specs.Steps.{taken}
use Rattle.table.specs.Lines.{row_of, column_of}
use Rattle.queue_state.specs.Slab.{table_in}

-- The state's table is t.
pub record TableIs (l : List ℕ) (t : Table) : Type 0 where
  pub is : (r c v : ℕ) → r < 9 → c < 9 → v < 16 → table_in l r c v ≡ t r c v

-- What led from one state to the next.
pub data Reason (n : ℕ) (l l' : List ℕ) : Type 0 where
  -- no candidate changed
  still : TableIs l' (table_in l) → Reason n l l'
  -- the place has no other candidate of the line's half, and is set to it
  naked : (ℓ : Line) (i v : ℕ) → index ℓ < n → i < n → Memᴰ v (half n (first_black ℓ)) →
      ((w : ℕ) → Memᴰ w (half n (first_black ℓ)) → places (table_in l) ℓ i w ≡ true → w ≡ v) →
      TableIs l' (taken (table_in l) (row_of ℓ i) (column_of ℓ i) v) → Reason n l l'
  -- the value has no other place in the line, and the place is set to it
  hidden : (ℓ : Line) (i v : ℕ) → index ℓ < n → i < n → Memᴰ v (half n (first_black ℓ)) →
      ((j : ℕ) → j < n → places (table_in l) ℓ j v ≡ true → j ≡ i) →
      TableIs l' (taken (table_in l) (row_of ℓ i) (column_of ℓ i) v) → Reason n l l'
  -- the place has no black of the line, and loses blacks of the line across it
  crossed : (ℓ : Line) (i : ℕ) → index ℓ < n → i < n → places (table_in l) ℓ i (first_black ℓ) ≡ false → places (table_in l) ℓ i (suc (first_black ℓ)) ≡ false →
      ((r c v : ℕ) → r < 9 → c < 9 → v < 16 → table_in l' r c v ≡ true → table_in l r c v ≡ true) →
      ((r c v : ℕ) → r < 9 → c < 9 → v < 16 → table_in l r c v ≡ true → table_in l' r c v ≡ false → (r ≡ row_of ℓ i) × (c ≡ column_of ℓ i) × (8 ≤ v)) →
      Reason n l l'

-- One reason after the other.
pub data Steps (n : ℕ) : List ℕ → List ℕ → Type 0 where
  done : {l : List ℕ} → Steps n l l
  step : {l l₁ l₂ : List ℕ} → Reason n l l₁ → Steps n l₁ l₂ → Steps n l l₂
