-- Stable tables: no rule strikes anything of them. Assumes nothing.
use Rattle.std.specs.Prelude.{ℕ, ◌<◌, ◌≡◌, true, false}
use Rattle.rules.specs.Grid.{Line, index, Puzzle}
use Rattle.table.specs.Table.{Table, places}
use Rattle.table.specs.Closed.{Closed}
use Rattle.table.specs.Steps.{strikes}
use Rattle.table.specs.Lines.{row_of, column_of}
use Rattle.table.specs.Value.{IsValue, InHalf}

-- At place i of a line the half has no candidate but v.
abbrev pub Only : ℕ → Table → Line → ℕ → ℕ → Type 0
Only n t ℓ i v = (w : ℕ) → InHalf n ℓ w → places t ℓ i w ≡ true → w ≡ v

-- Where a half has one candidate left, setting the cell to it strikes nothing.
pub record LoneSet (n : ℕ) (t : Table) : Type 0 where
  pub set : (ℓ : Line) (i v : ℕ) → index ℓ < n → i < n → InHalf n ℓ v → places t ℓ i v ≡ true → Only n t ℓ i v →
      (r c w : ℕ) → r < n → c < n → IsValue n w → t r c w ≡ true → strikes (row_of ℓ i) (column_of ℓ i) v r c w ≡ false

-- No rule strikes anything: each half has a candidate, each value of a line has a place, the table is closed, and what is alone in a half is set.
pub record Stable (p : Puzzle) (t : Table) : Type 0 where
  pub half_has : (ℓ : Line) (i : ℕ) → index ℓ < p.size → i < p.size → (v : ℕ) × InHalf p.size ℓ v × (places t ℓ i v ≡ true)
  pub value_has : (ℓ : Line) (v : ℕ) → index ℓ < p.size → InHalf p.size ℓ v → (i : ℕ) × (i < p.size) × (places t ℓ i v ≡ true)
  pub closed : Closed p t
  pub lone_set : LoneSet p.size t
