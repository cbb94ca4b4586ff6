-- Where a grid of a puzzle has the values of its rows. Assumes nothing.
use Prim.Native.Nat.{ℕ, ◌≤◌, ◌<◌}
use mathlib.Core.Path.{◌≡◌, sym, ◌∙◌}
use mathlib.Core.Bool.{Bool, true, true≢false}
use mathlib.Core.List.{List, Memᴰ}
use native.Mathlib.Omega.{arith}
use native.Mathlib.Decide.{ℕ_discrete}
use Rattle.tally.specs.Tally.{span}
use Rattle.tally.proofs.TallyLaws.{span_in, span_mem}
use Rattle.tally.proofs.ListLaws.{first_passes}
use Rattle.line_laws.proofs.Lists.{count_pos}
use Rattle.rules.specs.Grid.{across, index, Puzzle}
use Rattle.rules.specs.Mark.{has}
use Rattle.rules.specs.Order.{RowValue, place_of}
use Rattle.rules.proofs.GridLaws.{line_in}
use Rattle.table.specs.Table.{Table, places, first_black, half, fits}
use Rattle.table.specs.Closed.{Closed}
use Rattle.table.specs.Lines.{row_of, column_of}
use Rattle.table.specs.Stable.{Only}
use Rattle.line_laws.specs.Grids.{GridOf}
use Rattle.soundness.proofs.GridValues.{value_onto, once_in_line, fits_place}

-- A value of a row, by the table: where a cell of the row has it, that cell's row half has nothing else.
pub record Alone (n : ℕ) (t : Table) (s : RowValue) : Type 0 where
  pub row_in : s.row < n
  pub in_half : Memᴰ s.value (half n 8)
  pub alone : (i : ℕ) → i < n → t s.row i s.value ≡ true → Only n t (across s.row) i s.value

module _ (p : Puzzle) (small : p.size ≤ 9) where
  module _ (g : List ℕ) (d : GridOf p g) (s : RowValue) (h : s.row < p.size) (m : Memᴰ s.value (half p.size 8)) where
    -- the only place of the row that has the value
    pub place_is : (i : ℕ) → i < p.size → has p.size g s.row i s.value ≡ true → place_of p.size g s ≡ i
    unfolding place_of index row_of column_of first_black
    place_is i k e =
        let there : ℕ → Bool = λ c. has p.size g s.row c s.value in
        let f = first_passes there p.size (span 0 p.size) (count_pos there (span_mem 0 p.size i (omega arith) (omega arith)) e) in
        once_in_line p small g d (across s.row) h _ i (omega (arith, span_in 0 p.size _ f.0)) k s.value m f.1 e

    pub place_has : (t : Table) → fits p.size t g ≡ true → (i : ℕ) × (i < p.size) × (has p.size g s.row i s.value ≡ true) × (place_of p.size g s ≡ i) × (t s.row i s.value ≡ true)
    unfolding index row_of column_of first_black places
    place_has t f =
        let o = value_onto p small g d (across s.row) h s.value m in
        (o.0, o.1, o.2, place_is o.0 o.1 o.2, fits_place p small g d (across s.row) h t f o.0 o.1 s.value m o.2)

  -- In a closed table such a value has the same place in all grids that fit.
  pub same_place : (t : Table) → Closed p t → (s : RowValue) → Alone p.size t s → (g h : List ℕ) → GridOf p g → GridOf p h → fits p.size t g ≡ true →
      fits p.size t h ≡ true → place_of p.size g s ≡ place_of p.size h s
  unfolding index first_black places
  same_place t closed s a g h dg dh fg fh =
      let i = place_has g dg s a.row_in a.in_half t fg in
      let j = place_has h dh s a.row_in a.in_half t fh in
      i.3
      ∙ elim (ℕ_discrete i.0 j.0) [
        | yes q ↦ q
        | no q ↦
            absurd (true≢false (sym j.4 ∙ (closed.lines (across s.row) (line_in p.size (across s.row) a.row_in)).lone i.0 j.0 s.value i.1 j.1 q a.in_half i.4 (a.alone i.0 i.1 i.4)))
      ]
      ∙ sym j.3
