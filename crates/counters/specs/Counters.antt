-- Families of counters: what each counter counts, and the rule that holds where it is low. Assumes nothing.
use Rattle.std.specs.Prelude.{ℕ, ◌+◌, ◌*◌, ◌/◌, ◌%◌, ◌≤◌, ◌<◌, ◌≡◌, Bool, true, cond, ◌≢◌, List, ltb, get_or}
use Rattle.bits.specs.Sum.{sum_over}
use Rattle.rules.specs.Grid.{Line, across, down}
use Rattle.rules.specs.Mark.{left_black, upper_black}
use Rattle.table.specs.Table.{in_column, in_row}
use Rattle.queue_state.specs.Layout.{counters_at, row_half_at, col_half_at, places_at, row_blacks_at, col_blacks_at}
use Rattle.queue_state.specs.Slab.{cand, lag, Grown}
use Rattle.table.specs.Value.{ValueOf}
use Rattle.set_cell.specs.Setting.{SetHit}

-- Counter i stands at place base + i and counts n candidates: candidate j is the value (value i j) of the cell at place (cell i j).
pub record Fam : Type 1 where
  pub base : ℕ
  pub size : ℕ
  pub n : ℕ
  pub cell : ℕ → ℕ → ℕ
  pub value : ℕ → ℕ → ℕ
  -- of the size and the counter: it counts at that size
  pub used : ℕ → ℕ → Type 0

-- Each used counter is the sum of the lags of its candidates, the strikes before h being handled; where it is at most low, its rule holds.
pub record Ruled (F : Fam) (low : ℕ) (Rule : List ℕ → ℕ → Type 0) (n : ℕ) (l : List ℕ) (h : ℕ) : Type 0 where
  pub counts : (i : ℕ) → F.used n i → get_or l (F.base + i) 0 ≡ sum_over 0 F.n (λ (j : ℕ). lag l h (F.cell i j) (F.value i j))
  pub rule : (i : ℕ) → F.used n i → get_or l (F.base + i) 0 ≤ low → Rule l i

-- The counter at p fell by one; besides it and strikes nothing moved.
pub record Fell (l l' : List ℕ) (p : ℕ) : Type 0 where
  pub grown : Grown l l'
  pub here : get_or l' p 0 + 1 ≡ get_or l p 0
  pub rest : (q : ℕ) → counters_at ≤ q → q ≢ p → get_or l' q 0 ≡ get_or l q 0

-- ---- rules

-- The candidate v of the cell at place x, if the table has it, has been set.
pub record IsSet (l : List ℕ) (x v : ℕ) : Type 0 where
  pub struck : cand l x v ≡ 1 → (y w : ℕ) → w < 16 → SetHit (x / 9) (x % 9) v y w → cand l y w ≡ 0

-- Each candidate of the counter has been set.
abbrev pub AllSet : Fam → List ℕ → ℕ → Type 0
AllSet F l i = (j : ℕ) → j < F.n → IsSet l (F.cell i j) (F.value i j)

-- The cell at place x has none of two blacks.
abbrev pub NoBlacks : ℕ → List ℕ → ℕ → Type 0
NoBlacks k l x = (cand l x k ≡ 0) × (cand l x (k + 1) ≡ 0)

-- ---- the families: rows and columns by a line, of which only the kind matters

-- A cell of the grid.
abbrev pub InGrid : ℕ → ℕ → Type 0
InGrid n x = (x / 9 < n) × (x % 9 < n)

-- A value of a line's half.
abbrev pub in_line : Line → ℕ → Bool
in_line (across r) v = in_row v
in_line (down c) v = in_column v

-- The values of a half in order: the digits, then the blacks.
abbrev pub half_value : Line → ℕ → ℕ
half_value (across r) j = j + 1
half_value (down c) j = cond (ltb j 7) (j + 1) (j + 3)

-- Place j of line number k of a kind.
abbrev pub place_along : Line → ℕ → ℕ → ℕ
place_along (across r) k j = k * 9 + j
place_along (down c) k j = j * 9 + k

-- Where the counters of a line's halves begin.
abbrev pub halves_base : Line → ℕ
halves_base (across r) = row_half_at
halves_base (down c) = col_half_at

-- Where the counters of a line's values begin.
abbrev pub places_base : Line → ℕ
places_base (across r) = places_at
places_base (down c) = places_at + 9 * 16

-- How many candidates the half of a cell has.
abbrev pub halves : Line → Fam
halves ℓ = record { base = halves_base ℓ; size = 81; n = 9; cell = λ i j. i; value = λ i j. half_value ℓ j; used = InGrid }

-- How many places a value has in a line: counter line * 16 + value.
abbrev pub line_places : Line → Fam
line_places ℓ =
    record {
      base = places_base ℓ;
      size = 144;
      n = 9;
      cell = λ i j. place_along ℓ (i / 16) j;
      value = λ i j. i % 16;
      used = λ n i. (i / 16 < n) × ValueOf n (i % 16) × (in_line ℓ (i % 16) ≡ true);
    }

-- How many of a line's blacks a cell has; its first black, and that of the line across it.
abbrev pub blacks_base : Line → ℕ
blacks_base (across r) = row_blacks_at
blacks_base (down c) = col_blacks_at

-- The first of the line's own blacks.
abbrev pub own_black : Line → ℕ
own_black (across r) = left_black
own_black (down c) = upper_black

-- The first of the blacks of the line across.
abbrev pub cross_black : Line → ℕ
cross_black (across r) = upper_black
cross_black (down c) = left_black

abbrev pub cell_blacks : Line → Fam
cell_blacks ℓ = record { base = blacks_base ℓ; size = 81; n = 2; cell = λ i j. i; value = λ i j. own_black ℓ + j; used = InGrid }

-- ---- the families with their rules: a half or a value's places with at most one candidate are set, a cell without blacks of a line has none of the other

abbrev pub HalvesOf : Line → ℕ → List ℕ → ℕ → Type 0
HalvesOf ℓ n l h = Ruled (halves ℓ) 1 (AllSet (halves ℓ)) n l h

abbrev pub PlacesOf : Line → ℕ → List ℕ → ℕ → Type 0
PlacesOf ℓ n l h = Ruled (line_places ℓ) 1 (AllSet (line_places ℓ)) n l h

abbrev pub BlacksOf : Line → ℕ → List ℕ → ℕ → Type 0
BlacksOf ℓ n l h = Ruled (cell_blacks ℓ) 0 (NoBlacks (cross_black ℓ)) n l h

-- Of the handler of halves.
pub record Halves (n : ℕ) (l : List ℕ) (h : ℕ) : Type 0 where
  pub rows : HalvesOf (across 0) n l h
  pub columns : HalvesOf (down 0) n l h

-- Of the handler of places.
pub record LinePlaces (n : ℕ) (l : List ℕ) (h : ℕ) : Type 0 where
  pub rows : PlacesOf (across 0) n l h
  pub columns : PlacesOf (down 0) n l h

-- Of the handler of blacks.
pub record Blacks (n : ℕ) (l : List ℕ) (h : ℕ) : Type 0 where
  pub rows : BlacksOf (across 0) n l h
  pub columns : BlacksOf (down 0) n l h
