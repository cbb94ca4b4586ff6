-- Live arrangements and closed tables at small cases: what is closed, and for each point a table that is not. Assumes nothing.
use mathlib.Core.Path.{◌≡◌, refl, ap, ◌∙◌}
use mathlib.Core.Bool.{Bool, true, false}
use mathlib.Core.List.{List, [], ◌∷◌}
use Rattle.tally.specs.Tally.{span, sum, all, any, keep, join, sort, insert}
use Rattle.rules.specs.Grid.{digits, meets, across, cell, lines, Puzzle, target}
use Rattle.rules.specs.Mark.{left_black, right_black}
use Rattle.table.specs.Closed.{Arrangement, subsets, printed_before, printed, subsets_with, from_starts, insides, outsides, arrangements, place, allows, Live, Closed, lays}
use Rattle.rules.proofs.Samples.{three}
use Rattle.table.specs.Table.{Table, places, first_black, half, bit_of, mask_of, has_bit, table_of}
use Rattle.table.specs.Steps.{struck}
use Rattle.table.proofs.Decides.{refuted}
use Rattle.table.proofs.ClosedTest.{live_test, filled_test, placed_test, supported_test, sole_test, every_test, cross_half, lone_test, crossed_test, single_test, blacks_test, supports_test, points, closed_test, live, closed}

-- The table with nothing struck.
abbrev pub full : Table
full r c v = true

-- The settled table of the sample sheet with rows and columns 1 0 0: #1#/1##/##1.
abbrev pub settled : Table
settled = table_of 3 (20 ∷ 2 ∷ 24 ∷ 2 ∷ 20 ∷ 40 ∷ 36 ∷ 40 ∷ 2 ∷ [])

-- Rows and columns 0 1 0 have two grids. The settled table of the one whose digits go down to the right: 1##/#1#/##1.
abbrev pub falling : Table
falling = table_of 3 (2 ∷ 20 ∷ 24 ∷ 20 ∷ 2 ∷ 40 ∷ 36 ∷ 40 ∷ 2 ∷ [])

-- The settled table of the other: ##1/#1#/1##.
abbrev pub rising : Table
rising = table_of 3 (20 ∷ 24 ∷ 2 ∷ 36 ∷ 2 ∷ 24 ∷ 2 ∷ 36 ∷ 40 ∷ [])

-- The table of both: a candidate for what either of them has.
abbrev pub both_grids : Table
both_grids = table_of 3 (22 ∷ 28 ∷ 26 ∷ 52 ∷ 2 ∷ 56 ∷ 38 ∷ 44 ∷ 42 ∷ [])

-- The arrangement of row 0: digit 1 between the blacks, from the row's first cell on.
abbrev pub between : Arrangement
between = record { start = 0; digit_set = 1 ∷ []; is_inside = true }

-- Digits 1 and 2 of a row of size 4: between its blacks, and around them, beginning with the second black in column 2.
abbrev pub pair_between : Arrangement
pair_between = record { start = 0; digit_set = 1 ∷ 2 ∷ []; is_inside = true }

abbrev pub pair_around : Arrangement
pair_around = record { start = 2; digit_set = 1 ∷ 2 ∷ []; is_inside = false }

-- A puzzle of size 5 with rows 3 0 6 1 2 and columns 1 3 4 3 1.
unfoldable pub five : Puzzle
five = record { size = 5; rows = 3 ∷ 0 ∷ 6 ∷ 1 ∷ 2 ∷ []; columns = 1 ∷ 3 ∷ 4 ∷ 3 ∷ 1 ∷ [] }

-- A table that is not closed, with the outcomes of its points: a half with one candidate, the same crossed, a candidate with one place, blacks, and
-- live arrangements.
pub record Wrong (p : Puzzle) (t : Table) (outcomes : List Bool) : Type 0 where
  pub tested : points p t ≡ outcomes
  pub refused : Closed p t → ⊥

-- a table is wrong where a point fails
wrong : (p : Puzzle) (t : Table) (outcomes : List Bool) → points p t ≡ outcomes → all (λ b. b) outcomes ≡ false → Wrong p t outcomes
unfolding closed_test
wrong p t outcomes e f = record { tested = e; refused = refuted (closed p t) (ap (all (λ b. b)) e ∙ f) }

pub record ClosedFacts : Type 0 where
  -- the arrangement of row 0 is live in the settled table, and no longer after the right black of its end cell is struck
  pub alive : Live 3 left_black (places settled (across 0)) between
  pub dead : Live 3 left_black (places (struck settled 0 2 right_black) (across 0)) between → ⊥
  -- Two cells between the ends, of which one or both have digit 2 alone. Digit 1 of an end cell does not keep the arrangement alive, and that of a cell between
  -- does, behind the line's end too.
  pub inner_digit : Live 4 left_black (places (table_of 4 (8 ∷ 6 ∷ 4 ∷ 16 ∷ [])) (across 0)) pair_between
  pub end_digit : Live 4 left_black (places (table_of 4 (10 ∷ 4 ∷ 4 ∷ 18 ∷ [])) (across 0)) pair_between → ⊥
  pub wrapped_digit : Live 4 left_black (places (table_of 4 (6 ∷ 8 ∷ 16 ∷ 4 ∷ [])) (across 0)) pair_around
  pub wrapped_end_digit : Live 4 left_black (places (table_of 4 (4 ∷ 10 ∷ 18 ∷ 4 ∷ [])) (across 0)) pair_around → ⊥
  -- settled tables are closed, and so is the one with choices left
  pub settled_closed : Closed (three 1 0 0 1 0 0) settled
  pub falling_closed : Closed (three 0 1 0 0 1 0) falling
  pub rising_closed : Closed (three 0 1 0 0 1 0) rising
  pub both_closed : Closed (three 0 1 0 0 1 0) both_grids
  -- with nothing struck there are candidates in no live arrangement
  pub full_not : Wrong (three 1 0 0 1 0 0) full (true ∷ true ∷ true ∷ true ∷ false ∷ [])
  -- row 2: the left black is alone in the row half of column 0, and is still in column 1; column 2 alike
  pub lone_not : Wrong (three 1 0 0 1 0 0) (table_of 3 (20 ∷ 2 ∷ 24 ∷ 2 ∷ 20 ∷ 56 ∷ 36 ∷ 44 ∷ 40 ∷ [])) (false ∷ true ∷ true ∷ true ∷ true ∷ [])
  -- Column 0: digit 1 is alone in the row half of row 0, and is still in row 2. With the point of blacks such a digit is alone in its column half too,
  -- and the first point speaks of the column: so no table fails at the crossed form only.
  pub crossed_not : Wrong (three 0 1 0 0 1 0) (table_of 3 (18 ∷ 20 ∷ 8 ∷ 52 ∷ 2 ∷ 24 ∷ 34 ∷ 36 ∷ 40 ∷ [])) (true ∷ false ∷ true ∷ false ∷ true ∷ [])
  -- Column 0: digit 1 has its only place in row 1, where digits 2 and 3 are candidates too. (A search outside the proofs found no table of size 3 or 4 without
  -- an empty cell that fails here only.)
  pub single_not :
      Wrong five
      (table_of 5 (88 ∷ 82 ∷ 4 ∷ 98 ∷ 104 ∷ 14 ∷ 86 ∷ 112 ∷ 102 ∷ 14 ∷ 208 ∷ 6 ∷ 8 ∷ 6 ∷ 224 ∷ 12 ∷ 144 ∷ 2 ∷ 160 ∷ 12 ∷ 152 ∷ 14 ∷ 176 ∷ 14 ∷ 168 ∷ [])) (true ∷ true ∷ false ∷ true ∷ true ∷ [])
  -- row 2: columns 0 and 1 have a lower black and no black of the row
  pub blacks_not : Wrong (three 1 0 0 1 0 0) (table_of 3 (20 ∷ 2 ∷ 24 ∷ 2 ∷ 20 ∷ 40 ∷ 32 ∷ 32 ∷ 0 ∷ [])) (true ∷ true ∷ true ∷ false ∷ true ∷ [])
  -- the closed table with choices left, and one candidate more: the upper black of row 2 and column 0, which lies in no arrangement
  pub supports_not : Wrong (three 0 1 0 0 1 0) (table_of 3 (22 ∷ 28 ∷ 26 ∷ 52 ∷ 2 ∷ 56 ∷ 54 ∷ 44 ∷ 42 ∷ [])) (true ∷ true ∷ true ∷ true ∷ false ∷ [])

pub facts : ClosedFacts
unfolding
    span sum all any keep join digits meets cell lines target subsets mask_of printed_before printed subsets_with sort insert from_starts insides outsides arrangements three five
    places first_black half bit_of has_bit table_of place allows struck lays
    live_test filled_test placed_test supported_test sole_test every_test cross_half lone_test crossed_test single_test blacks_test supports_test points closed_test
facts =
    record {
      alive = (live _ _ _ _).holds refl;
      dead = refuted (live _ _ _ _) refl;
      inner_digit = (live _ _ _ _).holds refl;
      end_digit = refuted (live _ _ _ _) refl;
      wrapped_digit = (live _ _ _ _).holds refl;
      wrapped_end_digit = refuted (live _ _ _ _) refl;
      settled_closed = (closed (three 1 0 0 1 0 0) settled).holds refl;
      falling_closed = (closed (three 0 1 0 0 1 0) falling).holds refl;
      rising_closed = (closed (three 0 1 0 0 1 0) rising).holds refl;
      both_closed = (closed (three 0 1 0 0 1 0) both_grids).holds refl;
      full_not = wrong _ _ _ refl refl;
      lone_not = wrong _ _ _ refl refl;
      crossed_not = wrong _ _ _ refl refl;
      single_not = wrong _ _ _ refl refl;
      blacks_not = wrong _ _ _ refl refl;
      supports_not = wrong _ _ _ refl refl;
    }
