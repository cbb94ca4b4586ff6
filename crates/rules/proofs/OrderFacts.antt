-- The order of grids, computed at small cases. Assumes nothing.
use Prim.Native.Nat.{ℕ}
use mathlib.Core.Path.{◌≡◌, refl}
use mathlib.Core.List.{List, [], ◌∷◌, ◌++◌, map}
use Rattle.tally.specs.Tally.{span, sum, all, count, in_front, ways, keep, first, insert, sort, join}
use Rattle.rules.specs.Grid.{digits, lawful, until_black, inside, line_sum, meets, keeps_line, cell, row, column, line, lines, target, keeps}
use Rattle.rules.specs.Mark.{rejects, black_with, has, keeps_mark}
use Rattle.rules.specs.Number.{grids, solves}
use Rattle.rules.specs.Order.{row_value, black_sequence, digit_sequence, sequence, place_of, precedes, in_order, found, first_or}
use Rattle.rules.proofs.Samples.{two, three, diagonal}

-- ##1/#1#/1##
abbrev other : List ℕ
other = 255 ∷ 255 ∷ 1 ∷ 255 ∷ 1 ∷ 255 ∷ 1 ∷ 255 ∷ 255 ∷ []

-- A grid of size 4 with rows 12## between the first and the last.
abbrev from : List ℕ → List ℕ → List ℕ
from a d = a ++ (1 ∷ 2 ∷ 255 ∷ 255 ∷ 1 ∷ 2 ∷ 255 ∷ 255 ∷ []) ++ d

-- Rows: b is a black.
abbrev row_12bb : List ℕ
row_12bb = 1 ∷ 2 ∷ 255 ∷ 255 ∷ []

abbrev row_21bb : List ℕ
row_21bb = 2 ∷ 1 ∷ 255 ∷ 255 ∷ []

abbrev row_bb12 : List ℕ
row_bb12 = 255 ∷ 255 ∷ 1 ∷ 2 ∷ []

abbrev row_bb21 : List ℕ
row_bb21 = 255 ∷ 255 ∷ 2 ∷ 1 ∷ []

abbrev row_b21b : List ℕ
row_b21b = 255 ∷ 2 ∷ 1 ∷ 255 ∷ []

abbrev row_b1b2 : List ℕ
row_b1b2 = 255 ∷ 1 ∷ 255 ∷ 2 ∷ []

abbrev row_2bb1 : List ℕ
row_2bb1 = 2 ∷ 255 ∷ 255 ∷ 1 ∷ []

-- A grid of size 5 with rows ##123 behind the first two.
abbrev from_5 : List ℕ → List ℕ → List ℕ
from_5 a b = (255 ∷ 255 ∷ a) ++ (255 ∷ 255 ∷ b) ++ (255 ∷ 255 ∷ 1 ∷ 2 ∷ 3 ∷ 255 ∷ 255 ∷ 1 ∷ 2 ∷ 3 ∷ 255 ∷ 255 ∷ 1 ∷ 2 ∷ 3 ∷ [])

record OrderFacts : Type 0 where
  -- Two grids, given in the wrong order: that with its values further right comes first.
  further_right : in_order 4 (from row_bb21 row_21bb ∷ from row_b1b2 row_21bb ∷ []) ≡ from row_b1b2 row_21bb ∷ from row_bb21 row_21bb ∷ []
  -- The right black of a row decides before its left one.
  right_first : in_order 4 (from row_2bb1 row_21bb ∷ from row_b21b row_21bb ∷ []) ≡ from row_b21b row_21bb ∷ from row_2bb1 row_21bb ∷ []
  -- The left black of the first row decides before the right one of the last.
  blacks_by_rows :
      in_order 4 (from row_b21b row_12bb ∷ from row_12bb row_bb12 ∷ []) ≡ from row_12bb row_bb12 ∷ from row_b21b row_12bb ∷ []
  -- The left black of the last row decides before the digits of the first.
  blacks_first_of_all : in_order 4 (from row_12bb row_b1b2 ∷ from row_21bb row_2bb1 ∷ []) ≡ from row_21bb row_2bb1 ∷ from row_12bb row_b1b2 ∷ []
  -- Of a row's digits the greater decides.
  greater_first : in_order 4 (from row_21bb row_12bb ∷ from row_12bb row_12bb ∷ []) ≡ from row_12bb row_12bb ∷ from row_21bb row_12bb ∷ []
  -- The digit of the first row decides before that of the last.
  digit_by_rows : in_order 4 (from row_21bb row_12bb ∷ from row_12bb row_21bb ∷ []) ≡ from row_12bb row_21bb ∷ from row_21bb row_12bb ∷ []
  -- The last value at which lawful rows can first differ: the digit 2 of the last row.
  last_row : in_order 4 (from row_21bb row_21bb ∷ from row_21bb row_12bb ∷ []) ≡ from row_21bb row_12bb ∷ from row_21bb row_21bb ∷ []
  -- The digit 3 of the second row decides before the digit 2 of the first.
  digit_of_all_rows :
      in_order 5 (from_5 (3 ∷ 1 ∷ 2 ∷ []) (1 ∷ 3 ∷ 2 ∷ []) ∷ from_5 (3 ∷ 2 ∷ 1 ∷ []) (1 ∷ 2 ∷ 3 ∷ []) ∷ [])
      ≡ from_5 (3 ∷ 2 ∷ 1 ∷ []) (1 ∷ 2 ∷ 3 ∷ []) ∷ from_5 (3 ∷ 1 ∷ 2 ∷ []) (1 ∷ 3 ∷ 2 ∷ []) ∷ []
  -- The values of the rows, one after another.
  sequence_3 :
      sequence 3
      ≡ row_value 0 9 ∷ row_value 0 8 ∷ row_value 1 9 ∷ row_value 1 8 ∷ row_value 2 9 ∷ row_value 2 8 ∷ row_value 0 1 ∷ row_value 1 1 ∷ row_value 2 1 ∷ []
  sequence_4 :
      sequence 4
      ≡ row_value 0 9 ∷ row_value 0 8 ∷ row_value 1 9 ∷ row_value 1 8 ∷ row_value 2 9 ∷ row_value 2 8 ∷ row_value 3 9 ∷ row_value 3 8
      ∷ row_value 0 2 ∷ row_value 1 2 ∷ row_value 2 2 ∷ row_value 3 2 ∷ row_value 0 1 ∷ row_value 1 1 ∷ row_value 2 1 ∷ row_value 3 1 ∷ []
  -- Where 1##/#1#/##1 has them.
  places : map (place_of 3 diagonal) (sequence 3) ≡ 2 ∷ 1 ∷ 2 ∷ 0 ∷ 1 ∷ 0 ∷ 0 ∷ 1 ∷ 2 ∷ []
  -- What no cell of the row has is behind the last column.
  nowhere : place_of 3 diagonal (row_value 0 2) ≡ 3
  -- Rows and columns 0 1 0, the sample sheet: two grids, and 1##/#1#/##1 comes first.
  found_both : found (three 0 1 0 0 1 0) [] ≡ diagonal ∷ other ∷ []
  -- A mark that the first keeps leaves it, one that rejects what it has leaves the other, and both leave none.
  found_kept : found (three 0 1 0 0 1 0) (0x0008 ∷ []) ≡ diagonal ∷ []
  found_rejected : found (three 0 1 0 0 1 0) (0x8008 ∷ []) ≡ other ∷ []
  found_none : found (three 0 1 0 0 1 0) (0x0008 ∷ 0x8008 ∷ []) ≡ []
  -- Size 2 has one grid, all black.
  found_2 : found (two 0 0 0 0) [] ≡ (255 ∷ 255 ∷ 255 ∷ 255 ∷ []) ∷ []
  -- The first of some grids, and of none.
  first_of_some : first_or (0 ∷ []) (diagonal ∷ other ∷ []) ≡ diagonal
  first_of_none : first_or (0 ∷ []) [] ≡ 0 ∷ []

facts : OrderFacts
unfolding
    span sum all count in_front ways keep first insert sort join
    digits lawful until_black inside line_sum meets keeps_line cell row column line lines target keeps
    rejects black_with has keeps_mark grids solves
    black_sequence digit_sequence sequence place_of precedes in_order found first_or two three
facts =
    record {
      further_right = refl;
      right_first = refl;
      blacks_by_rows = refl;
      blacks_first_of_all = refl;
      greater_first = refl;
      digit_by_rows = refl;
      last_row = refl;
      digit_of_all_rows = refl;
      sequence_3 = refl;
      sequence_4 = refl;
      places = refl;
      nowhere = refl;
      found_both = refl;
      found_kept = refl;
      found_rejected = refl;
      found_none = refl;
      found_2 = refl;
      first_of_some = refl;
      first_of_none = refl;
    }
