-- The definitions on tables, computed at small cases. Assumes nothing.
use Prim.Native.Nat.{◌/◌, ◌%◌}
use mathlib.Core.Path.{◌≡◌, refl}
use mathlib.Core.Bool.{Bool, true}
use mathlib.Core.List.{List, [], ◌∷◌, map}
use lib.Dec.{leb}
use lib.ListN.{length, take}
use Rattle.tally.specs.Tally.{span, sum, all, any, count, in_front, ways, keep, join, sort, insert, first}
use Rattle.rules.specs.Grid.{digits, lawful, until_black, inside, line_sum, meets, keeps_line, cell, row, column, line, lines, target, keeps}
use Rattle.rules.specs.Mark.{rejects}
use Rattle.rules.specs.Number.{grids}
use Rattle.table.specs.Closed.{subsets, printed_before, printed, subsets_with, from_starts, insides, outsides, arrangements, place, allows, lays}
use Rattle.rules.proofs.Samples.{three}
use Rattle.table.specs.Table.{Table, places, first_black, half, every_value, own, fits, left, bit_of, mask_of, has_bit, table_of}
use Rattle.table.specs.Steps.{struck, strikes, taken, marked, marked_all, lies, opening}
use Rattle.table.specs.Reading.{read_cell, read_off}

-- which of the values 1, 8, 9, 10 and 11 each cell of a table of size 3 has
unfoldable pub candidates_shown : Table → List (List Bool)
candidates_shown t = map (λ i. map (t (i / 3) (i % 3)) (1 ∷ 8 ∷ 9 ∷ 10 ∷ 11 ∷ [])) (span 0 9)

abbrev everything : Table
everything r c v = true

pub record TableFacts : Type 0 where
  -- Arrangements: 2 and 4 at size 3; 39 inside, 39 outside and no target with more than these 78 at size 9.
  pub arrangements_3 : map (λ t. length (arrangements 3 t)) (1 ∷ 0 ∷ []) ≡ 2 ∷ 4 ∷ []
  pub arrangements_9 : map length (insides 9 12 ∷ outsides 9 12 ∷ arrangements 9 12 ∷ []) ≡ 39 ∷ 39 ∷ 78 ∷ []
  pub arrangements_most : all (λ t. leb (length (arrangements 9 t)) 78) (span 0 29) ≡ true
  -- The order of the subsets: rising sum, of one sum rising size, of one size rising mask.
  pub printed_order : take 6 (printed 6) ≡ [] ∷ (1 ∷ []) ∷ (2 ∷ []) ∷ (3 ∷ []) ∷ (1 ∷ 2 ∷ []) ∷ (4 ∷ []) ∷ []
  pub subsets_order : subsets_with 7 (meets 5) ≡ (5 ∷ []) ∷ (2 ∷ 3 ∷ []) ∷ (1 ∷ 4 ∷ []) ∷ []
  -- rows and columns 1 0 0: the opening table, as the masks of its cells and as values
  pub opened : candidates_shown (opening (three 1 0 0 1 0 0)) ≡ candidates_shown (table_of 3 (20 ∷ 18 ∷ 24 ∷ 6 ∷ 60 ∷ 56 ∷ 36 ∷ 44 ∷ 42 ∷ []))
  -- what taking digit 1, the left black and the lower black in the middle strikes of a full table
  pub taken_digit : candidates_shown (taken everything 1 1 1) ≡ candidates_shown (table_of 3 (62 ∷ 60 ∷ 62 ∷ 60 ∷ 2 ∷ 60 ∷ 62 ∷ 60 ∷ 62 ∷ []))
  pub taken_left : candidates_shown (taken everything 1 1 8) ≡ candidates_shown (table_of 3 (62 ∷ 30 ∷ 62 ∷ 50 ∷ 52 ∷ 58 ∷ 62 ∷ 46 ∷ 62 ∷ []))
  pub taken_lower : candidates_shown (taken everything 1 1 11) ≡ candidates_shown (table_of 3 (62 ∷ 30 ∷ 62 ∷ 54 ∷ 44 ∷ 58 ∷ 62 ∷ 14 ∷ 62 ∷ []))
  -- rows and columns 0 1 0: how many grids are left after marks
  pub left_after :
      map (λ ms. left (three 0 1 0 0 1 0) (marked_all (opening (three 0 1 0 0 1 0)) ms)) ([] ∷ (0x0008 ∷ []) ∷ (0x8008 ∷ []) ∷ (0x0008 ∷ 0x8008 ∷ []) ∷ (0x0008 ∷ 0x0108 ∷ []) ∷ [])
      ≡ 2 ∷ 1 ∷ 1 ∷ 0 ∷ 0 ∷ []
  -- the grid of a settled table
  pub read : read_off 3 (table_of 3 (20 ∷ 2 ∷ 24 ∷ 2 ∷ 20 ∷ 40 ∷ 36 ∷ 40 ∷ 2 ∷ [])) ≡ 255 ∷ 1 ∷ 255 ∷ 1 ∷ 255 ∷ 255 ∷ 255 ∷ 255 ∷ 1 ∷ []

pub facts : TableFacts
unfolding
    span sum all any count in_front ways keep join
    digits lawful until_black inside line_sum meets keeps_line cell row column line lines target keeps rejects grids
    subsets mask_of printed_before printed subsets_with sort insert from_starts insides outsides arrangements three
    places first_black half every_value own fits left bit_of has_bit table_of place allows
    struck strikes taken marked marked_all lays lies opening first read_cell read_off candidates_shown
facts = record { arrangements_3 = refl; arrangements_9 = refl; arrangements_most = refl; printed_order = refl; subsets_order = refl; opened = refl; taken_digit = refl; taken_left = refl; taken_lower = refl; left_after = refl; read = refl }
