-- Sheets of one puzzle of size 4 and their answers. Assumes nothing.
use Prim.Native.Nat.{ℕ}
use mathlib.Core.Path.{◌≡◌, refl}
use mathlib.Core.Bool.{true}
use mathlib.Core.List.{List, [], ◌∷◌, ◌++◌, map}
use Rattle.tally.specs.Tally.{span, sum, all, count, join}
use Rattle.units.specs.Limits.{hall}
use Rattle.rules.specs.Grid.{digits, lawful, until_black, inside, line_sum, meets, keeps_line, cell, row, column, line, lines, Puzzle, target, keeps}
use Rattle.rules.specs.Check.{checked, refusal, max_target, sheet_checks, sums_checks}
use Rattle.rules.specs.Sums.{target_sums}
use Rattle.std.specs.Prelude.{Ok, Err, true, false}
use Rattle.refusal.specs.declared.Refusal.TheVariants.{CellsLength}
use Rattle.sheet_marking.specs.Answer.{mark_sheet}

abbrev rows : List ℕ
rows = 0 ∷ 2 ∷ 0 ∷ 2 ∷ []

abbrev columns : List ℕ
columns = 0 ∷ 0 ∷ 3 ∷ 0 ∷ []

abbrev puzzle : Puzzle
puzzle = record { size = 4; rows = rows; columns = columns }

abbrev blank : List ℕ
blank = 9 ∷ 9 ∷ 9 ∷ 9 ∷ []

-- two first rows, over ##12/#2#1
abbrev sheet : List ℕ → List ℕ
sheet above = above ++ 255 ∷ 255 ∷ 1 ∷ 2 ∷ 255 ∷ 2 ∷ 255 ∷ 1 ∷ []

-- 21##/1#2#
abbrev key : List ℕ
key = sheet (2 ∷ 1 ∷ 255 ∷ 255 ∷ 1 ∷ 255 ∷ 2 ∷ 255 ∷ [])

-- 12##/2#2#, as it was reported: the second row has 2 twice
abbrev reported : List ℕ
reported = sheet (1 ∷ 2 ∷ 255 ∷ 255 ∷ 2 ∷ 255 ∷ 2 ∷ 255 ∷ [])

-- 12##/1#2#: each row is lawful, the first column has 1 twice
abbrev in_column : List ℕ
in_column = sheet (1 ∷ 2 ∷ 255 ∷ 255 ∷ 1 ∷ 255 ∷ 2 ∷ 255 ∷ [])

-- the key with another byte in its first cell
abbrev with_first : ℕ → List ℕ
with_first c = sheet (c ∷ 1 ∷ 255 ∷ 255 ∷ 1 ∷ 255 ∷ 2 ∷ 255 ∷ [])

record SheetFacts : Type 0 where
  key_right : mark_sheet hall puzzle key ≡ Ok true
  -- a repeated digit is wrong, in a row and in a column, though the sums are those of the key
  reported_wrong : mark_sheet hall puzzle reported ≡ Ok false
  reported_sums : target_sums hall 4 reported blank blank ≡ (0, rows, columns)
  column_wrong : mark_sheet hall puzzle in_column ≡ Ok false
  column_sums : target_sums hall 4 in_column blank blank ≡ (0, rows, columns)
  column_rows : all (λ r. lawful 4 (row 4 in_column r)) (span 0 4) ≡ true
  -- an empty cell, a digit that size 4 does not have, any other byte, a third black: wrong, not refused
  others_wrong : map (λ c. mark_sheet hall puzzle (with_first c)) (0 ∷ 3 ∷ 254 ∷ 255 ∷ []) ≡ Ok false ∷ Ok false ∷ Ok false ∷ Ok false ∷ []
  -- another sum
  sum_wrong : mark_sheet hall (record { size = 4; rows = rows; columns = 0 ∷ 0 ∷ 2 ∷ 0 ∷ [] }) key ≡ Ok false
  short_refused : mark_sheet hall puzzle blank ≡ Err CellsLength

facts : SheetFacts
unfolding
    span sum all count join
    digits lawful until_black inside line_sum meets keeps_line
    cell row column line lines target keeps
    checked refusal max_target sheet_checks sums_checks
    target_sums mark_sheet
facts =
    record {
      key_right = refl;
      reported_wrong = refl;
      reported_sums = refl;
      column_wrong = refl;
      column_sums = refl;
      column_rows = refl;
      others_wrong = refl;
      sum_wrong = refl;
      short_refused = refl;
    }
