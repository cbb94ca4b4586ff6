-- Facts about the definitions, by computation. Assumes nothing.
use Rattle.std.specs.Fmt.{decimal}
use Rattle.std.specs.Fmt.{digits as decimal_digits}
use Prim.Native.Nat.{ℕ, ◌+◌}
use mathlib.Core.Path.{◌≡◌, refl}
use mathlib.Core.Bool.{Bool, true, ◌&&◌}
use mathlib.Core.List.{List, [], ◌∷◌, ◌++◌}
use lib.Dec.{eqb}
use lib.ListN.{replicate}
use Rattle.tally.specs.Tally.{span, all, sum, count, in_front, ways}
use Rattle.rules.specs.Grid.{digits, lawful, until_black, inside, line_sum, meets, keeps_line, cell, row, column, line, lines, target, keeps}
use Rattle.rules.specs.Number.{grids, solves, number, verdict_of}
use Rattle.rules.specs.Check.{checked, refusal, max_target}
use Rattle.rules.proofs.Samples.{diagonal, corner}
use Rattle.text_rules.specs.Fields.{in_first, fields, is_digit, value_from, value, shaped, is_decimal, well_formed, numbers, puzzle_from, line_puzzle, number_checks, line_checks}
use Rattle.text_rules.specs.Text.{cell_text, joined, grid_text, answer_text}

-- The text of a line, with the grid that it shows.
unfoldable pub sample_text : List ℕ → List ℕ → List ℕ
sample_text l g = answer_text (refusal (line_checks l)) (verdict_of (number (line_puzzle l) [])) (line_puzzle l).size g

-- A line of numbers below 10.
unfoldable pub spaced : List ℕ → List ℕ
spaced [] = []
spaced (d ∷ []) = (48 + d) ∷ []
spaced (d ∷ (e ∷ ds)) = (48 + d) ∷ 32 ∷ spaced (e ∷ ds)

-- ---- the four lines of docs/sample-sheets.txt

-- 3 1 0 0 1 0 0: unique #1#/1##/##1
pub sample_one : sample_text (spaced (3 ∷ 1 ∷ 0 ∷ 0 ∷ 1 ∷ 0 ∷ 0 ∷ [])) corner ≡ 117 ∷ 110 ∷ 105 ∷ 113 ∷ 117 ∷ 101 ∷ 32 ∷ 35 ∷ 49 ∷ 35 ∷ 47 ∷ 49 ∷ 35 ∷ 35 ∷ 47 ∷ 35 ∷ 35 ∷ 49 ∷ []
unfolding sample_text spaced in_first fields is_digit value_from shaped is_decimal well_formed numbers puzzle_from number_checks line_checks decimal_digits cell_text joined grid_text answer_text span all sum count in_front ways digits lawful until_black inside line_sum meets keeps_line cell row column line lines target keeps grids solves number verdict_of refusal checked max_target
sample_one = refl

-- 3 0 1 0 0 1 0: multiple 1##/#1#/##1
pub sample_several : sample_text (spaced (3 ∷ 0 ∷ 1 ∷ 0 ∷ 0 ∷ 1 ∷ 0 ∷ [])) diagonal ≡ 109 ∷ 117 ∷ 108 ∷ 116 ∷ 105 ∷ 112 ∷ 108 ∷ 101 ∷ 32 ∷ 49 ∷ 35 ∷ 35 ∷ 47 ∷ 35 ∷ 49 ∷ 35 ∷ 47 ∷ 35 ∷ 35 ∷ 49 ∷ []
unfolding sample_text spaced in_first fields is_digit value_from shaped is_decimal well_formed numbers puzzle_from number_checks line_checks decimal_digits cell_text joined grid_text answer_text span all sum count in_front ways digits lawful until_black inside line_sum meets keeps_line cell row column line lines target keeps grids solves number verdict_of refusal checked max_target
sample_several = refl

-- 3 1 1 0 0 1 0: unsolvable
pub sample_none : sample_text (spaced (3 ∷ 1 ∷ 1 ∷ 0 ∷ 0 ∷ 1 ∷ 0 ∷ [])) [] ≡ 117 ∷ 110 ∷ 115 ∷ 111 ∷ 108 ∷ 118 ∷ 97 ∷ 98 ∷ 108 ∷ 101 ∷ []
unfolding sample_text spaced in_first fields is_digit value_from shaped is_decimal well_formed numbers puzzle_from number_checks line_checks decimal_digits cell_text joined grid_text answer_text span all sum count in_front ways digits lawful until_black inside line_sum meets keeps_line cell row column line lines target keeps grids solves number verdict_of refusal checked max_target
sample_none = refl

-- 3 2 0 0 0 0 0: refused 3
pub sample_too_great : sample_text (spaced (3 ∷ 2 ∷ 0 ∷ 0 ∷ 0 ∷ 0 ∷ 0 ∷ [])) [] ≡ 114 ∷ 101 ∷ 102 ∷ 117 ∷ 115 ∷ 101 ∷ 100 ∷ 32 ∷ 51 ∷ []
unfolding sample_text spaced in_first fields is_digit value_from shaped is_decimal well_formed numbers puzzle_from number_checks line_checks decimal_digits cell_text joined grid_text answer_text span all sum count in_front ways digits lawful until_black inside line_sum meets keeps_line cell row column line lines target keeps grids solves number verdict_of refusal checked max_target
sample_too_great = refl

-- ---- refusals

-- The number that a line is refused by.
unfoldable pub refused_by : List ℕ → ℕ
refused_by l = refusal (line_checks l)

-- an empty line
pub refused_empty : refused_by [] ≡ 11
unfolding refused_by in_first fields is_digit value_from shaped is_decimal well_formed numbers puzzle_from number_checks line_checks all refusal checked max_target
refused_empty = refl

-- 2 00 0 0 0
pub refused_zero_led : refused_by (50 ∷ 32 ∷ 48 ∷ 48 ∷ 32 ∷ 48 ∷ 32 ∷ 48 ∷ 32 ∷ 48 ∷ []) ≡ 11
unfolding refused_by in_first fields is_digit value_from shaped is_decimal well_formed numbers puzzle_from number_checks line_checks all refusal checked max_target
refused_zero_led = refl

-- 2  0 0 0 0
pub refused_two_spaces : refused_by (50 ∷ 32 ∷ 32 ∷ 48 ∷ 32 ∷ 48 ∷ 32 ∷ 48 ∷ 32 ∷ 48 ∷ []) ≡ 11
unfolding refused_by in_first fields is_digit value_from shaped is_decimal well_formed numbers puzzle_from number_checks line_checks all refusal checked max_target
refused_two_spaces = refl

-- a space in front
pub refused_space_first : refused_by (32 ∷ 50 ∷ 32 ∷ 48 ∷ 32 ∷ 48 ∷ 32 ∷ 48 ∷ 32 ∷ 48 ∷ []) ≡ 11
unfolding refused_by in_first fields is_digit value_from shaped is_decimal well_formed numbers puzzle_from number_checks line_checks all refusal checked max_target
refused_space_first = refl

-- a space behind
pub refused_space_last : refused_by (50 ∷ 32 ∷ 48 ∷ 32 ∷ 48 ∷ 32 ∷ 48 ∷ 32 ∷ 48 ∷ 32 ∷ []) ≡ 11
unfolding refused_by in_first fields is_digit value_from shaped is_decimal well_formed numbers puzzle_from number_checks line_checks all refusal checked max_target
refused_space_last = refl

-- 256
pub refused_too_large : refused_by (50 ∷ 53 ∷ 54 ∷ []) ≡ 11
unfolding refused_by in_first fields is_digit value_from shaped is_decimal well_formed numbers puzzle_from number_checks line_checks all refusal checked max_target
refused_too_large = refl

-- 255
pub refused_largest : refused_by (50 ∷ 53 ∷ 53 ∷ []) ≡ 1
unfolding refused_by in_first fields is_digit value_from shaped is_decimal well_formed numbers puzzle_from number_checks line_checks all refusal checked max_target
refused_largest = refl

-- 2 0 0 0
pub refused_too_few : refused_by (50 ∷ 32 ∷ 48 ∷ 32 ∷ 48 ∷ 32 ∷ 48 ∷ []) ≡ 2
unfolding refused_by in_first fields is_digit value_from shaped is_decimal well_formed numbers puzzle_from number_checks line_checks all refusal checked max_target
refused_too_few = refl

-- 10 0
pub refused_size_first : refused_by (49 ∷ 48 ∷ 32 ∷ 48 ∷ []) ≡ 1
unfolding refused_by in_first fields is_digit value_from shaped is_decimal well_formed numbers puzzle_from number_checks line_checks all refusal checked max_target
refused_size_first = refl

-- 2 0 0 0 0
pub refused_accepted : refused_by (50 ∷ 32 ∷ 48 ∷ 32 ∷ 48 ∷ 32 ∷ 48 ∷ 32 ∷ 48 ∷ []) ≡ 0
unfolding refused_by in_first fields is_digit value_from shaped is_decimal well_formed numbers puzzle_from number_checks line_checks all refusal checked max_target
refused_accepted = refl

-- 80 bytes, 40 numbers: too many targets, and not too long
pub refused_eighty : refused_by (spaced (9 ∷ replicate 38 0) ++ 32 ∷ 49 ∷ 48 ∷ []) ≡ 2
unfolding spaced refused_by in_first fields is_digit value_from shaped is_decimal well_formed numbers puzzle_from number_checks line_checks all refusal checked max_target
refused_eighty = refl

-- 81 bytes
pub refused_eighty_one : refused_by (spaced (9 ∷ replicate 40 0)) ≡ 11
unfolding spaced refused_by in_first fields is_digit value_from shaped is_decimal well_formed numbers puzzle_from number_checks line_checks all refusal checked max_target
refused_eighty_one = refl

-- ---- a number that is written is the decimal that is read

unfoldable pub reads_back : ℕ → Bool
reads_back k = is_decimal (decimal k) && eqb (value (decimal k)) k

pub reads_back_lem : all reads_back (span 0 100) ≡ true
unfolding reads_back decimal_digits is_decimal is_digit shaped value_from all span
reads_back_lem = refl
