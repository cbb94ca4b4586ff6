-- The sample sheets: one list of facts about the definitions, proved together. Assumes nothing.
use Prim.Native.Nat.{ℕ}
use mathlib.Core.Path.{◌≡◌, refl}
use mathlib.Core.Bool.{Bool, true, false}
use mathlib.Core.List.{List, [], ◌∷◌, map}
use lib.Dec.{eqb}
use Rattle.tally.specs.Tally.{span, sum, all, count, in_front, ways, keep, join}
use Rattle.units.specs.Limits.{hall}
use Rattle.rules.specs.Grid.{digits, lawful, until_black, inside, line_sum, meets, keeps_line, cell, row, column, line, lines, lawful_grid, Puzzle, target, keeps}
use Rattle.rules.specs.Mark.{rejects, mark_row, mark_column, mark_value, mark_spare, black_with, has, keeps_mark, marks_of}
use Rattle.rules.specs.Number.{grids, solves, number, capped}
use Rattle.rules.specs.Check.{checked, refusal, max_target, named, check_line, count_checks, solve_checks, sheet_checks, sums_checks}
use Rattle.rules.specs.Sums.{target_sums}
use Rattle.rules.proofs.SizeFour.{threes, threes_none}

-- ---- counts

-- A puzzle, marks and a cap, and the count that they give.
pub record Sample : Type 0 where
  pub puzzle : Puzzle
  pub marks : List ℕ
  pub cap : ℕ
  pub gives : ℕ

-- The definition gives that count.
unfoldable pub right : Sample → Bool
right s = eqb (capped s.cap s.puzzle s.marks) s.gives

unfoldable pub two : ℕ → ℕ → ℕ → ℕ → Puzzle
two a b c d = record { size = 2; rows = a ∷ b ∷ []; columns = c ∷ d ∷ [] }

unfoldable pub three : ℕ → ℕ → ℕ → ℕ → ℕ → ℕ → Puzzle
three a b c d e f = record { size = 3; rows = a ∷ b ∷ c ∷ []; columns = d ∷ e ∷ f ∷ [] }

unfoldable pub sample : Puzzle → List ℕ → ℕ → ℕ → Sample
sample p ms cap k = record { puzzle = p; marks = ms; cap = cap; gives = k }

unfoldable pub samples : List Sample
samples =
    sample (two 0 0 0 0) [] 9 1
    ∷ sample (three 1 0 0 1 0 0) [] 2 1
    ∷ sample (three 0 1 0 0 1 0) [] 0 0
    ∷ sample (three 0 1 0 0 1 0) [] 1 1
    ∷ sample (three 0 1 0 0 1 0) [] 2 2
    ∷ sample (three 0 1 0 0 1 0) [] 3 2
    ∷ sample (three 0 1 0 0 1 0) (0x0008 ∷ []) 2 1
    ∷ sample (three 0 1 0 0 1 0) (0x8008 ∷ []) 2 1
    ∷ sample (three 0 1 0 0 1 0) (0x0008 ∷ 0x0008 ∷ []) 2 1
    ∷ sample (three 0 1 0 0 1 0) (0x0008 ∷ 0x8008 ∷ []) 2 0
    ∷ sample (three 0 1 0 0 1 0) (0x0008 ∷ 0x0108 ∷ []) 2 0
    ∷ sample (three 1 1 0 0 1 0) [] 9 0
    ∷ []

-- ---- grids and cells

-- 1##/#1#/##1
abbrev pub diagonal : List ℕ
diagonal = 1 ∷ 255 ∷ 255 ∷ 255 ∷ 1 ∷ 255 ∷ 255 ∷ 255 ∷ 1 ∷ []

-- #1#/1##/##1
abbrev pub corner : List ℕ
corner = 255 ∷ 1 ∷ 255 ∷ 1 ∷ 255 ∷ 255 ∷ 255 ∷ 255 ∷ 1 ∷ []

abbrev pub zeros : List ℕ
zeros = 0 ∷ 0 ∷ 0 ∷ []

abbrev pub hundred : List ℕ
hundred = 1 ∷ 0 ∷ 0 ∷ []

abbrev pub eight : List ℕ
eight = 0 ∷ 0 ∷ 0 ∷ 0 ∷ 0 ∷ 0 ∷ 0 ∷ 0 ∷ []

abbrev pub ring : List ℕ
ring = 3 ∷ 0 ∷ 0 ∷ 3 ∷ []

-- #11#/2##2/2##2/#11#
abbrev pub repeating : List ℕ
repeating = 255 ∷ 1 ∷ 1 ∷ 255 ∷ 2 ∷ 255 ∷ 255 ∷ 2 ∷ 2 ∷ 255 ∷ 255 ∷ 2 ∷ 255 ∷ 1 ∷ 1 ∷ 255 ∷ []

-- ---- the list

pub record SampleFacts : Type 0 where
  -- Size 2 has one grid, all black; the target 1 is refused by 3, wherever it stands.
  pub size_2 : keep (solves (two 0 0 0 0) []) (grids 2) ≡ (255 ∷ 255 ∷ 255 ∷ 255 ∷ []) ∷ []
  pub size_2_refused : map (λ p. refusal (count_checks hall p [])) (two 0 0 0 0 ∷ two 1 0 0 0 ∷ two 0 1 0 0 ∷ two 0 0 1 0 ∷ two 0 0 0 1 ∷ []) ≡ 0 ∷ 3 ∷ 3 ∷ 3 ∷ 3 ∷ []
  -- Size 3 has six grids over all targets.
  pub size_3 : count (lawful_grid 3) (grids 3) ≡ 6
  -- The counts above.
  pub counts : all right samples ≡ true
  -- Size 4, rows all 3: none, for all columns and all marks.
  pub size_4 : (columns marks : List ℕ) → number (threes columns) marks ≡ 0
  -- Lines of size 4: two blacks, and each digit once; the sum is that between the blacks, 0 if they touch.
  pub lawful_lines : map (lawful 4) ((255 ∷ 2 ∷ 1 ∷ 255 ∷ []) ∷ (1 ∷ 255 ∷ 255 ∷ 2 ∷ []) ∷ (2 ∷ 255 ∷ 2 ∷ 255 ∷ []) ∷ (255 ∷ 1 ∷ 255 ∷ 255 ∷ []) ∷ (1 ∷ 2 ∷ 1 ∷ 255 ∷ []) ∷ []) ≡ true ∷ true ∷ false ∷ false ∷ false ∷ []
  pub line_sums : map line_sum ((255 ∷ 2 ∷ 1 ∷ 255 ∷ []) ∷ (1 ∷ 255 ∷ 255 ∷ 2 ∷ []) ∷ (1 ∷ 255 ∷ 2 ∷ 255 ∷ []) ∷ []) ≡ 3 ∷ 0 ∷ 2 ∷ []
  -- A grid of size 4 that keeps its sums, and one whose sums are right but which repeats digits.
  pub size_4_grid : keeps (record { size = 4; rows = ring; columns = ring }) (255 ∷ 1 ∷ 2 ∷ 255 ∷ 1 ∷ 255 ∷ 255 ∷ 2 ∷ 2 ∷ 255 ∷ 255 ∷ 1 ∷ 255 ∷ 2 ∷ 1 ∷ 255 ∷ []) ≡ true
  -- The example that docs/RULES.md draws.
  pub drawn :
      keeps (record { size = 5; rows = 3 ∷ 4 ∷ 1 ∷ 3 ∷ 3 ∷ []; columns = 0 ∷ 6 ∷ 0 ∷ 5 ∷ 5 ∷ [] })
      (3 ∷ 255 ∷ 2 ∷ 1 ∷ 255 ∷ 255 ∷ 3 ∷ 1 ∷ 255 ∷ 2 ∷ 255 ∷ 1 ∷ 255 ∷ 2 ∷ 3 ∷ 1 ∷ 2 ∷ 255 ∷ 3 ∷ 255 ∷ 2 ∷ 255 ∷ 3 ∷ 255 ∷ 1 ∷ []) ≡ true
  pub size_4_repeats : keeps (record { size = 4; rows = 2 ∷ 0 ∷ 0 ∷ 2 ∷ []; columns = 4 ∷ 0 ∷ 0 ∷ 4 ∷ [] }) repeating ≡ false
  -- Hex 08c0: take row 1, column 1, value 8. At size 3 the value 1 is taken, 2 is not. At size 9 the target 28 is taken, 29 is not.
  pub mark_fields : (rejects 0x08c0 ≡ false) × (mark_row 0x08c0 ≡ 1) × (mark_column 0x08c0 ≡ 1) × (mark_value 0x08c0 ≡ 8) × (mark_spare 0x08c0 ≡ 0) × (rejects 0x88c0 ≡ true)
  pub mark_named : map (λ m. refusal (count_checks hall (three 0 0 0 0 0 0) (m ∷ []))) (0x0008 ∷ 0x0010 ∷ 0x0040 ∷ 0x0058 ∷ 0x0060 ∷ 0x0009 ∷ 0x1808 ∷ 0x0188 ∷ []) ≡ 0 ∷ 6 ∷ 0 ∷ 0 ∷ 6 ∷ 4 ∷ 5 ∷ 5 ∷ []
  pub targets_9 :
      map (λ t. refusal (count_checks hall (record { size = 9; rows = t ∷ eight; columns = t ∷ eight }) [])) (28 ∷ 29 ∷ []) ≡ 0 ∷ 3 ∷ []
  pub max_targets : map max_target (span 2 8) ≡ 0 ∷ 1 ∷ 3 ∷ 6 ∷ 10 ∷ 15 ∷ 21 ∷ 28 ∷ []
  -- The blacks' values 8 to 11 at three cells of 1##/#1#/##1.
  pub blacks_top : map (has 3 diagonal 0 1) (8 ∷ 9 ∷ 10 ∷ 11 ∷ []) ≡ true ∷ false ∷ true ∷ false ∷ []
  pub blacks_bottom : map (has 3 diagonal 2 1) (8 ∷ 9 ∷ 10 ∷ 11 ∷ []) ≡ false ∷ true ∷ false ∷ true ∷ []
  pub blacks_corner : map (has 3 diagonal 2 0) (8 ∷ 9 ∷ 10 ∷ 11 ∷ []) ≡ true ∷ false ∷ false ∷ true ∷ []
  -- Marks in bytes; half a mark is refused by 4.
  pub marks_in_bytes : marks_of (0x08 ∷ 0xc0 ∷ 0x80 ∷ 0x08 ∷ []) ≡ 0x08c0 ∷ 0x8008 ∷ []
  pub half_a_mark : refusal (count_checks hall (three 0 0 0 0 0 0) (marks_of (0x00 ∷ 0x08 ∷ 0x00 ∷ []))) ≡ 4
  -- The order of the refusals.
  pub size_first : refusal (solve_checks hall (record { size = 10; rows = []; columns = [] }) (1 ∷ []) 0) ≡ 1
  pub lengths_next : refusal (solve_checks hall (record { size = 3; rows = 9 ∷ []; columns = zeros }) (1 ∷ []) 0) ≡ 2
  pub targets_next : refusal (solve_checks hall (three 0 0 0 0 0 2) (1 ∷ []) 0) ≡ 3
  pub marks_next : refusal (solve_checks hall (three 0 0 0 0 0 0) (0x0008 ∷ 0x0009 ∷ []) 0) ≡ 4
  pub buffer_last : map (refusal) (solve_checks hall (three 0 0 0 0 0 0) (0x0008 ∷ []) 8 ∷ solve_checks hall (three 0 0 0 0 0 0) (0x0008 ∷ []) 9 ∷ []) ≡ 7 ∷ 0 ∷ []
  pub sheet_buffer : map (λ g. refusal (sheet_checks hall (three 0 0 0 0 0 0) g)) (zeros ∷ corner ∷ []) ≡ 7 ∷ 0 ∷ []
  -- Target sums.
  pub sums : target_sums hall 3 corner zeros zeros ≡ (0, hundred, hundred)
  pub sums_short : target_sums hall 3 corner zeros [] ≡ (2, zeros, [])
  pub sums_cells_first : target_sums hall 4 corner zeros [] ≡ (7, zeros, [])
  pub sums_size_first : target_sums hall 10 corner zeros [] ≡ (1, zeros, [])
  pub one_black : refusal (check_line (255 ∷ 1 ∷ 2 ∷ [])) ≡ 8
  pub three_blacks : refusal (check_line (255 ∷ 255 ∷ 255 ∷ [])) ≡ 8
  -- a line with the faults of 9 and of 10 gives 9
  pub both_faults : refusal (check_line (255 ∷ 200 ∷ 0 ∷ 200 ∷ 255 ∷ [])) ≡ 9
  pub too_much : refusal (check_line (255 ∷ 128 ∷ 128 ∷ 255 ∷ [])) ≡ 10
  pub just_fits : refusal (check_line (255 ∷ 128 ∷ 127 ∷ 255 ∷ [])) ≡ 0
  -- nothing is asked of the cells outside the blacks
  pub outside_free : refusal (check_line (0 ∷ 254 ∷ 255 ∷ 255 ∷ 0 ∷ [])) ≡ 0
  -- a repeated digit is not looked at
  pub sums_repeats : target_sums hall 4 repeating ring ring ≡ (0, 2 ∷ 0 ∷ 0 ∷ 2 ∷ [], 4 ∷ 0 ∷ 0 ∷ 4 ∷ [])

pub facts : SampleFacts
unfolding
    span sum all count in_front ways keep join
    digits lawful until_black inside line_sum meets keeps_line
    cell row column line lines lawful_grid target keeps
    rejects black_with has keeps_mark marks_of
    grids solves number capped
    refusal checked max_target named count_checks solve_checks sheet_checks sums_checks
    target_sums
    right two three sample samples
facts =
    record {
      size_2 = refl;
      size_2_refused = refl;
      size_3 = refl;
      counts = refl;
      size_4 = threes_none;
      lawful_lines = refl;
      line_sums = refl;
      size_4_grid = refl;
      drawn = refl;
      size_4_repeats = refl;
      mark_fields = (refl, refl, refl, refl, refl, refl);
      mark_named = refl;
      targets_9 = refl;
      max_targets = refl;
      blacks_top = refl;
      blacks_bottom = refl;
      blacks_corner = refl;
      marks_in_bytes = refl;
      half_a_mark = refl;
      size_first = refl;
      lengths_next = refl;
      targets_next = refl;
      marks_next = refl;
      buffer_last = refl;
      sheet_buffer = refl;
      sums = refl;
      sums_short = refl;
      sums_cells_first = refl;
      sums_size_first = refl;
      one_black = refl;
      three_blacks = refl;
      both_faults = refl;
      too_much = refl;
      just_fits = refl;
      outside_free = refl;
      sums_repeats = refl;
    }
