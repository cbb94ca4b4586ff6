-- What the classrooms refuse: facts computed from the definitions. Assumes nothing.
use Prim.Native.Nat.{ℕ}
use mathlib.Core.Path.{◌≡◌, refl}
use mathlib.Core.List.{List, [], ◌∷◌, ◌++◌, map}
use Rattle.tally.specs.Tally.{span, sum, all, count, join}
use Rattle.units.specs.declared.Unit.{Unit}
use Rattle.units.specs.Limits.{hall, classroom, list_limit}
use Rattle.rules.specs.Grid.{until_black, inside, line_sum, cell, row, column, line, lines, Puzzle, puzzle}
use Rattle.rules.specs.Mark.{marks_of}
use Rattle.rules.specs.Check.{checked, refusal, max_target, named, count_checks, solve_checks, sheet_checks, sums_checks}
use Rattle.rules.specs.Sums.{target_sums}

-- a list of k times x
abbrev copies : ℕ → ℕ → List ℕ
copies k x = map (λ i. x) (span 0 k)

-- a puzzle of size n, all targets t
abbrev even : ℕ → ℕ → Puzzle
even n t = puzzle n (copies n t) (copies n t)

-- the refusal of Count for sizes 0 to 11, all targets t
abbrev sizes : Unit → ℕ → List ℕ
sizes u t = map (λ n. refusal (count_checks u (even n t) [])) (span 0 12)

-- the refusal of Solve at size 3 for k marks of which the last is m, with a cell buffer of this length
abbrev lists : Unit → ℕ → ℕ → ℕ → ℕ
lists u k m len = refusal (solve_checks u (even 3 0) (copies k 0x0008 ++ m ∷ []) len)

record UnitFacts : Type 0 where
  -- each size with no fault, and with targets that are too great: 18 right behind 1
  hall_sizes : sizes hall 0 ≡ 1 ∷ 1 ∷ 0 ∷ 0 ∷ 0 ∷ 0 ∷ 0 ∷ 0 ∷ 0 ∷ 0 ∷ 1 ∷ 1 ∷ []
  classroom_sizes : sizes classroom 0 ≡ 1 ∷ 1 ∷ 0 ∷ 0 ∷ 0 ∷ 0 ∷ 0 ∷ 18 ∷ 18 ∷ 18 ∷ 1 ∷ 1 ∷ []
  classroom_targets : sizes classroom 29 ≡ 1 ∷ 1 ∷ 3 ∷ 3 ∷ 3 ∷ 3 ∷ 3 ∷ 18 ∷ 18 ∷ 18 ∷ 1 ∷ 1 ∷ []
  -- marking, and target sums: 18 before 7 and 2
  classroom_sheets : map (λ n. refusal (sheet_checks classroom (puzzle n [] []) [])) (6 ∷ 7 ∷ 10 ∷ []) ≡ 2 ∷ 18 ∷ 1 ∷ []
  classroom_sums : map (λ n. target_sums classroom n [] [] (5 ∷ [])) (6 ∷ 7 ∷ 10 ∷ []) ≡ (7, [], 5 ∷ []) ∷ (18, [], 5 ∷ []) ∷ (1, [], 5 ∷ []) ∷ []
  -- 39, 40 and 41 marks; then with a fault in the last mark, and with a cell buffer of another length
  hall_lists : map (λ k. lists hall k 0x0008 9) (38 ∷ 39 ∷ 40 ∷ []) ≡ 0 ∷ 0 ∷ 0 ∷ []
  classroom_lists : map (λ k. lists classroom k 0x0008 9) (38 ∷ 39 ∷ 40 ∷ []) ≡ 0 ∷ 0 ∷ 19 ∷ []
  hall_marks : map (λ k. lists hall k 0x0009 0) (39 ∷ 40 ∷ []) ≡ 4 ∷ 4 ∷ []
  classroom_marks : map (λ k. lists classroom k 0x0009 0) (39 ∷ 40 ∷ []) ≡ 4 ∷ 19 ∷ []
  classroom_buffer : map (λ k. lists classroom k 0x0008 0) (39 ∷ 40 ∷ []) ≡ 7 ∷ 19 ∷ []
  -- a puzzle that is refused by 3 is not asked for its list
  classroom_order : refusal (count_checks classroom (even 3 2) (copies 41 0)) ≡ 3
  -- half a mark counts: 81 bytes are 41 marks
  classroom_bytes : map (λ k. refusal (count_checks classroom (even 3 0) (marks_of (copies k 0)))) (80 ∷ 81 ∷ []) ≡ 6 ∷ 19 ∷ []
  -- the limits as numbers
  limits : map (λ (u : Unit). u.greatest) (hall ∷ classroom ∷ []) ≡ 9 ∷ 6 ∷ []
  list_limits : map list_limit (hall ∷ classroom ∷ []) ≡ 18446744073709551615 ∷ 40 ∷ []

facts : UnitFacts
unfolding
    span sum all count join until_black inside line_sum cell row column line lines
    marks_of refusal checked max_target named count_checks solve_checks sheet_checks sums_checks target_sums
facts =
    record {
      hall_sizes = refl;
      classroom_sizes = refl;
      classroom_targets = refl;
      classroom_sheets = refl;
      classroom_sums = refl;
      hall_lists = refl;
      classroom_lists = refl;
      hall_marks = refl;
      classroom_marks = refl;
      classroom_buffer = refl;
      classroom_order = refl;
      classroom_bytes = refl;
      limits = refl;
      list_limits = refl;
    }
