-- The checks that a call makes of its input, and the refusal that it answers. Assumes nothing.
use Rattle.std.specs.Prelude.{⊤, ℕ, ◌-◌, ◌*◌, ◌/◌, Bool, not, ◌&&◌, ◌||◌, cond, List, [], ◌∷◌, ◌++◌, map, eqb, ltb, leb, length, Result, Ok, Err}
use Rattle.tally.specs.Tally.{all, join}
use Rattle.refusal.specs.Number.{number_of}
use Rattle.refusal.specs.declared.Refusal.{Refusal}
use Rattle.refusal.specs.declared.Refusal.TheVariants.{Size, TargetLengths, Target, MarkSpare, MarkPlace, MarkValue, CellsLength, Blacks, EmptyCell, Sum, SizeLimit, ListLimit}
use Rattle.units.specs.declared.Unit.{Unit}
use Rattle.units.specs.Limits.{takes_size, takes_list}
use Rattle.rules.specs.Grid.{two_blacks, inside, line_sum, Puzzle, line, lines}
use Rattle.rules.specs.Mark.{mark_row, mark_column, mark_value, mark_spare}

-- A check: what refuses, and whether the input passes.
pub data Check : Type 0 where
  check : Refusal → Bool → Check

-- The answer to the checks: the first that fails refuses.
unfoldable pub checked : List Check → Result ⊤ Refusal
checked [] = Ok tt
checked (check k ok ∷ cs) = cond ok (checked cs) (Err k)

-- The answer of a call that gives a value where nothing is refused.
abbrev pub answered : {A : Type 0} → Result ⊤ Refusal → A → Result A Refusal
answered (Ok _) a = Ok a
answered (Err k) a = Err k

-- The refusal by its number: that of the first check that fails, or 0.
unfoldable pub refusal : List Check → ℕ
refusal cs = number_of (checked cs)

-- ---- the checks, by their numbers

-- 1: the size is 2 to 9.
abbrev pub check_size : ℕ → Check
check_size n = check Size (leb 2 n && leb n 9)

-- 2: both target slices, by their lengths, are n long.
abbrev pub check_lengths : ℕ → ℕ → ℕ → Check
check_lengths n rows columns = check TargetLengths (eqb rows n && eqb columns n)

-- The greatest target: the sum of all digits.
unfoldable pub max_target : ℕ → ℕ
max_target n = (n - 2) * (n - 1) / 2

-- A value that a mark may name at size n: a digit, or one of the four blacks.
unfoldable pub named : ℕ → ℕ → Bool
named n v = leb 1 v && leb v (n - 2) || leb 8 v && leb v 11

-- 4, 5, 6: the spare bits of a mark are zero, its cell lies in the grid, its value is named.
abbrev pub check_mark : ℕ → ℕ → List Check
check_mark n m =
    check MarkSpare (eqb (mark_spare m) 0) ∷ check MarkPlace (ltb (mark_row m) n && ltb (mark_column m) n) ∷ check MarkValue (named n (mark_value m)) ∷ []

-- 7: the cell or table buffer, by its length, is n * n long.
abbrev pub check_buffer : ℕ → ℕ → Check
check_buffer n len = check CellsLength (eqb len (n * n))

-- 8, 9, 10: a line has exactly two blacks, only numbers between them, and a sum of at most 255.
abbrev pub check_line : List ℕ → List Check
check_line l =
    check Blacks (two_blacks l) ∷ check EmptyCell (all (λ c. not (eqb c 0)) (inside l)) ∷ check Sum (leb (line_sum l) 255) ∷ []

-- 18, 19: the unit takes the size; it takes a list of this many marks.
abbrev pub check_unit_size : Unit → ℕ → Check
check_unit_size u n = check SizeLimit (takes_size u n)

abbrev pub check_unit_list : Unit → ℕ → Check
check_unit_list u marks = check ListLimit (takes_list u marks)

-- ---- the checks of each call in a unit, in its order

-- The puzzle: 1, 18, 2, and 3: each target is at most the greatest.
abbrev pub puzzle_checks : Unit → Puzzle → List Check
puzzle_checks u p =
    check_size p.size
    ∷ check_unit_size u p.size
    ∷ check_lengths p.size (length p.rows) (length p.columns)
    ∷ check Target (all (λ t. leb t (max_target p.size)) p.rows && all (λ t. leb t (max_target p.size)) p.columns)
    ∷ []

-- Count: 1, 18, 2, 3, 19, then 4, 5, 6 mark by mark.
unfoldable pub count_checks : Unit → Puzzle → List ℕ → List Check
count_checks u p ms = puzzle_checks u p ++ check_unit_list u (length ms) ∷ join (map (check_mark p.size) ms)

-- Solve and Candidates: those of Count, then 7.
unfoldable pub solve_checks : Unit → Puzzle → List ℕ → ℕ → List Check
solve_checks u p ms len = count_checks u p ms ++ check_buffer p.size len ∷ []

-- Marking a sheet of cells: 1, 18, 2, 3, 7.
unfoldable pub sheet_checks : Unit → Puzzle → List ℕ → List Check
sheet_checks u p cells = puzzle_checks u p ++ check_buffer p.size (length cells) ∷ []

-- Target sums: 1, 18, 7, 2, then 8, 9, 10 line by line, the rows first. Of the target slices only the lengths count.
unfoldable pub sums_checks : Unit → ℕ → List ℕ → ℕ → ℕ → List Check
sums_checks u n cells rows columns =
    (check_size n ∷ check_unit_size u n ∷ check_buffer n (length cells) ∷ check_lengths n rows columns ∷ []) ++ join (map (λ ℓ. check_line (line n cells ℓ)) (lines n))
