-- The answers of Count and of Solve, by their cases, and the grid that Solve writes. Assumes nothing.
use Rattle.std.specs.Prelude.{ℕ, zero, suc, cond, eqb, List, length, Result}
use Rattle.refusal.specs.declared.Refusal.{Refusal}
use Rattle.units.specs.declared.Unit.{Unit}
use Rattle.rules.specs.Grid.{Puzzle}
use Rattle.rules.specs.Check.{checked, answered, refusal, count_checks, solve_checks}
use Rattle.rules.specs.Number.{number, capped}
use Rattle.rules.specs.Order.{found, first_or}
use Rattle.engine.specs.declared.Verdict.{Verdict}
use Rattle.engine.specs.declared.Verdict.TheVariants.{Unsolvable, Unique, Multiple}

-- ---- Count

-- The answer of Count in a unit: what the puzzle or its marks are refused by, else the count under the cap.
abbrev pub count_answer : Unit → Puzzle → List ℕ → ℕ → Result ℕ Refusal
count_answer u p ms cap = answered (checked (count_checks u p ms)) (capped cap p ms)

-- ---- Solve

-- The verdict on a number of grids: that there is none, one, or more.
abbrev pub verdict_on : ℕ → Verdict
verdict_on zero = Unsolvable
verdict_on (suc zero) = Unique
verdict_on (suc (suc more)) = Multiple

-- The answer of Solve in a unit: what the puzzle, its marks or a cell buffer of this length are refused by, else the verdict on the number of grids.
abbrev pub solve_answer : Unit → Puzzle → List ℕ → ℕ → Result Verdict Refusal
solve_answer u p ms len = answered (checked (solve_checks u p ms len)) (verdict_on (number p ms))

-- The cells after Solve in a unit: the first of the grids in order; on a refusal, and if there is none, as they were.
abbrev pub solve_cells : Unit → Puzzle → List ℕ → List ℕ → List ℕ
solve_cells u p ms cells = cond (eqb (refusal (solve_checks u p ms (length cells))) 0) (first_or cells (found p ms)) cells
