-- What the call for target sums answers, and what the two target slices hold afterwards. Assumes nothing.
use Rattle.std.specs.Prelude.{ℕ, zero, suc, List, map, length}
use Rattle.tally.specs.Tally.{span}
use Rattle.units.specs.declared.Unit.{Unit}
use Rattle.rules.specs.Grid.{line_sum, row, column}
use Rattle.rules.specs.Check.{refusal, sums_checks}

-- A refusal number, and both target slices afterwards: as they were if it is not 0, else they hold the sums of the rows and of the columns.
abbrev pub summed_as : ℕ → ℕ → List ℕ → List ℕ → List ℕ → ℕ × List ℕ × List ℕ
summed_as (suc k) n cells rows columns = (suc k, rows, columns)
summed_as zero n cells rows columns = (0, map (λ r. line_sum (row n cells r)) (span 0 n), map (λ c. line_sum (column n cells c)) (span 0 n))

-- Target sums in a unit, of a size, cells and two target slices: the number, and both slices afterwards.
unfoldable pub target_sums : Unit → ℕ → List ℕ → List ℕ → List ℕ → ℕ × List ℕ × List ℕ
target_sums u n cells rows columns = summed_as (refusal (sums_checks u n cells (length rows) (length columns))) n cells rows columns
