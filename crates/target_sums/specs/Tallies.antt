-- The tallies of the lines of a grid. Assumes nothing.
use Rattle.std.specs.Prelude.{ℕ, ◌*◌, ◌≤◌, ◌<◌, ◌≡◌, List, map, get_or, length}
use Rattle.tally.specs.Tally.{span}
use Rattle.rules.specs.Strided.{strided}
use Rattle.grid_lines.specs.declared.Lines.{Lines}
use Rattle.target_sums.specs.Tally.{Seen, tallied_sum}

-- There is room for the tallies of n rows, and there is a tally for each of n columns, of no cell yet.
pub record TallyAsk (n across : ℕ) (down : List ℕ) : Type 0 where
  pub room_across : n ≤ across
  pub room_down : n ≤ length down
  pub clear : (j : ℕ) → j < n → get_or down j 0 ≡ 0

-- The tallies of the n lines that start at 0, step, ..
abbrev pub SeenEach : ℕ → ℕ → List ℕ → ℕ → List ℕ → Type 0
SeenEach step stride g n tallies = (i : ℕ) → i < n → Seen (get_or tallies i 0) n (strided (i * step) stride g n)

-- The tallies of these rows, and of the columns that they make.
pub record GridTallied (rows : Lines) (across down : List ℕ) : Type 0 where
  pub rows_seen : SeenEach rows.step rows.stride rows.cells.now rows.count across
  pub columns_seen : SeenEach rows.stride rows.step rows.cells.now rows.count down

-- The tally of each line is given.
pub record TalliesAsk (lines : Lines) (tallies : List ℕ) : Type 0 where
  pub room : lines.count ≤ length tallies
  pub seen : SeenEach lines.step lines.stride lines.cells.now lines.count tallies

-- The sums that stand in the first n tallies.
unfoldable pub tallied_sums : List ℕ → ℕ → List ℕ
tallied_sums l n = map (λ j. tallied_sum (get_or l j 0)) (span 0 n)

-- Both target slices are as long as each other, and as many tallies of rows and of columns are there.
pub record WriteAsk (across down rows columns : ℕ) : Type 0 where
  pub equal : columns ≡ rows
  pub enough_across : rows ≤ across
  pub enough_down : rows ≤ down
