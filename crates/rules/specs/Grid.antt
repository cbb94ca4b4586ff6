-- A grid of n * n cells, row by row, its lines and their sums, and when it keeps a puzzle. Assumes nothing.
use Rattle.std.specs.Prelude.{ℕ, ◌+◌, ◌-◌, ◌*◌, Bool, ◌&&◌, cond, List, [], ◌∷◌, ◌++◌, map, eqb, get_or}
use Rattle.tally.specs.Tally.{span, sum, all, count}

-- ---- the cells of a line

-- The byte of a black cell, and the test whether a cell is black.
abbrev pub black : ℕ
black = 255

abbrev pub is_black : ℕ → Bool
is_black c = eqb c black

-- The digits of size n: 1 to n - 2.
unfoldable pub digits : ℕ → List ℕ
digits n = span 1 (n - 2)

-- Each digit stands in the line once.
abbrev pub digits_once : ℕ → List ℕ → Bool
digits_once n l = all (λ d. eqb (count (eqb d) l) 1) (digits n)

-- Two of its cells are black.
abbrev pub two_blacks : List ℕ → Bool
two_blacks l = eqb (count is_black l) 2

-- A line is lawful: two blacks, and each digit once.
unfoldable pub lawful : ℕ → List ℕ → Bool
lawful n l = two_blacks l && digits_once n l

-- The cells in front of the first black.
unfoldable pub until_black : List ℕ → List ℕ
until_black [] = []
until_black (c ∷ l) = cond (is_black c) [] (c ∷ until_black l)

-- The cells between the first black and the next.
unfoldable pub inside : List ℕ → List ℕ
inside [] = []
inside (c ∷ l) = cond (is_black c) (until_black l) (inside l)

-- The sum of a line: that of the cells between its blacks.
unfoldable pub line_sum : List ℕ → ℕ
line_sum l = sum (inside l)

-- A target is met by a sum. (The only place where a target and a sum meet.)
unfoldable pub meets : ℕ → ℕ → Bool
meets t s = eqb t s

-- A line keeps a target: it is lawful, and its sum meets the target.
unfoldable pub keeps_line : ℕ → ℕ → List ℕ → Bool
keeps_line n t l = lawful n l && meets t (line_sum l)

-- ---- the lines of a grid

-- The cell of row r and column c.
unfoldable pub cell : ℕ → List ℕ → ℕ → ℕ → ℕ
cell n g r c = get_or g (r * n + c) 0

-- The cells of row r, from left to right.
unfoldable pub row : ℕ → List ℕ → ℕ → List ℕ
row n g r = map (λ c. cell n g r c) (span 0 n)

-- The cells of column c, from top to bottom.
unfoldable pub column : ℕ → List ℕ → ℕ → List ℕ
column n g c = map (λ r. cell n g r c) (span 0 n)

-- A line is a row, across the grid, or a column, down the grid.
pub data Line : Type 0 where
  across down : ℕ → Line

-- The number of a line among its kind.
unfoldable pub index : Line → ℕ
index (across r) = r
index (down c) = c

-- The cells of a line.
unfoldable pub line : ℕ → List ℕ → Line → List ℕ
line n g (across r) = row n g r
line n g (down c) = column n g c

-- All lines of size n: the rows, then the columns.
unfoldable pub lines : ℕ → List Line
lines n = map across (span 0 n) ++ map down (span 0 n)

-- A grid is lawful: each line is.
unfoldable pub lawful_grid : ℕ → List ℕ → Bool
lawful_grid n g = all (λ ℓ. lawful n (line n g ℓ)) (lines n)

-- ---- puzzles

-- A puzzle: its size, and a target for each row and each column.
pub record Puzzle : Type 0 where
  pub size : ℕ
  pub rows : List ℕ
  pub columns : List ℕ

-- The puzzle of a size and two target slices.
abbrev pub puzzle : ℕ → List ℕ → List ℕ → Puzzle
puzzle n rows columns = record { size = n; rows = rows; columns = columns }

-- The target of a line.
unfoldable pub target : Puzzle → Line → ℕ
target p (across r) = get_or p.rows r 0
target p (down c) = get_or p.columns c 0

-- A grid keeps a puzzle: each line keeps its target.
unfoldable pub keeps : Puzzle → List ℕ → Bool
keeps p g = all (λ ℓ. keeps_line p.size (target p ℓ) (line p.size g ℓ)) (lines p.size)
