-- Candidate tables: which values a cell may still have, and which grids fit. Assumes nothing.
use Rattle.std.specs.Prelude.{ℕ, suc, ◌+◌, ◌-◌, ◌/◌, ◌%◌, ◌^◌, Bool, ◌&&◌, cond, ◌||◌, List, [], ◌∷◌, ◌++◌, map, eqb, ltb, leb, length, get_or, take}
use Rattle.tally.specs.Tally.{span, all, count, sum}
use Rattle.rules.specs.Grid.{is_black, digits, Line, across, down, line, lines, cell, Puzzle, keeps}
use Rattle.rules.specs.Mark.{left_black, upper_black, marks_of}
use Rattle.rules.specs.Number.{grids}

-- A table says of each row, column and value (a digit or a black, as in marks) whether the cell may still have the value.
abbrev pub Table : Type 0
Table = ℕ → ℕ → ℕ → Bool

-- The part of a table that a line has: place and value.
unfoldable pub places : Table → Line → ℕ → ℕ → Bool
places t (across r) i v = t r i v
places t (down c) i v = t i c v

-- The value of a line's first black; that of its second black is the next.
unfoldable pub first_black : Line → ℕ
first_black (across r) = left_black
first_black (down c) = upper_black

-- The values of a half: the digits and the line's own blacks, the first of which is k.
unfoldable pub half : ℕ → ℕ → List ℕ
half n k = digits n ++ k ∷ suc k ∷ []

-- All values of a cell.
unfoldable pub every_value : ℕ → List ℕ
every_value n = half n left_black ++ upper_black ∷ suc upper_black ∷ []

-- A value of the row half: a digit or a row black.
abbrev pub in_row : ℕ → Bool
in_row v = ltb v 10

-- A value of the column half: a digit or a column black.
abbrev pub in_column : ℕ → Bool
in_column v = ltb v 8 || leb 10 v

-- Two values stand in the same half of a cell; a digit stands in both halves.
abbrev pub same_half : ℕ → ℕ → Bool
same_half v w = (in_row v && in_row w) || (in_column v && in_column w)

-- The value that place i of a line of a grid has, if k is the line's first black.
unfoldable pub own : ℕ → List ℕ → ℕ → ℕ
own k l i = cond (is_black (get_or l i 0)) (k + count is_black (take i l)) (get_or l i 0)

-- A grid fits a table: each cell's value in its row and its value in its column are candidates there.
unfoldable pub fits : ℕ → Table → List ℕ → Bool
fits n t g = all (λ ℓ. all (λ i. places t ℓ i (own (first_black ℓ) (line n g ℓ) i)) (span 0 n)) (lines n)

-- How many grids keep a puzzle and fit a table.
unfoldable pub left : Puzzle → Table → ℕ
left p t = count (λ g. keeps p g && fits p.size t g) (grids p.size)

-- ---- a table as it is written: n * n masks, row by row

-- The bit of a value: digit d is bit d, the blacks 8 to 11 are bits n - 1 to n + 2.
unfoldable pub bit_of : ℕ → ℕ → ℕ
bit_of n v = cond (ltb v 8) v (n + v - 9)

-- The mask of a list of different values: bit v for each value v.
unfoldable pub mask_of : List ℕ → ℕ
mask_of vs = sum (map (λ v. 2 ^ v) vs)

-- The mask m has bit b.
unfoldable pub has_bit : ℕ → ℕ → Bool
has_bit m b = eqb (m / 2 ^ b % 2) 1

-- The table that a list of masks stands for.
unfoldable pub table_of : ℕ → List ℕ → Table
table_of n masks r c v = has_bit (cell n masks r c) (bit_of n v)

-- The entries of a list of bytes, two an entry as with marks: an odd number of bytes has none.
unfoldable pub entries_of : List ℕ → List ℕ
entries_of bs = cond (eqb (length bs % 2) 0) (marks_of bs) []
