-- Marks: 16 bits that take or reject a value of a cell. Assumes nothing.
use Rattle.std.specs.Prelude.{ℕ, ◌+◌, ◌*◌, ◌/◌, ◌%◌, Bool, not, ◌&&◌, cond, List, [], ◌∷◌, eqb, get_or, take}
use Rattle.tally.specs.Tally.{count}
use Rattle.rules.specs.Grid.{is_black, cell, row, column}

-- ---- the fields of a mark, from the most significant bit on: kind 1, row 4, column 4, value 4, spare 3

-- The mark rejects its value; otherwise it takes it.
unfoldable pub rejects : ℕ → Bool
rejects m = eqb (m / 32768 % 2) 1

-- The row and the column of its cell, its value (a digit, or one of the four blacks below), and its spare bits.
abbrev pub mark_row : ℕ → ℕ
mark_row m = m / 2048 % 16

abbrev pub mark_column : ℕ → ℕ
mark_column m = m / 128 % 16

abbrev pub mark_value : ℕ → ℕ
mark_value m = m / 8 % 16

abbrev pub mark_spare : ℕ → ℕ
mark_spare m = m % 8

-- ---- the values of a cell

-- The blacks: the left and the right one of the cell's row, the upper and the lower one of its column.
abbrev pub left_black : ℕ
left_black = 8

abbrev pub right_black : ℕ
right_black = 9

abbrev pub upper_black : ℕ
upper_black = 10

abbrev pub lower_black : ℕ
lower_black = 11

-- Place i of a line is black, with k blacks in front of it.
unfoldable pub black_with : ℕ → List ℕ → ℕ → Bool
black_with k l i = is_black (get_or l i 0) && eqb (count is_black (take i l)) k

-- The cell of row r and column c has the value v.
unfoldable pub has : ℕ → List ℕ → ℕ → ℕ → ℕ → Bool
has n g r c v =
    cond (eqb v left_black) (black_with 0 (row n g r) c)
    (cond (eqb v right_black) (black_with 1 (row n g r) c)
    (cond (eqb v upper_black) (black_with 0 (column n g c) r)
    (cond (eqb v lower_black) (black_with 1 (column n g c) r)
    (eqb (cell n g r c) v))))

-- A grid keeps a taken mark if the cell has its value, a rejected one if it has not.
unfoldable pub keeps_mark : ℕ → List ℕ → ℕ → Bool
keeps_mark n g m =
    cond (rejects m) (not (has n g (mark_row m) (mark_column m) (mark_value m))) (has n g (mark_row m) (mark_column m) (mark_value m))

-- ---- a list of marks in bytes

-- Two bytes a mark, the more significant first. A byte left over is half a mark: its other half is read as 7, so the spare bits are not zero.
unfoldable pub marks_of : List ℕ → List ℕ
marks_of [] = []
marks_of (a ∷ []) = (a * 256 + 7) ∷ []
marks_of (a ∷ (b ∷ l)) = (a * 256 + b) ∷ marks_of l
