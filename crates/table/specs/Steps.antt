-- Steps from one table to the next: striking a candidate, setting a cell, marks, opening. Assumes nothing.
use Rattle.std.specs.Prelude.{ℕ, Bool, not, ◌&&◌, ◌||◌, cond, List, [], ◌∷◌, eqb, ltb, leb}
use Rattle.tally.specs.Tally.{any}
use Rattle.rules.specs.Grid.{Line, across, down, Puzzle, target}
use Rattle.rules.specs.Mark.{rejects, mark_row, mark_column, mark_value, left_black, right_black, upper_black, lower_black}
use Rattle.table.specs.Closed.{arrangements, lays}
use Rattle.table.specs.Table.{Table, first_black, in_row, in_column}

-- One candidate is struck.
unfoldable pub struck : Table → ℕ → ℕ → ℕ → Table
struck t r c v i j w = t i j w && not (eqb i r && (eqb j c && eqb w v))

-- Setting the cell of row r and column c to v strikes the value w of the cell of row i and column j: the same value elsewhere in its lines, the other
-- values of its half, and, of a black, second blacks before it and first blacks behind it in the row and in the column.
unfoldable pub strikes : ℕ → ℕ → ℕ → ℕ → ℕ → ℕ → Bool
strikes r c v i j w =
    (eqb i r && (not (eqb j c) && (in_row v && eqb w v)))
    || ((eqb j c && (not (eqb i r) && (in_column v && eqb w v)))
    || ((eqb i r && (eqb j c && (not (eqb w v) && ((in_row v && in_row w) || (in_column v && in_column w)))))
    || (leb 8 v
    && ((eqb i r && ((ltb j c && eqb w right_black) || (ltb c j && eqb w left_black)))
    || (eqb j c && ((ltb i r && eqb w lower_black) || (ltb r i && eqb w upper_black)))))))

-- The table after the cell of row r and column c is set to v.
unfoldable pub taken : Table → ℕ → ℕ → ℕ → Table
taken t r c v i j w = t i j w && not (strikes r c v i j w)

-- The table after a mark.
unfoldable pub marked : Table → ℕ → Table
marked t m = cond (rejects m) (struck t (mark_row m) (mark_column m) (mark_value m)) (taken t (mark_row m) (mark_column m) (mark_value m))

-- The table after a list of marks, in order.
unfoldable pub marked_all : Table → List ℕ → Table
marked_all t [] = t
marked_all t (m ∷ ms) = marked_all (marked t m) ms

-- ---- opening

-- The value v of place i lies in some arrangement of the line.
unfoldable pub lies : Puzzle → Line → ℕ → ℕ → Bool
lies p ℓ i v = any (lays p.size (first_black ℓ) i v) (arrangements p.size (target p ℓ))

-- The opening table: a digit needs both its lines, a black its own.
unfoldable pub opening : Puzzle → Table
opening p r c v = cond (in_row v) (lies p (across r) c v) (leb 10 v) && cond (in_column v) (lies p (down c) r v) (leb 8 v)
