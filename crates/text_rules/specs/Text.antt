-- The text that a line is answered by, without its line end. Assumes nothing.
use Rattle.std.specs.Prelude.{ℕ, zero, suc, ◌+◌, cond, List, [], ◌∷◌, ◌++◌, map, decimal}
use Rattle.tally.specs.Tally.{span}
use Rattle.rules.specs.Grid.{is_black, row}
use Rattle.rules.specs.Number.{Verdict, unsolvable, unique, multiple}

-- "refused "
abbrev pub refused_word : List ℕ
refused_word = 114 ∷ 101 ∷ 102 ∷ 117 ∷ 115 ∷ 101 ∷ 100 ∷ 32 ∷ []

-- "unsolvable"
abbrev pub unsolvable_word : List ℕ
unsolvable_word = 117 ∷ 110 ∷ 115 ∷ 111 ∷ 108 ∷ 118 ∷ 97 ∷ 98 ∷ 108 ∷ 101 ∷ []

-- "unique "
abbrev pub unique_word : List ℕ
unique_word = 117 ∷ 110 ∷ 105 ∷ 113 ∷ 117 ∷ 101 ∷ 32 ∷ []

-- "multiple "
abbrev pub multiple_word : List ℕ
multiple_word = 109 ∷ 117 ∷ 108 ∷ 116 ∷ 105 ∷ 112 ∷ 108 ∷ 101 ∷ 32 ∷ []

-- A cell: `#` if it is black, else its digit.
unfoldable pub cell_text : ℕ → ℕ
cell_text c = cond (is_black c) 35 (48 + c)

-- Texts joined by `/`.
unfoldable pub joined : List (List ℕ) → List ℕ
joined [] = []
joined (t ∷ []) = t
joined (t ∷ (u ∷ ts)) = t ++ 47 ∷ joined (u ∷ ts)

-- A grid of size n: its rows, joined.
unfoldable pub grid_text : ℕ → List ℕ → List ℕ
grid_text n g = joined (map (λ r. map cell_text (row n g r)) (span 0 n))

-- The text of a refusal number (0: not refused), a verdict, and the grid of size n that is shown.
unfoldable pub answer_text : ℕ → Verdict → ℕ → List ℕ → List ℕ
answer_text (suc k) v n g = refused_word ++ decimal (suc k)
answer_text zero unsolvable n g = unsolvable_word
answer_text zero unique n g = unique_word ++ grid_text n g
answer_text zero multiple n g = multiple_word ++ grid_text n g
