-- Short names for parts of the definitions, for laws. Assumes nothing.
use Rattle.std.specs.Prelude.{ℕ, Bool, List, ◌∷◌, map}
use Rattle.tally.specs.Tally.{all, join}
use Rattle.rules.specs.Grid.{black, digits, line, lines}
use Rattle.rules.specs.Mark.{keeps_mark}
use Rattle.rules.specs.Check.{Check, check_line}

-- What a cell of size n may hold: black, or a digit.
abbrev pub symbols : ℕ → List ℕ
symbols n = black ∷ digits n

-- A grid keeps every mark of a list.
abbrev pub keeps_marks : ℕ → List ℕ → List ℕ → Bool
keeps_marks n ms g = all (keeps_mark n g) ms

-- 8, 9, 10 for each line, the rows first.
abbrev pub check_lines : ℕ → List ℕ → List Check
check_lines n g = join (map (λ ℓ. check_line (line n g ℓ)) (lines n))
