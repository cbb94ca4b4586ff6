-- A line of input, given by its bytes without the line end: its fields, its numbers, its puzzle, and the checks that it has to pass. Assumes nothing.
use Rattle.std.specs.Prelude.{ℕ, ◌+◌, ◌-◌, ◌*◌, Bool, true, false, not, ◌&&◌, cond, List, [], ◌∷◌, map, eqb, leb, length, get_or, take, drop}
use Rattle.tally.specs.Tally.{all}
use Rattle.refusal.specs.declared.Refusal.TheVariants.{TargetLengths, TextLine}
use Rattle.rules.specs.Grid.{Puzzle}
use Rattle.rules.specs.Check.{Check, check, check_size}
use Rattle.rules.specs.CheckParts.{check_targets}

-- The byte between two fields.
abbrev pub space : ℕ
space = 32

-- A byte in front of the first field.
unfoldable pub in_first : ℕ → List (List ℕ) → List (List ℕ)
in_first b [] = (b ∷ []) ∷ []
in_first b (f ∷ fs) = (b ∷ f) ∷ fs

-- The fields of a line: what stands between its spaces. Two spaces in a row, or one at an end, leave an empty field.
unfoldable pub fields : List ℕ → List (List ℕ)
fields [] = [] ∷ []
fields (b ∷ l) = cond (eqb b space) ([] ∷ fields l) (in_first b (fields l))

-- A byte is a decimal digit.
unfoldable pub is_digit : ℕ → Bool
is_digit b = leb 48 b && leb b 57

-- The value of digits, the most significant first, behind those that have the value v.
unfoldable pub value_from : ℕ → List ℕ → ℕ
value_from v [] = v
value_from v (b ∷ f) = value_from (v * 10 + (b - 48)) f

-- The value of a field.
abbrev pub value : List ℕ → ℕ
value f = value_from 0 f

-- A field is not empty, and it begins with a zero only where that is all of it.
unfoldable pub shaped : List ℕ → Bool
shaped [] = false
shaped (b ∷ []) = true
shaped (b ∷ (c ∷ f)) = not (eqb b 48)

-- A field is a decimal from 0 to 255 without leading zeros.
unfoldable pub is_decimal : List ℕ → Bool
is_decimal f = shaped f && (all is_digit f && leb (value f) 255)

-- The line is at most 80 bytes of decimals with single spaces between.
unfoldable pub well_formed : List ℕ → Bool
well_formed l = leb (length l) 80 && all is_decimal (fields l)

-- The numbers of a line.
unfoldable pub numbers : List ℕ → List ℕ
numbers l = map value (fields l)

-- The first number is the size.
abbrev pub size_of : List ℕ → ℕ
size_of ns = get_or ns 0 0

-- The others are the targets.
abbrev pub targets_of : List ℕ → List ℕ
targets_of ns = drop 1 ns

-- The puzzle of such numbers: size, row targets, column targets.
unfoldable pub puzzle_from : List ℕ → Puzzle
puzzle_from ns = record { size = size_of ns; rows = take (size_of ns) (targets_of ns); columns = drop (size_of ns) (targets_of ns) }

-- The puzzle of a line.
abbrev pub line_puzzle : List ℕ → Puzzle
line_puzzle l = puzzle_from (numbers l)

-- 1, 2, 3: the size is 2 to 9, there are twice as many targets, and each is at most the greatest.
unfoldable pub number_checks : List ℕ → List Check
number_checks ns =
    check_size (size_of ns)
    ∷ check TargetLengths (eqb (length (targets_of ns)) (2 * size_of ns))
    ∷ check_targets (size_of ns) (puzzle_from ns).rows (puzzle_from ns).columns
    ∷ []

-- 11, then 1, 2, 3.
unfoldable pub line_checks : List ℕ → List Check
line_checks l = check TextLine (well_formed l) ∷ number_checks (numbers l)
