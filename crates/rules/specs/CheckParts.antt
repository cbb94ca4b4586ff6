-- What single checks ask, by names of their own, for the functions that make them. Assumes nothing.
use Rattle.std.specs.Prelude.{ℕ, Bool, ◌&&◌, List, ◌∷◌, map, eqb, leb, length}
use Rattle.tally.specs.Tally.{all, join}
use Rattle.refusal.specs.declared.Refusal.TheVariants.{Target}
use Rattle.units.specs.declared.Unit.{Unit}
use Rattle.rules.specs.Check.{Check, check, max_target, check_mark, check_unit_list}

-- The size is 2 to 9.
abbrev pub size_fits : ℕ → Bool
size_fits n = leb 2 n && leb n 9

-- Both target slices, by their lengths, are n long.
abbrev pub targets_fit : ℕ → ℕ → ℕ → Bool
targets_fit n rows columns = eqb rows n && eqb columns n

-- 3: each target is at most the greatest.
abbrev pub check_targets : ℕ → List ℕ → List ℕ → Check
check_targets n rows columns = check Target (all (λ t. leb t (max_target n)) rows && all (λ t. leb t (max_target n)) columns)

-- A cell is empty.
abbrev pub is_empty : ℕ → Bool
is_empty c = eqb c 0

-- The marks, one after the other: 4, 5, 6.
abbrev pub mark_checks : ℕ → List ℕ → List Check
mark_checks n ms = join (map (check_mark n) ms)

-- A list of marks in a unit: 19, then the marks.
abbrev pub list_checks : Unit → ℕ → List ℕ → List Check
list_checks u n ms = check_unit_list u (length ms) ∷ mark_checks n ms
