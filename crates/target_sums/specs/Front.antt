-- The checks in front of those of the lines. Assumes nothing.
use Rattle.std.specs.Prelude.{ℕ, List, [], ◌∷◌, length}
use Rattle.units.specs.declared.Unit.{Unit}
use Rattle.rules.specs.Check.{Check, check_size, check_unit_size, check_buffer, check_lengths}

-- The front of the checks of target sums (`sums_checks`, as `all_checks` in proofs/ proves): of the size, the unit and the three lengths.
unfoldable pub front_checks : Unit → ℕ → List ℕ → ℕ → ℕ → List Check
front_checks u n cells rows columns = check_size n ∷ check_unit_size u n ∷ check_buffer n (length cells) ∷ check_lengths n rows columns ∷ []
