-- Lines of size 4, and the first step that each fails. Assumes nothing.
use Prim.Native.Nat.{ℕ}
use mathlib.Core.Path.{◌≡◌, refl}
use mathlib.Core.List.{[], ◌∷◌, map}
use Rattle.std.specs.Prelude.{Option, None, Some}
use Rattle.tally.specs.Tally.{span, sum, all, count}
use Rattle.rules.specs.Grid.{black, digits, until_black, inside, line_sum, meets}
use Rattle.sheet_marking.specs.declared.LineFault.{LineFault}
use Rattle.sheet_marking.specs.declared.LineFault.TheVariants.{Digits, Blacks, Sum}
use Rattle.sheet_marking.specs.Counts.{byte_place, byte_counts}
use Rattle.sheet_marking.specs.Fault.{line_fault}

-- a line of four cells with target 3
abbrev fault : ℕ → ℕ → ℕ → ℕ → Option LineFault
fault a b c d = line_fault 4 3 (a ∷ b ∷ c ∷ d ∷ [])

record FaultFacts : Type 0 where
  -- #12# has the counts of hex 1102: from the right, two blacks, no empty cell, one 1, one 2
  counted : byte_counts (black ∷ 1 ∷ 2 ∷ black ∷ []) ≡ 4354
  -- #12# has no fault, nor has ## at size 2 with target 0
  no_fault : fault black 1 2 black ≡ None
  no_digits : line_fault 2 0 (black ∷ black ∷ []) ≡ None
  -- a missing digit and three blacks; a missing digit alone; a digit twice: 1###, 1#3#, 2#2#
  digits_first : fault 1 black black black ≡ Some Digits
  digit_missing : fault 1 black 3 black ≡ Some Digits
  digit_twice : fault 2 black 2 black ≡ Some Digits
  -- each digit once and one black, with an empty cell or a number above 2; no black. (Three blacks with each digit once cannot be: two of the N cells are
  -- left, `blacks-most` in crates/line_laws/proofs/Filled.antt.)
  blacks_next : map (λ c. fault black 1 2 c) (0 ∷ 3 ∷ 254 ∷ []) ≡ Some Blacks ∷ Some Blacks ∷ Some Blacks ∷ []
  no_black : fault 0 1 2 3 ≡ Some Blacks
  -- each digit once, two blacks, and another sum than 3: 1#2#, ##12
  sum_last : fault 1 black 2 black ≡ Some Sum
  sum_of_none : fault black black 1 2 ≡ Some Sum
  -- the last digit counts: a line without 2 is at fault, whatever else it has
  last_digit : map (λ c. fault black 1 c black) (0 ∷ 1 ∷ 3 ∷ 7 ∷ []) ≡ Some Digits ∷ Some Digits ∷ Some Digits ∷ Some Digits ∷ []

facts : FaultFacts
unfolding span sum all count digits until_black inside line_sum meets byte_place byte_counts line_fault
facts =
    record {
      counted = refl;
      no_fault = refl;
      no_digits = refl;
      digits_first = refl;
      digit_missing = refl;
      digit_twice = refl;
      blacks_next = refl;
      no_black = refl;
      sum_last = refl;
      sum_of_none = refl;
      last_digit = refl;
    }
