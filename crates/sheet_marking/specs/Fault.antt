-- The check of a line, in the sequence of the printed rules. Assumes nothing.
use Rattle.std.specs.Prelude.{ℕ, not, cond, List, Option, None, Some}
use Rattle.rules.specs.Grid.{digits_once, two_blacks, line_sum, meets}
use Rattle.sheet_marking.specs.declared.LineFault.{LineFault}
use Rattle.sheet_marking.specs.declared.LineFault.TheVariants.{Digits, Blacks, Sum}

-- The fault of a line of size n with target t: the first of three steps that fails (each digit once, two blacks, the sum), or none.
unfoldable pub line_fault : ℕ → ℕ → List ℕ → Option LineFault
line_fault n t l =
    cond (not (digits_once n l)) (Some Digits)
    (cond (not (two_blacks l)) (Some Blacks)
    (cond (not (meets t (line_sum l))) (Some Sum)
    None))
