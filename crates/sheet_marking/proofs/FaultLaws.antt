-- The fault of a line: each of its cases, and none exactly where the line keeps its target. Assumes nothing.
use Prim.Native.Nat.{ℕ, ◌≤◌}
use mathlib.Core.Path.{◌≡◌, refl, sym, ap, ◌∙◌}
use mathlib.Core.Bool.{Bool, true, false, not}
use mathlib.Core.List.{List}
use native.Mathlib.Omega.{arith}
use lib.ListN.{length}
use borrow.Author.Tests.{not-true, not-false}
use Rattle.std.specs.Prelude.{Option, None, Some, is_none, is_some}
use Rattle.tally.specs.Tally.{all}
use Rattle.tally.proofs.TallyLaws.{and_both}
use Rattle.rules.specs.Grid.{digits_once, two_blacks, lawful, line_sum, meets, keeps_line, Puzzle, line, lines, target, keeps}
use Rattle.rules.specs.Size.{Size}
use Rattle.rules.proofs.SizeLaws.{target_most}
use Rattle.rules.specs.Strided.{strided}
use Rattle.grid_lines.specs.declared.Line.{Line}
use Rattle.grid_lines.specs.Cells.{line_cells}
use Rattle.grid_lines.proofs.LinesLaws.{cells_of}
use Rattle.line_laws.proofs.Filled.{lawful_sum}
use Rattle.sheet_marking.specs.declared.LineFault.{LineFault}
use Rattle.sheet_marking.specs.declared.LineFault.TheVariants.{Digits, Blacks, Sum}
use Rattle.sheet_marking.specs.Counts.{CountsOf, CountsTell}
use Rattle.sheet_marking.specs.Fault.{line_fault}

module _ (n t : ℕ) (l : List ℕ) where
  -- NONE: exactly for the lines that keep their target.
  pub none_keeps : is_none (line_fault n t l) ≡ keeps_line n t l
  unfolding line_fault keeps_line lawful
  none_keeps = go (digits_once n l) (two_blacks l) (meets t (line_sum l)) refl refl refl
    where
      go : (once two met : Bool) → digits_once n l ≡ once → two_blacks l ≡ two → meets t (line_sum l) ≡ met → is_none (line_fault n t l) ≡ keeps_line n t l
      go true true true d b m = rw (d, b, m)
      go true true false d b m = rw (d, b, m)
      go true false met d b m = rw (d, b)
      go false true met d b m = rw (d, b)
      go false false met d b m = rw (d, b)

  -- what a call that asks for a fault tells
  pub fault_breaks : (fault : Option LineFault) → fault ≡ line_fault n t l → is_some fault ≡ true → keeps_line n t l ≡ false
  fault_breaks None e f = cc
  fault_breaks (Some k) e f = sym none_keeps ∙ ap is_none (sym e)

  pub no_fault_keeps : (fault : Option LineFault) → fault ≡ line_fault n t l → is_some fault ≡ false → keeps_line n t l ≡ true
  no_fault_keeps (Some k) e f = cc
  no_fault_keeps None e f = sym none_keeps ∙ ap is_none (sym e)

  -- SUM: it is looked at where the line is lawful, and only there.
  pub sum_lawful : line_fault n t l ≡ Some Sum → lawful n l ≡ true
  unfolding line_fault lawful
  sum_lawful = go (digits_once n l) (two_blacks l) refl refl
    where
      go : (once two : Bool) → digits_once n l ≡ once → two_blacks l ≡ two → line_fault n t l ≡ Some Sum → lawful n l ≡ true
      go true true d b e = and_both b d
      go true false d b e = let z : Some Blacks ≡ Some Sum = sym (rw (d, b)) ∙ e in cc
      go false two d b e = let z : Some Digits ≡ Some Sum = sym (rw d) ∙ e in cc

-- the same of line i of some lines, as a walk over them has it
module _ (line : Line) (t : ℕ) {g : List ℕ} {start stride n : ℕ} (e : (line.cells.now ≡ g) × (line.start ≡ start) × (line.stride ≡ stride) × (line.len ≡ n))
    (fault : Option LineFault) (f : fault ≡ line_fault line.len t (line_cells line)) where
  pub line_breaks : is_some fault ≡ true → keeps_line n t (strided start stride g n) ≡ false
  line_breaks s = rw (← cells_of line e, ← e.3) (fault_breaks line.len t (line_cells line) fault f s)

  pub line_kept : is_some fault ≡ false → keeps_line n t (strided start stride g n) ≡ true
  line_kept s = rw (← cells_of line e, ← e.3) (no_fault_keeps line.len t (line_cells line) fault f s)

-- BYTE: the sum of a lawful line of n cells is at most the greatest target, so a byte holds it.
pub fits_byte : (n : ℕ) (l : List ℕ) → Size n → length l ≡ n → lawful n l ≡ true → line_sum l ≤ 255
fits_byte n l s long law = omega (arith, lawful_sum n l s long law, target_most n s)

-- RIGHT: a sheet keeps a puzzle exactly when the check of each line, rows first, finds no fault.
pub right_none : (p : Puzzle) (g : List ℕ) → keeps p g ≡ all (λ ℓ. is_none (line_fault p.size (target p ℓ) (line p.size g ℓ))) (lines p.size)
unfolding keeps
right_none p g = simp none_keeps

-- ---- what the steps have answered of a line with the counts m

module _ (n t m : ℕ) (l : List ℕ) (k : CountsOf m l) (once : Bool) (d : CountsTell m (digits_once n) once) where
  pub fault_digits : not once ≡ true → Some Digits ≡ line_fault n t l
  unfolding line_fault
  fault_digits u = rw (sym (d.told l k) ∙ not-true once u)

  module _ (u : not once ≡ false) (two : Bool) (b : CountsTell m two_blacks two) where
    is_once : digits_once n l ≡ true
    is_once = sym (d.told l k) ∙ not-false once u

    pub fault_blacks : not two ≡ true → Some Blacks ≡ line_fault n t l
    unfolding line_fault
    fault_blacks v = rw (is_once, sym (b.told l k) ∙ not-true two v)

    module _ (v : not two ≡ false) where
      is_two : two_blacks l ≡ true
      is_two = sym (b.told l k) ∙ not-false two v

      pub steps_lawful : lawful n l ≡ true
      unfolding lawful
      steps_lawful = and_both is_two is_once

      module _ (met : Bool) (e : met ≡ meets t (line_sum l)) where
        pub fault_sum : not met ≡ true → Some Sum ≡ line_fault n t l
        unfolding line_fault
        fault_sum w = rw (is_once, is_two, sym e ∙ not-true met w)

        pub fault_none : not met ≡ false → None ≡ line_fault n t l
        unfolding line_fault
        fault_none w = rw (is_once, is_two, sym e ∙ not-false met w)
