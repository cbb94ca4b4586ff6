-- The checks of a puzzle, one after the other, and what a puzzle that passes them all is. Assumes nothing.
use Prim.Native.Nat.{ℕ}
use mathlib.Core.Path.{◌≡◌, refl, sym}
use mathlib.Core.List.{List, [], ◌∷◌}
use mathlib.Core.Bool.{Bool, true, false}
use lib.Dec.{eqb, leb}
use lib.ListN.{length}
use borrow.Author.Tests.{eqb-true}
use Rattle.tally.specs.Tally.{all}
use Rattle.tally.proofs.TallyLaws.{and_left, and_right}
use Rattle.std.specs.Prelude.{Ok, Err}
use Rattle.refusal.specs.declared.Refusal.{Refusal}
use Rattle.refusal.specs.declared.Refusal.TheVariants.{Size as SizeFault, TargetLengths, Target, SizeLimit}
use Rattle.units.specs.declared.Unit.{Unit}
use Rattle.units.specs.Limits.{takes_size}
use Rattle.rules.specs.Grid.{Puzzle}
use Rattle.rules.specs.Check.{Check, check_size, check_unit_size, checked, refusal, max_target, puzzle_checks}
use Rattle.rules.specs.CheckParts.{size_fits, targets_fit}
use Rattle.rules.proofs.CheckLaws.{lacks, numbered, checked_stop, passed_number, refusal_none}
use Rattle.rules.proofs.SizeLaws.{size_in}
use Rattle.puzzle.specs.Accepted.{AcceptedPuzzle}

-- ---- the size

module _ (u : Unit) (n : ℕ) where
  abbrev pub size_checks : List Check
  size_checks = check_size n ∷ check_unit_size u n ∷ []

  pub size_1 : size_fits n ≡ false → Err SizeFault ≡ checked size_checks
  unfolding checked
  size_1 h = rw h

  pub size_18 : size_fits n ≡ true → takes_size u n ≡ false → Err SizeLimit ≡ checked size_checks
  unfolding checked
  size_18 h s = rw (h, s)

  pub size_0 : size_fits n ≡ true → takes_size u n ≡ true → Ok tt ≡ checked size_checks
  unfolding checked
  size_0 h s = rw (h, s)

  -- where it is refused, so is all that begins with it
  pub size_refused : (cs : List Check) (k : Refusal) → Err k ≡ checked size_checks → Err k ≡ checked (check_size n ∷ check_unit_size u n ∷ cs)
  size_refused cs k e = sym (checked_stop size_checks cs k (sym e))

  pub size_passed : Ok tt ≡ checked size_checks → (size_fits n ≡ true) × (takes_size u n ≡ true)
  size_passed e =
      let a = refusal_none SizeFault (size_fits n) _ (passed_number size_checks (sym e)) in
      (a.0, (refusal_none SizeLimit (takes_size u n) _ a.1).0)

-- ---- the puzzle

module _ (u : Unit) (p : Puzzle) where
  abbrev fitting : Bool
  fitting = targets_fit p.size (length p.rows) (length p.columns)

  pub puzzle_size : (k : Refusal) → Err k ≡ checked (size_checks u p.size) → Err k ≡ checked (puzzle_checks u p)
  puzzle_size = size_refused u p.size _

  pub puzzle_2 : size_fits p.size ≡ true → takes_size u p.size ≡ true → fitting ≡ false → Err TargetLengths ≡ checked (puzzle_checks u p)
  unfolding checked
  puzzle_2 h s t = rw (h, s, t)

  -- the greatest target, as the code has it
  module _ (h : size_fits p.size ≡ true) (s : takes_size u p.size ≡ true) (t : fitting ≡ true) (m : ℕ) (e : m ≡ max_target p.size) where
    pub puzzle_3_rows : all (λ t. leb t m) p.rows ≡ false → Err Target ≡ checked (puzzle_checks u p)
    unfolding checked
    puzzle_3_rows r = rw (h, s, t, ← e, r)

    pub puzzle_3_columns : all (λ t. leb t m) p.rows ≡ true → all (λ t. leb t m) p.columns ≡ false → Err Target ≡ checked (puzzle_checks u p)
    unfolding checked
    puzzle_3_columns r c = rw (h, s, t, ← e, r, c)

    pub puzzle_0 : all (λ t. leb t m) p.rows ≡ true → all (λ t. leb t m) p.columns ≡ true → Ok tt ≡ checked (puzzle_checks u p)
    unfolding checked
    puzzle_0 r c = rw (h, s, t, ← e, r, c)

pub puzzle_numbered : (u : Unit) (p : Puzzle) → numbered (puzzle_checks u p) ≡ true
unfolding lacks
puzzle_numbered u p = refl

-- a puzzle that a unit does not refuse
pub accepted : (u : Unit) (p : Puzzle) → refusal (puzzle_checks u p) ≡ 0 → AcceptedPuzzle p
accepted u p e =
    let n = p.size in
    let r = length p.rows in
    let c = length p.columns in
    let a = refusal_none SizeFault (size_fits n) _ e in
    let b = refusal_none TargetLengths (targets_fit n r c) _ (refusal_none SizeLimit (takes_size u n) _ a.1).1 in
    let d = refusal_none Target _ _ b.1 in
    record {
      size = size_in n a.0;
      rows_long = eqb-true r n (and_left (eqb r n) (eqb c n) b.0);
      columns_long = eqb-true c n (and_right (eqb r n) (eqb c n) b.0);
      rows_within = and_left _ _ d.0;
      columns_within = and_right (all (λ t. leb t (max_target n)) p.rows) _ d.0;
    }
