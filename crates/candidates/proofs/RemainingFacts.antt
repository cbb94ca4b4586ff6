-- What a table owes a puzzle and marks, at sample sheets: tables that keep it, and for each field one that does not. Assumes nothing.
use Prim.Native.Nat.{ℕ, ◌≤◌}
use mathlib.Core.Path.{◌≡◌, refl}
use mathlib.Core.Bool.{Bool, true, false, not, ◌&&◌, cond, true≢false, false≢true}
use mathlib.Core.List.{List, [], ◌∷◌, Memᴰ}
use native.Mathlib.Omega.{arith}
use lib.Dec.{eqb}
use borrow.Author.Tests.{not-true}
use Rattle.tally.specs.Tally.{span, sum, all, any, count, in_front, ways}
use Rattle.tally.proofs.TallyLaws.{and_left, and_right, any_in, false_of}
use Rattle.tally.proofs.WayLaws.{all_each, all_ways, way_map}
use Rattle.rules.specs.Grid.{digits, lawful, until_black, inside, line_sum, meets, keeps_line, cell, row, column, line, lines, Puzzle, target, keeps, across}
use Rattle.rules.proofs.GridLaws.{solution_way, way_solution}
use Rattle.rules.specs.Mark.{rejects, mark_row, mark_column, mark_value, left_black, black_with, has, keeps_mark}
use Rattle.rules.specs.Short.{symbols}
use Rattle.rules.specs.Number.{grids, solves}
use Rattle.rules.proofs.Samples.{three}
use Rattle.line_laws.proofs.CellValues.{half_every}
use Rattle.soundness.proofs.Taken.{same_half_lem}
use Rattle.table.specs.Table.{Table, places, first_black, half, every_value, own, fits, bit_of, has_bit, table_of, same_half}
use Rattle.table.specs.Closed.{Closed}
use Rattle.table.proofs.Decides.{Decides, implies, is, equal, if_then, each, each_below}
use Rattle.table.proofs.ClosedFacts.{full, settled, falling, rising, both_grids}
use Rattle.table.proofs.ClosedFacts as small
use Rattle.candidates.specs.Remaining.{Remaining}

-- Each way to fill the cells that keeps the puzzle and the marks fits the table.
unfoldable grids_test : Puzzle → List ℕ → Table → Bool
grids_test p ms t = all (λ g. implies (solves p ms g) (fits p.size t g)) (grids p.size)

-- Each cell has a candidate.
unfoldable filled_test : ℕ → Table → Bool
filled_test n t = all (λ r. all (λ c. any (t r c) (every_value n)) (span 0 n)) (span 0 n)

-- No other candidate of the cell stands in the half of v.
unfoldable alone_test : ℕ → Table → ℕ → ℕ → ℕ → Bool
alone_test n t r c v = all (λ w. implies (same_half v w) (implies (t r c w) (eqb w v))) (every_value n)

-- A rejected candidate is gone; a taken one is there, alone in its half.
unfoldable mark_test : ℕ → Table → ℕ → Bool
mark_test n t m =
    let there = t (mark_row m) (mark_column m) (mark_value m) in
    cond (rejects m) (not there) (there && alone_test n t (mark_row m) (mark_column m) (mark_value m))

-- the test says that no other candidate is there
alone : (n : ℕ) (t : Table) (r c v : ℕ) → Decides (alone_test n t r c v) ((w : ℕ) → Memᴰ w (every_value n) → same_half v w ≡ true → t r c w ≡ true → w ≡ v)
unfolding alone_test
alone n t r c v = each (λ w. if_then (is (same_half v w)) (if_then (is (t r c w)) (equal w v))) (every_value n)

-- a table that passes the tests and is closed owes nothing more
remains : (p : Puzzle) (ms : List ℕ) (t : Table) → p.size ≤ 9 → grids_test p ms t ≡ true → filled_test p.size t ≡ true → Closed p t → all (mark_test p.size t) ms ≡ true → Remaining p ms t
unfolding grids_test filled_test mark_test grids
remains p ms t small fit filled closed marks =
    let n = p.size in
    record {
      grids = λ g s. (if_then (is (solves p ms g)) (is (fits n t g))).holds (all_ways (symbols n) (λ g. implies (solves p ms g) (fits n t g)) (solution_way s) fit) s.right;
      filled = λ r c hr hc. (each_below (λ r. each_below (λ c. is (any (t r c) (every_value n))) n) n).holds filled r hr c hc;
      closed = closed;
      rejected = λ m k e. not-true _ (rw e at (all_each (mark_test n t) k marks));
      taken = λ m k e. and_left _ _ (rw e at (all_each (mark_test n t) k marks));
      alone = λ m w ℓ k e q h ne. false_of _ (λ there. ne ((alone n t (mark_row m) (mark_column m) (mark_value m)).holds
          (and_right (t (mark_row m) (mark_column m) (mark_value m)) _ (rw e at (all_each (mark_test n t) k marks))) w (half_every n ℓ w h)
          (same_half_lem n small ℓ (mark_value m) w q h) there));
    }

-- ##1/#1#/1##
abbrev other : List ℕ
other = 255 ∷ 255 ∷ 1 ∷ 255 ∷ 1 ∷ 255 ∷ 1 ∷ 255 ∷ 255 ∷ []

pub record RemainingFacts : Type 0 where
  -- the settled table of rows and columns 1 0 0, and the table of both grids of rows and columns 0 1 0
  pub settled_remains : Remaining (three 1 0 0 1 0 0) [] settled
  pub both_remain : Remaining (three 0 1 0 0 1 0) [] both_grids
  -- digit 1 of row 0 and column 0 taken, and rejected: one of the two grids each
  pub taken_remains : Remaining (three 0 1 0 0 1 0) (0x0008 ∷ []) falling
  pub rejected_remains : Remaining (three 0 1 0 0 1 0) (0x8008 ∷ []) rising
  -- with nothing struck the table is not closed
  pub full_not : Remaining (three 1 0 0 1 0 0) [] full → ⊥
  -- where no grid is left, the table without candidates is still not enough
  pub empty_not : Remaining (three 1 1 0 0 1 0) [] (λ r c v. false) → ⊥
  -- the table of one of two grids has lost the other
  pub lost_not : Remaining (three 0 1 0 0 1 0) [] falling → ⊥
  -- a rejected candidate is still there
  pub rejected_not : Remaining (three 0 1 0 0 1 0) (0x8008 ∷ []) both_grids → ⊥
  -- a taken candidate is gone; a taken candidate is there with the left black
  pub taken_not : Remaining (three 0 1 0 0 1 0) (0x0008 ∷ []) rising → ⊥
  pub alone_not : Remaining (three 0 1 0 0 1 0) (0x0008 ∷ []) both_grids → ⊥

pub facts : RemainingFacts
unfolding
    span sum all any count in_front ways
    digits lawful until_black inside line_sum meets keeps_line cell row column line lines target keeps
    rejects black_with has keeps_mark grids solves three
    places first_black half every_value own fits bit_of has_bit table_of
    grids_test filled_test alone_test mark_test
facts =
    record {
      settled_remains = remains (three 1 0 0 1 0 0) [] settled (omega arith) refl refl (small.facts).settled_closed refl;
      both_remain = remains (three 0 1 0 0 1 0) [] both_grids (omega arith) refl refl (small.facts).both_closed refl;
      taken_remains = remains (three 0 1 0 0 1 0) (0x0008 ∷ []) falling (omega arith) refl refl (small.facts).falling_closed refl;
      rejected_remains = remains (three 0 1 0 0 1 0) (0x8008 ∷ []) rising (omega arith) refl refl (small.facts).rising_closed refl;
      full_not = λ r. (small.facts).full_not.refused r.closed;
      empty_not = λ r. false≢true (r.filled 0 0 (omega arith) (omega arith));
      lost_not = λ r. false≢true
          (r.grids other
          (way_solution (way_map (λ x. x) other (λ c m. any_in c (symbols 3) (all_each (λ c. any (eqb c) (symbols 3)) m refl))) refl));
      rejected_not = λ r. true≢false (r.rejected 0x8008 (Memᴰ.head refl) refl);
      taken_not = λ r. false≢true (r.taken 0x0008 (Memᴰ.head refl) refl);
      alone_not = λ r. true≢false (r.alone 0x0008 left_black (across 0) (Memᴰ.head refl) refl (Memᴰ.head refl) (Memᴰ.tail (Memᴰ.head refl)) (omega arith));
    }
