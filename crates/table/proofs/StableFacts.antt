-- Stable tables at small cases: what is stable, and closed tables that are not. Assumes nothing.
use Prim.Native.Nat.{ℕ, ◌<◌}
use mathlib.Core.Path.{◌≡◌, refl, sym}
use mathlib.Core.Bool.{Bool, true, false, not, ◌&&◌}
use mathlib.Core.List.{[], ◌∷◌}
use native.Mathlib.Omega.{arith}
use Rattle.tally.specs.Tally.{span, sum, all, any, keep, join, sort, insert}
use Rattle.tally.proofs.TallyLaws.{span_in, span_mem}
use Rattle.rules.specs.Grid.{digits, meets, Line, index, cell, lines, Puzzle, target}
use Rattle.rules.proofs.Samples.{three}
use Rattle.table.specs.Table.{Table, places, first_black, half, every_value, bit_of, mask_of, has_bit, table_of}
use Rattle.table.specs.Closed.{subsets, printed_before, printed, subsets_with, from_starts, insides, outsides, arrangements, place, allows, lays, Closed}
use Rattle.table.specs.Steps.{strikes}
use Rattle.table.specs.Lines.{row_of, column_of}
use Rattle.table.specs.Stable.{LoneSet, Stable}
use Rattle.table.specs.Value.{IsValue, InHalf}
use Rattle.table.proofs.Decides.{Decides, refuted, implies, restate, is, equal, both, if_then, each, some, each_below, each_line}
use Rattle.table.proofs.ClosedTest.{live_test, filled_test, placed_test, supported_test, sole_test, every_test, cross_half, lone_test, crossed_test, single_test, blacks_test, supports_test, points, closed_test, closed}
use Rattle.table.proofs.ClosedFacts.{settled, falling, both_grids}

-- Each half of each cell has a candidate.
unfoldable pub half_test : ℕ → Table → Bool
half_test n t = all (λ ℓ. all (λ i. any (λ v. places t ℓ i v) (half n (first_black ℓ))) (span 0 n)) (lines n)

-- Each value of each line has a place.
unfoldable pub value_test : ℕ → Table → Bool
value_test n t = all (λ ℓ. all (λ v. any (λ i. places t ℓ i v) (span 0 n)) (half n (first_black ℓ))) (lines n)

-- Setting row r and column c to v strikes nothing of the table.
unfoldable pub struck_test : ℕ → Table → ℕ → ℕ → ℕ → Bool
struck_test n t r c v = all (λ i. all (λ j. all (λ w. implies (t i j w) (not (strikes r c v i j w))) (every_value n)) (span 0 n)) (span 0 n)

-- What is alone in a half is set.
unfoldable pub lone_set_test : ℕ → Table → Bool
lone_set_test n t =
    all (λ ℓ. all (λ i. all (λ v. implies (places t ℓ i v) (implies (sole_test (half n (first_black ℓ)) (places t ℓ i) v) (struck_test n t (row_of ℓ i) (column_of ℓ i) v)))
    (half n (first_black ℓ))) (span 0 n)) (lines n)

unfoldable pub stable_test : Puzzle → Table → Bool
stable_test p t = half_test p.size t && (value_test p.size t && (closed_test p t && lone_set_test p.size t))

-- a test that fails
fails : (b : Bool) → Decides (not b) (b ≡ false)
fails true = record { passes = λ e. sym e; holds = λ e. sym e }
fails false = record { passes = λ e. refl; holds = λ e. refl }

module _ (n : ℕ) (t : Table) where
  half_lem : Decides (half_test n t) ((ℓ : Line) → index ℓ < n → (i : ℕ) → i < n → (v : ℕ) × InHalf n ℓ v × (places t ℓ i v ≡ true))
  unfolding half_test
  half_lem = each_line (λ ℓ. each_below (λ i. some (λ v. is (places t ℓ i v)) (half n (first_black ℓ))) n) n

  value_lem : Decides (value_test n t) ((ℓ : Line) → index ℓ < n → (v : ℕ) → InHalf n ℓ v → (i : ℕ) × (i < n) × (places t ℓ i v ≡ true))
  unfolding value_test
  value_lem =
      each_line (λ ℓ. each (λ v. restate (λ w. (w.0, span_mem 0 n w.0 (omega arith) (omega (arith, w.1)), w.2))
      (λ w. let r = span_in 0 n w.0 w.1 in (w.0, omega arith, w.2)) (some (λ i. is (places t ℓ i v)) (span 0 n))) (half n (first_black ℓ))) n

  struck_lem : (r c v : ℕ) →
      Decides (struck_test n t r c v) ((i : ℕ) → i < n → (j : ℕ) → j < n → (w : ℕ) → IsValue n w → t i j w ≡ true → strikes r c v i j w ≡ false)
  unfolding struck_test
  struck_lem r c v =
      each_below (λ i. each_below (λ j. each (λ w. if_then (is (t i j w)) (fails (strikes r c v i j w))) (every_value n)) n) n

  lone_set_lem : Decides (lone_set_test n t) (LoneSet n t)
  unfolding lone_set_test sole_test
  lone_set_lem =
      restate (λ s ℓ l i hi v m e only r hr c hc w q x. s.set ℓ i v l hi m e only r c w hr hc q x)
      (λ h. record { set = λ ℓ i v l hi m e only r c w hr hc q x. h ℓ l i hi v m e only r hr c hc w q x })
      (each_line (λ ℓ. each_below (λ i. each (λ v. if_then (is (places t ℓ i v))
      (if_then (each (λ w. if_then (is (places t ℓ i w)) (equal w v)) (half n (first_black ℓ))) (struck_lem (row_of ℓ i) (column_of ℓ i) v)))
      (half n (first_black ℓ))) n) n)

-- The test of a stable table says what `Stable` says.
pub stable : (p : Puzzle) (t : Table) → Decides (stable_test p t) (Stable p t)
unfolding stable_test
stable p t =
    restate
    (λ s. (λ ℓ l i hi. s.half_has ℓ i l hi, (λ ℓ l v m. s.value_has ℓ v l m, (s.closed, s.lone_set))))
    (λ h. record { half_has = λ ℓ i l hi. h.0 ℓ l i hi; value_has = λ ℓ v l m. h.1.0 ℓ l v m; closed = h.1.1.0; lone_set = h.1.1.1 })
    (both (half_lem p.size t) (both (value_lem p.size t) (both (closed p t) (lone_set_lem p.size t))))

-- A puzzle of size 4 with rows and columns 0 3 3 0, and a table whose four middle cells have only digits.
unfoldable pub ring : Puzzle
ring = record { size = 4; rows = 0 ∷ 3 ∷ 3 ∷ 0 ∷ []; columns = 0 ∷ 3 ∷ 3 ∷ 0 ∷ [] }

abbrev pub unordered : Table
unordered = table_of 4 (46 ∷ 56 ∷ 56 ∷ 54 ∷ 104 ∷ 6 ∷ 6 ∷ 112 ∷ 104 ∷ 6 ∷ 6 ∷ 112 ∷ 78 ∷ 88 ∷ 88 ∷ 86 ∷ [])

pub record StableFacts : Type 0 where
  -- the values of a grid are stable, alone and together with those of another
  pub settled_stable : Stable (three 1 0 0 1 0 0) settled
  pub falling_stable : Stable (three 0 1 0 0 1 0) falling
  pub both_stable : Stable (three 0 1 0 0 1 0) both_grids
  -- with no candidate at all a table is closed, but no half has one
  pub empty_closed : Closed (three 1 0 0 1 0 0) (λ r c v. false)
  pub empty_not : Stable (three 1 0 0 1 0 0) (λ r c v. false) → ⊥
  -- closed, but column 0 of row 1 is the row's left black, and in its column an upper black is still possible below it
  pub unordered_closed : Closed ring unordered
  pub unordered_not : Stable ring unordered → ⊥

pub facts : StableFacts
unfolding
    span sum all any keep join digits meets cell lines target subsets mask_of printed_before printed subsets_with sort insert from_starts insides outsides arrangements three ring
    places first_black half every_value bit_of has_bit table_of place allows lays strikes row_of column_of
    live_test filled_test placed_test supported_test sole_test every_test cross_half lone_test crossed_test single_test blacks_test supports_test points closed_test
    half_test value_test struck_test lone_set_test stable_test
facts =
    record {
      settled_stable = (stable (three 1 0 0 1 0 0) settled).holds refl;
      falling_stable = (stable (three 0 1 0 0 1 0) falling).holds refl;
      both_stable = (stable (three 0 1 0 0 1 0) both_grids).holds refl;
      empty_closed = (closed _ _).holds refl;
      empty_not = refuted (stable _ _) refl;
      unordered_closed = (closed ring unordered).holds refl;
      unordered_not = refuted (stable ring unordered) refl;
    }
