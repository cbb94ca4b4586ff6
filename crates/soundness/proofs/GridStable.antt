-- The values of a grid that keeps a puzzle are a stable table of it. So what loses nothing of a stable table loses no grid. Assumes nothing.
use Prim.Native.Nat.{ℕ, suc, ◌+◌, ◌≤◌, ◌<◌}
use mathlib.Core.Path.{◌≡◌, refl, sym, ◌∙◌, subst}
use mathlib.Core.Bool.{Bool, true, false, ◌||◌, true≢false}
use mathlib.Core.Logic.{◌⊎◌, ◌≢◌, ⊎_elim}
use mathlib.Core.List.{List, Memᴰ}
use native.Mathlib.Omega.{arith}
use lib.ListN.{length}
use Rattle.tally.proofs.TallyLaws.{false_of, or_split, test_ext}
use Rattle.rules.specs.Grid.{Line, across, down, index, line, Puzzle, target}
use Rattle.rules.specs.Mark.{has, left_black, right_black, upper_black, lower_black}
use Rattle.rules.proofs.GridLaws.{in_line}
use Rattle.table.specs.Table.{Table, places, first_black, half, fits}
use Rattle.table.specs.Closed.{Arrangement, arrangements, place, lays, Live, Supported, ClosedLine, Closed}
use Rattle.table.specs.Steps.{strikes}
use Rattle.table.specs.Lines.{row_of, column_of}
use Rattle.table.specs.Stable.{Stable}
use Rattle.table.specs.Value.{InHalf}
use Rattle.table.proofs.ClosedTest.{covers}
use Rattle.line_laws.specs.Grids.{GridOf}
use Rattle.line_laws.proofs.Parts.{LawfulLine, parts}
use Rattle.line_laws.proofs.Half.{first_high, digit_in, first_in, second_in}
use Rattle.line_laws.proofs.CellValues.{half_every}
use Rattle.line_laws.proofs.GridLines.{place_in, places_cell, line_lawful, line_meets}
use Rattle.line_laws.proofs.Arranged.{arranged, step_lt}
use Rattle.line_laws.proofs.Found.{Follows, backed}
use Rattle.line_laws.proofs.Followed.{digit_placed}
use Rattle.soundness.proofs.GridValues.{value_at, has_at, value_in, value_has, has_is, value_onto, once_in_line, once_in_cell, has_black, black_has, fits_has, has_fits}
use Rattle.soundness.proofs.SameLaws.{within_fits}
use Rattle.soundness.proofs.Taken.{strikes_has}
use Rattle.soundness.specs.SameGrids.{Within, SameGrids}
use Rattle.soundness.specs.Marks.{Whole}
use Rattle.soundness.specs.Greatest.{KeepsStable, every_candidate}

module _ (p : Puzzle) (small : p.size ≤ 9) (g : List ℕ) (d : GridOf p g) where
  abbrev n : ℕ
  n = p.size

  abbrev t : Table
  t = has n g

  -- ---- a line

  module _ (ℓ : Line) (h : index ℓ < n) where
    abbrev k : ℕ
    k = first_black ℓ

    lawful : LawfulLine n (line n g ℓ)
    lawful = line_lawful p g d small ℓ h

    there : (i v : ℕ) → places t ℓ i v ≡ true → has_at n g ℓ i v ≡ true
    there i v e = sym (places_cell t ℓ i v) ∙ e

    value_there : (i : ℕ) → i < n → places t ℓ i (value_at n g ℓ i) ≡ true
    value_there i hi = places_cell t ℓ i (value_at n g ℓ i) ∙ value_has p small g d ℓ h i hi

    -- an arrangement that the line follows is live
    follows_live : (a : Arrangement) → Memᴰ a (arrangements n (target p ℓ)) → Follows n k (line n g ℓ) a → Live n k (places t ℓ) a
    follows_live a m f =
        record {
          filled = λ j q. (value_at n g ℓ (place n a j), value_there (place n a j) (within j q), f.each j q);
          placed = λ c q. let s = digit_placed n k (target p ℓ) (line n g ℓ) lawful (first_high ℓ) a m f c q in
              (s.0, s.1, s.2, subst (λ v. places t ℓ (place n a s.0) v ≡ true) s.3 (value_there (place n a s.0) (within s.0 (omega (arith, s.2)))));
        }
      where
        within : (j : ℕ) → j < length a.digit_set + 2 → place n a j < n
        within j q = step_lt n (target p ℓ) a (arranged n (target p ℓ) a (omega (arith, (parts n (line n g ℓ) lawful).size)) m) j q

    line_supported : (i v : ℕ) → i < n → InHalf n ℓ v → places t ℓ i v ≡ true → Supported n k (target p ℓ) (places t ℓ) i v
    line_supported i v hi m e =
        let b = backed n k (target p ℓ) (line n g ℓ) lawful (line_meets p g d ℓ h) i hi in
        record {
          arrangement = b.arrangement;
          listed = b.listed;
          alive = follows_live b.arrangement b.listed b.follows;
          covers = subst (λ v. lays n k i v b.arrangement ≡ true) (has_is p small g d ℓ h i hi v m (there i v e))
              ((covers n k b.arrangement i (value_at n g ℓ i)).passes b.covers);
        }

    line_once : (i j v : ℕ) → i < n → j < n → i ≢ j → InHalf n ℓ v → places t ℓ i v ≡ true → places t ℓ j v ≡ false
    line_once i j v hi hj ne m e = false_of (places t ℓ j v) (λ q. ne (once_in_line p small g d ℓ h i j hi hj v m (there i v e) (there j v q)))

    line_closed : ClosedLine n k (target p ℓ) (places t ℓ)
    line_closed =
        record {
          lone = λ i j v hi hj ne m e _. line_once i j v hi hj ne m e;
          single = λ i v w hi m q e _ f. once_in_cell p small g d ℓ h i hi w v q m (there i w f) (there i v e);
          supported = line_supported;
        }

  -- ---- the table

  -- a cell that has blacks of one of its lines has some of the other
  blacks_onto : (ℓ m : Line) (i j : ℕ) → index ℓ < n → index m < n → i < n → j < n → row_of ℓ i ≡ row_of m j → column_of ℓ i ≡ column_of m j →
      (v : ℕ) → InHalf n ℓ v → 8 ≤ v → has_at n g ℓ i v ≡ true → (has_at n g m j (first_black m) ≡ true) ⊎ (has_at n g m j (suc (first_black m)) ≡ true)
  blacks_onto ℓ m i j hℓ hm hi hj er ec v q high e =
      let w = place_in n ℓ i hℓ hi in
      let b = has_black p small g d (row_of ℓ i) (column_of ℓ i) w.0 w.1 v (half_every n ℓ v q) high e in
      black_has p small g d m hm j hj (rw (er, ec) at b)

  blacks_same : (r c : ℕ) → r < n → c < n → (t r c left_black || t r c right_black) ≡ (t r c upper_black || t r c lower_black)
  unfolding index row_of column_of first_black
  blacks_same r c hr hc =
      test_ext (t r c 8 || t r c 9) (t r c 10 || t r c 11)
      (λ s. ⊎_elim (λ e. down_has (onto_column 8 (first_in n 8) (omega arith) e)) (λ e. down_has (onto_column 9 (second_in n 8) (omega arith) e))
      (or_split (t r c 8) (t r c 9) s))
      (λ s. ⊎_elim (λ e. across_has (onto_row 10 (first_in n 10) (omega arith) e)) (λ e. across_has (onto_row 11 (second_in n 10) (omega arith) e))
      (or_split (t r c 10) (t r c 11) s))
    where
      onto_column : (v : ℕ) → Memᴰ v (half n 8) → 8 ≤ v → t r c v ≡ true → (t r c 10 ≡ true) ⊎ (t r c 11 ≡ true)
      onto_column v q high e = blacks_onto (across r) (down c) c r hr hc hc hr refl refl v q high e

      onto_row : (v : ℕ) → Memᴰ v (half n 10) → 8 ≤ v → t r c v ≡ true → (t r c 8 ≡ true) ⊎ (t r c 9 ≡ true)
      onto_row v q high e = blacks_onto (down c) (across r) r c hc hr hr hc refl refl v q high e

      either : (a b : Bool) → (a ≡ true) ⊎ (b ≡ true) → (a || b) ≡ true
      either true b s = refl
      either false b s = ⊎_elim (λ e. absurd (true≢false (sym e))) (λ e. e) s

      down_has : (t r c 10 ≡ true) ⊎ (t r c 11 ≡ true) → (t r c 10 || t r c 11) ≡ true
      down_has s = either (t r c 10) (t r c 11) s

      across_has : (t r c 8 ≡ true) ⊎ (t r c 9 ≡ true) → (t r c 8 || t r c 9) ≡ true
      across_has s = either (t r c 8) (t r c 9) s

  grid_closed : Closed p t
  unfolding index places first_black
  grid_closed =
      record {
        lines = λ ℓ m. line_closed ℓ (in_line n ℓ m);
        crossed = λ r c i v hr hc hi m e _ ne. line_once (down c) hc r i v hr hi (λ q. ne (sym q)) (digit_in n upper_black m) e;
        crossed_back = λ r c j v hr hc hj m e _ ne. line_once (across r) hr c j v hc hj (λ q. ne (sym q)) (digit_in n left_black m) e;
        blacks = blacks_same;
      }

  pub grid_stable : Stable p t
  grid_stable =
      record {
        half_has = λ ℓ i h hi. (value_at n g ℓ i, value_in p small g d ℓ h i hi, value_there ℓ h i hi);
        value_has = λ ℓ v h m. let o = value_onto p small g d ℓ h v m in (o.0, o.1, places_cell t ℓ o.0 v ∙ o.2);
        closed = grid_closed;
        lone_set = record {
          set = λ ℓ i v h hi m e _ r c w hr hc q s.
              let x = place_in n ℓ i h hi in
              false_of (strikes (row_of ℓ i) (column_of ℓ i) v r c w)
              (λ z. true≢false (sym s
              ∙ strikes_has p small g d v (row_of ℓ i) (column_of ℓ i) r c w x.0 x.1 hr hc (half_every n ℓ v m) q (there ℓ h i v e) z));
        };
      }

-- A table that has all stable tables of the puzzle has all its grids.
pub stable_whole : (p : Puzzle) → p.size ≤ 9 → (t : Table) → KeepsStable p every_candidate t → Whole p t
stable_whole p small t s =
    record {
      whole = λ g d. has_fits p small g d t (s.keeps (has p.size g) (grid_stable p small g d) (record { kept = λ r c v hr hc m e. refl })).kept;
    }

-- Where a table shrinks and loses nothing of a stable table, it loses no grid.
pub keeps_same : {p : Puzzle} {t u : Table} → p.size ≤ 9 → Within p.size u t → KeepsStable p t u → SameGrids p t u
keeps_same {p} {t} {u} small w s =
    record {
      same = λ g d. test_ext (fits p.size t g) (fits p.size u g)
          (λ f. has_fits p small g d u ((s.keeps (has p.size g) (grid_stable p small g d) (record { kept = fits_has p small g d t f })).kept))
          (within_fits p small w g d);
    }
