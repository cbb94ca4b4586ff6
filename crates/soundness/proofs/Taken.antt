-- Setting a cell and striking a candidate: which grids still fit, and how a branch shares them out. Assumes nothing.
use Prim.Native.Nat.{ℕ, suc, ◌+◌, ◌≤◌, ◌<◌}
use mathlib.Core.Path.{◌≡◌, refl, sym, ap, ap₂, ◌∙◌, subst}
use mathlib.Core.Bool.{Bool, true, false, not, ◌&&◌, ◌||◌, true≢false, and_assoc, and-false, or-true}
use mathlib.Core.Logic.{◌≢◌, ◌⊎◌, inl, inr, ⊎_elim}
use mathlib.Core.List.{List, Memᴰ}
use native.Mathlib.Omega.{arith}
use native.Mathlib.Decide.{ℕ_discrete}
use lib.Dec.{eqb, ltb, leb}
use borrow.Author.Tests.{eqb-true, eqb-false, eq-eqb, ne_eqb, lt-ltb, le-leb, ltb-true, leb-true, not-true}
use Rattle.tally.specs.Tally.{count}
use Rattle.tally.proofs.TallyLaws.{and_left, and_right, and_both, test_ext, count_split, count_ext, or_split, false_of}
use Rattle.rules.specs.Grid.{Puzzle, Line, across, down, index, keeps}
use Rattle.rules.specs.Mark.{has, left_black, upper_black}
use Rattle.rules.specs.Number.{grids}
use Rattle.table.specs.Table.{Table, first_black, half, fits, left, in_row, in_column}
use Rattle.table.specs.Steps.{struck, strikes, taken}
use Rattle.line_laws.proofs.Half.{HalfValue, a_digit, a_first, a_second, half_value, digit_in}
use Rattle.line_laws.proofs.GridLines.{place_in}
use Rattle.line_laws.specs.Grids.{GridOf}
use Rattle.table.specs.Lines.{row_of, column_of}
use Rattle.soundness.proofs.GridValues.{value_at, has_at, by_line, has_own, value_in, value_has, once_in_cell, once_in_line, has_black, second_behind, first_before, fits_has, has_fits}
use Rattle.line_laws.proofs.CellValues.{CellValue, digit_value, row_black, column_black, cell_value, half_every}
use Rattle.table.specs.Value.{IsValue, InHalf}
use Rattle.soundness.proofs.SameLaws.{within_fits, count_grids}
use Rattle.soundness.specs.SameGrids.{Within}

-- ---- what setting a cell strikes

row_half : (n v : ℕ) → IsValue n v → in_row v ≡ true → Memᴰ v (half n left_black)
row_half n v m t = go (cell_value n v m)
  where
    go : CellValue n v → Memᴰ v (half n left_black)
    go (digit_value q u) = digit_in n 8 q
    go (row_black q l u) = q
    go (column_black q l u) = absurd (omega (arith, ltb-true v 10 t))

column_half : (n v : ℕ) → IsValue n v → in_column v ≡ true → Memᴰ v (half n upper_black)
column_half n v m t = go (cell_value n v m)
  where
    go : CellValue n v → Memᴰ v (half n upper_black)
    go (digit_value q u) = digit_in n 10 q
    go (row_black q l u) = absurd (⊎_elim (λ a. omega (arith, ltb-true v 8 a)) (λ a. omega (arith, leb-true 10 v a)) (or_split (ltb v 8) (leb 10 v) t))
    go (column_black q l u) = q

-- In a line with first black k, setting place a to v strikes the value w of place b.
data LineStrike (n k v a b w : ℕ) : Type 0 where
  elsewhere : Memᴰ v (half n k) → a ≢ b → w ≡ v → LineStrike n k v a b w
  other : Memᴰ v (half n k) → Memᴰ w (half n k) → b ≡ a → w ≢ v → LineStrike n k v a b w
  second_early : 8 ≤ v → b < a → w ≡ suc k → LineStrike n k v a b w
  first_late : 8 ≤ v → a < b → w ≡ k → LineStrike n k v a b w

or_four : {X : Type 0} (a b c d : Bool) → (a ≡ true → X) → (b ≡ true → X) → (c ≡ true → X) → (d ≡ true → X) → (a || (b || (c || d))) ≡ true → X
or_four true b c d f g h k t = f refl
or_four false true c d f g h k t = g refl
or_four false false true d f g h k t = h refl
or_four false false false d f g h k t = k t

-- Setting a cell strikes in its row or in its column.
strike_line : (n r c v i j w : ℕ) → IsValue n v → IsValue n w → strikes r c v i j w ≡ true →
    ((i ≡ r) × LineStrike n left_black v c j w) ⊎ ((j ≡ c) × LineStrike n upper_black v r i w)
unfolding strikes
strike_line n r c v i j w mv mw t = or_four in_rows in_columns in_cells _ along_row along_column in_cell blacks t
  where
    Result : Type 0
    Result = ((i ≡ r) × LineStrike n left_black v c j w) ⊎ ((j ≡ c) × LineStrike n upper_black v r i w)

    in_rows : Bool
    in_rows = eqb i r && (not (eqb j c) && (in_row v && eqb w v))

    in_columns : Bool
    in_columns = eqb j c && (not (eqb i r) && (in_column v && eqb w v))

    in_cells : Bool
    in_cells = eqb i r && (eqb j c && (not (eqb w v) && ((in_row v && in_row w) || (in_column v && in_column w))))

    -- the same value elsewhere in the line: the tests of the line, of the place and of the value
    same_value : (k a b : ℕ) (q : Bool) → (q ≡ true → Memᴰ v (half n k)) → (not (eqb b a) && (q && eqb w v)) ≡ true → LineStrike n k v a b w
    same_value k a b q m x =
        let y = and_right (not (eqb b a)) _ x in
        elsewhere (m (and_left q _ y)) (λ e. eqb-false b a (not-true (eqb b a) (and_left _ _ x)) (sym e)) (eqb-true w v (and_right q _ y))

    along_row : in_rows ≡ true → Result
    along_row x = inl (eqb-true i r (and_left _ _ x), same_value left_black c j (in_row v) (row_half n v mv) (and_right (eqb i r) _ x))

    along_column : in_columns ≡ true → Result
    along_column x = inr (eqb-true j c (and_left _ _ x), same_value upper_black r i (in_column v) (column_half n v mv) (and_right (eqb j c) _ x))

    in_cell : in_cells ≡ true → Result
    in_cell x =
        let y = and_right (eqb i r) _ x in
        let q = and_right (eqb j c) _ y in
        let er = eqb-true i r (and_left _ _ x) in
        let ec = eqb-true j c (and_left _ _ y) in
        let ne = eqb-false w v (not-true (eqb w v) (and_left _ _ q)) in
        ⊎_elim (λ a. inl (er, other (row_half n v mv (and_left (in_row v) _ a)) (row_half n w mw (and_right (in_row v) _ a)) ec ne))
        (λ a. inr (ec, other (column_half n v mv (and_left (in_column v) _ a)) (column_half n w mw (and_right (in_column v) _ a)) er ne))
        (or_split (in_row v && in_row w) (in_column v && in_column w) (and_right (not (eqb w v)) _ q))

    -- a line's blacks on the wrong side of place a
    wrong_side : ℕ → ℕ → ℕ → Bool
    wrong_side k a b = (ltb b a && eqb w (suc k)) || (ltb a b && eqb w k)

    wrong_side_lem : (k a b : ℕ) → 8 ≤ v → wrong_side k a b ≡ true → LineStrike n k v a b w
    wrong_side_lem k a b high y =
        ⊎_elim (λ q. second_early high (ltb-true b a (and_left _ _ q)) (eqb-true w (suc k) (and_right (ltb b a) _ q)))
        (λ q. first_late high (ltb-true a b (and_left _ _ q)) (eqb-true w k (and_right (ltb a b) _ q)))
        (or_split (ltb b a && eqb w (suc k)) (ltb a b && eqb w k) y)

    blacks : (leb 8 v && ((eqb i r && wrong_side left_black c j) || (eqb j c && wrong_side upper_black r i))) ≡ true → Result
    blacks x =
        let high = leb-true 8 v (and_left _ _ x) in
        ⊎_elim (λ y. inl (eqb-true i r (and_left _ _ y), wrong_side_lem left_black c j high (and_right (eqb i r) _ y)))
        (λ y. inr (eqb-true j c (and_left _ _ y), wrong_side_lem upper_black r i high (and_right (eqb j c) _ y)))
        (or_split (eqb i r && wrong_side left_black c j) (eqb j c && wrong_side upper_black r i) (and_right (leb 8 v) _ x))

-- Where a place has v, no place has what setting it to v strikes.
module _ (p : Puzzle) (small : p.size ≤ 9) (g : List ℕ) (d : GridOf p g) (v : ℕ) where
  line_struck : (ℓ : Line) → index ℓ < p.size → (a b w : ℕ) → a < p.size → b < p.size → IsValue p.size v → has_at p.size g ℓ a v ≡ true →
      LineStrike p.size (first_black ℓ) v a b w → has_at p.size g ℓ b w ≡ true → ⊥
  line_struck ℓ h a b w ha hb m s (elsewhere q ne e) u =
      ne (once_in_line p small g d ℓ h a b ha hb v q s (subst (λ x. has_at p.size g ℓ b x ≡ true) e u))
  line_struck ℓ h a b w ha hb m s (other q mw e ne) u =
      ne (once_in_cell p small g d ℓ h a ha w v mw q (subst (λ x. has_at p.size g ℓ x w ≡ true) e u) s)
  line_struck ℓ h a b w ha hb m s (second_early high lt e) u =
      let q = place_in p.size ℓ a h ha in
      second_behind p small g d ℓ h a ha (has_black p small g d (row_of ℓ a) (column_of ℓ a) q.0 q.1 v m high s) b lt
      (subst (λ x. has_at p.size g ℓ b x ≡ true) e u)
  line_struck ℓ h a b w ha hb m s (first_late high lt e) u =
      let q = place_in p.size ℓ a h ha in
      first_before p small g d ℓ h a ha (has_black p small g d (row_of ℓ a) (column_of ℓ a) q.0 q.1 v m high s) b lt
      (subst (λ x. has_at p.size g ℓ b x ≡ true) e u)

  pub strikes_has : (r c i j w : ℕ) → r < p.size → c < p.size → i < p.size → j < p.size → IsValue p.size v → IsValue p.size w →
      has p.size g r c v ≡ true → strikes r c v i j w ≡ true → has p.size g i j w ≡ false
  unfolding index first_black row_of column_of
  strikes_has r c i j w hr hc hi hj mv mw s t =
      false_of (has p.size g i j w) (λ u. ⊎_elim
      (λ q. line_struck (across r) hr c j w hc hj mv s q.1 (subst (λ x. has p.size g x j w ≡ true) q.0 u))
      (λ q. line_struck (down c) hc r i w hr hi mv s q.1 (subst (λ x. has p.size g i x w ≡ true) q.0 u))
      (strike_line p.size r c v i j w mv mw t))

-- ---- the cell itself

-- Setting a cell strikes the other values of a half that has its value.
pub strikes_here : (r c v w : ℕ) → ((in_row v && in_row w) || (in_column v && in_column w)) ≡ true → w ≢ v → strikes r c v r c w ≡ true
unfolding strikes
strikes_here r c v w t ne = rw (eq-eqb r r refl, eq-eqb c c refl, ne_eqb w v ne, t)

pub row_value : (n v : ℕ) → n ≤ 9 → Memᴰ v (half n left_black) → in_row v ≡ true
row_value n v z m = go (half_value n 8 v m)
  where
    go : HalfValue n 8 v → in_row v ≡ true
    go (a_digit q l u) = lt-ltb v 10 (omega arith)
    go (a_first e) = lt-ltb v 10 (omega arith)
    go (a_second e) = lt-ltb v 10 (omega arith)

pub column_value : (n v : ℕ) → n ≤ 9 → Memᴰ v (half n upper_black) → in_column v ≡ true
column_value n v z m = go (half_value n 10 v m)
  where
    go : HalfValue n 10 v → in_column v ≡ true
    go (a_digit q l u) = rw (lt-ltb v 8 (omega arith))
    go (a_first e) = rw (le-leb 10 v (omega arith)) (or-true (ltb v 8))
    go (a_second e) = rw (le-leb 10 v (omega arith)) (or-true (ltb v 8))

pub same_half_lem : (n : ℕ) → n ≤ 9 → (ℓ : Line) (v w : ℕ) → InHalf n ℓ v → InHalf n ℓ w →
    ((in_row v && in_row w) || (in_column v && in_column w)) ≡ true
unfolding first_black
same_half_lem n z (across r) v w mv mw = rw (row_value n v z mv, row_value n w z mw)
same_half_lem n z (down c) v w mv mw = rw (column_value n v z mv, column_value n w z mw) (or-true (in_row v && in_row w))

-- What is struck is gone, and nothing is added.
pub taken_gone : (t : Table) (r c v i j w : ℕ) → strikes r c v i j w ≡ true → taken t r c v i j w ≡ false
unfolding taken
taken_gone t r c v i j w e = rw (e, and-false (t i j w))

pub struck_gone : (t : Table) (r c v : ℕ) → struck t r c v r c v ≡ false
unfolding struck
struck_gone t r c v = rw (eq-eqb r r refl, eq-eqb c c refl, eq-eqb v v refl, and-false (t r c v))

pub taken_within : (n : ℕ) (t : Table) (r c v : ℕ) → Within n (taken t r c v) t
unfolding taken
taken_within n t r c v = record { kept = λ i j w hi hj m e. and_left (t i j w) _ e }

pub struck_within : (n : ℕ) (t : Table) (r c v : ℕ) → Within n (struck t r c v) t
unfolding struck
struck_within n t r c v = record { kept = λ i j w hi hj m e. and_left (t i j w) _ e }

-- ---- which grids fit

module _ (p : Puzzle) (small : p.size ≤ 9) (t : Table) (r c v : ℕ) (hr : r < p.size) (hc : c < p.size) (m : IsValue p.size v) where
  taken_has : (g : List ℕ) → GridOf p g → fits p.size (taken t r c v) g ≡ true → has p.size g r c v ≡ true
  taken_has g d = by_line n v (λ r c. fits n (taken t r c v) g ≡ true → has n g r c v ≡ true) at_place r c hr hc m
    where
      n : ℕ
      n = p.size

      at_place : (ℓ : Line) → index ℓ < n → (i : ℕ) → i < n → InHalf n ℓ v → fits n (taken t (row_of ℓ i) (column_of ℓ i) v) g ≡ true → has_at n g ℓ i v ≡ true
      at_place ℓ h i k q f =
          let a = row_of ℓ i in
          let b = column_of ℓ i in
          let x = value_at n g ℓ i in
          let mx = value_in p small g d ℓ h i k in
          let w = place_in n ℓ i h k in
          let kept = fits_has p small g d (taken t a b v) f a b x w.0 w.1 (half_every n ℓ x mx) (value_has p small g d ℓ h i k) in
          has_own p small g d ℓ h i k v q ∙ elim (ℕ_discrete x v) [
            | yes e ↦ eq-eqb v x (sym e)
            | no e ↦ absurd (true≢false (sym kept ∙ taken_gone t a b v a b x (strikes_here a b v x (same_half_lem n small ℓ v x q mx) e)))
          ]

  -- Setting a cell leaves just the grids that have the value there.
  pub taken_fits : (g : List ℕ) → GridOf p g → fits p.size (taken t r c v) g ≡ (fits p.size t g && has p.size g r c v)
  unfolding taken
  taken_fits g d =
      let n = p.size in
      test_ext (fits n (taken t r c v) g) (fits n t g && has n g r c v)
      (λ f. and_both (within_fits p small (taken_within n t r c v) g d f) (taken_has g d f))
      (λ f. has_fits p small g d (taken t r c v) (λ i j w hi hj mw s.
      and_both (fits_has p small g d t (and_left (fits n t g) _ f) i j w hi hj mw s) (ap not (false_of (strikes r c v i j w) (λ q.
      true≢false (sym s ∙ strikes_has p small g d v r c i j w hr hc hi hj m mw (and_right (fits n t g) _ f) q))))))

  -- Striking a candidate leaves just the grids that do not have the value there.
  pub struck_fits : (g : List ℕ) → GridOf p g → fits p.size (struck t r c v) g ≡ (fits p.size t g && not (has p.size g r c v))
  unfolding struck
  struck_fits g d =
      let n = p.size in
      test_ext (fits n (struck t r c v) g) (fits n t g && not (has n g r c v))
      (λ f. and_both (within_fits p small (struck_within n t r c v) g d f)
      (ap not (false_of (has n g r c v) (λ s. true≢false (sym (fits_has p small g d (struck t r c v) f r c v hr hc m s) ∙ struck_gone t r c v)))))
      (λ f. has_fits p small g d (struck t r c v) (λ i j w hi hj mw s.
      and_both (fits_has p small g d t (and_left (fits n t g) _ f) i j w hi hj mw s) (ap not (false_of (eqb i r && (eqb j c && eqb w v)) (λ q.
      let y = and_right (eqb i r) _ q in
      let e : has n g r c v ≡ true = rw (eqb-true i r (and_left _ _ q), eqb-true j c (and_left _ _ y), eqb-true w v (and_right (eqb j c) _ y)) at s in
      true≢false (sym e ∙ not-true (has n g r c v) (and_right (fits n t g) _ f)))))))

  -- A branch, whichever cell and value it takes, shares the grids out: those with the value, and those without.
  pub branch_left : left p t ≡ left p (taken t r c v) + left p (struck t r c v)
  unfolding left
  branch_left =
      count_split (λ g. keeps p g && fits n t g) q (grids n)
      ∙ ap₂ ◌+◌ (shared q (taken t r c v) taken_fits) (shared (λ g. not (q g)) (struck t r c v) struck_fits)
    where
      n : ℕ
      n = p.size

      q : List ℕ → Bool
      q g = has n g r c v

      shared : (q : List ℕ → Bool) (u : Table) → ((g : List ℕ) → GridOf p g → fits n u g ≡ (fits n t g && q g)) →
          count (λ g. keeps p g && fits n t g && q g) (grids n) ≡ count (λ g. keeps p g && fits n u g) (grids n)
      shared q u h = count_ext (λ g. and_assoc (keeps p g) (fits n t g) (q g)) (grids n) ∙ sym (count_grids p (fits n u) (λ g. fits n t g && q g) h)
