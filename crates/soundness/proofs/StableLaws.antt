-- Stable tables: what the rules strike is in none of them, a closed table that a grid fits is one, and there is one greatest. Assumes nothing.
use Prim.Native.Nat.{ℕ, suc, ◌+◌, ◌≤◌, ◌<◌}
use mathlib.Core.Path.{◌≡◌, refl, sym, ap, ◌∙◌, subst}
use mathlib.Core.Bool.{Bool, true, false, not, ◌||◌, cond, true≢false}
use native.Mathlib.Omega.{arith}
use native.Mathlib.Decide.{ℕ_discrete, dec_lt}
use mathlib.Core.List.{List, [], ◌∷◌}
use Rattle.tally.proofs.TallyLaws.{and_both, and_map, false_of, test_ext}
use Rattle.rules.specs.Grid.{Line, across, down, index, Puzzle}
use Rattle.table.specs.Table.{Table, places, first_black, fits}
use Rattle.table.specs.Closed.{Closed}
use Rattle.table.specs.Steps.{struck, taken, marked, marked_all}
use Rattle.rules.specs.Mark.{rejects, mark_row, mark_column, mark_value}
use Rattle.table.specs.Lines.{row_of, column_of}
use Rattle.table.specs.Value.{IsValue, InHalf}
use Rattle.table.specs.Stable.{Only, LoneSet, Stable}
use Rattle.rules.proofs.GridLaws.{line_in}
use Rattle.line_laws.specs.Grids.{GridOf}
use Rattle.line_laws.proofs.CellValues.{half_every, value_of, value_range}
use Rattle.line_laws.proofs.Half.{first_in, second_in}
use Rattle.line_laws.proofs.GridLines.{place_in, places_cell, fits_at}
use Rattle.soundness.proofs.GridValues.{value_at, value_in, value_onto, fits_place}
use Rattle.soundness.proofs.SameLaws.{within_refl, within_trans}
use Rattle.soundness.specs.SameGrids.{Within}
use Rattle.soundness.specs.Greatest.{KeepsStable, Greatest, every_candidate, GreatestAfter}

-- ---- steps

pub keeps_refl : (p : Puzzle) (t : Table) → KeepsStable p t t
keeps_refl p t = record { keeps = λ s a w. w }

pub keeps_trans : {p : Puzzle} {t u v : Table} → KeepsStable p t u → KeepsStable p u v → KeepsStable p t v
keeps_trans a b = record { keeps = λ s k w. b.keeps s k (a.keeps s k w) }

-- a table that has the same candidates
pub keeps_table : (p : Puzzle) (t u : Table) → ((r c v : ℕ) → t r c v ≡ u r c v) → KeepsStable p t u
keeps_table p t u e = record { keeps = λ s a w. record { kept = λ r c v hr hc m x. sym (e r c v) ∙ w.kept r c v hr hc m x } }

-- what lies within a table, at a place of a line
pub within_place : (n : ℕ) {s t : Table} → Within n s t → (ℓ : Line) (i v : ℕ) → index ℓ < n → i < n → InHalf n ℓ v → places s ℓ i v ≡ true →
    places t ℓ i v ≡ true
within_place n {s} {t} w ℓ i v h k m e =
    let q = place_in n ℓ i h k in
    places_cell t ℓ i v ∙ w.kept (row_of ℓ i) (column_of ℓ i) v q.0 q.1 (half_every n ℓ v m) (sym (places_cell s ℓ i v) ∙ e)

-- ---- the rules

pub or_none : (a b : Bool) → (a || b) ≡ false → (a ≡ false) × (b ≡ false)
or_none true b e = absurd (true≢false e)
or_none false b e = (refl, e)

-- what holds of two neighbours holds of each value from the one to the other
pub one_of : (k w : ℕ) (Q : ℕ → Type 0) → Q k → Q (suc k) → k ≤ w → w < k + 2 → Q w
one_of k w Q a b h g = elim (ℕ_discrete w k) [ yes e ↦ subst Q (sym e) a | no e ↦ let s : suc k ≡ w = omega arith in subst Q s b ]

module _ (p : Puzzle) (t s : Table) (a : Stable p s) (w : Within p.size s t) (ℓ : Line) (i : ℕ) (h : index ℓ < p.size) (k : i < p.size) where
  -- where the half of a stable table has no candidate but v, setting the cell to v leaves it within
  only_taken : (v : ℕ) → InHalf p.size ℓ v → Only p.size s ℓ i v → Within p.size s (taken t (row_of ℓ i) (column_of ℓ i) v)
  unfolding taken
  only_taken v m only =
      record {
        kept = λ r c x hr hc q e. and_both (w.kept r c x hr hc q e)
            (ap not (a.lone_set.set ℓ i v h k m (there (a.half_has ℓ i h k)) only r c x hr hc q e));
      }
    where
      there : (v : ℕ) × InHalf p.size ℓ v × (places s ℓ i v ≡ true) → places s ℓ i v ≡ true
      there x = subst (λ y. places s ℓ i y ≡ true) (only x.0 x.1 x.2) x.2

  -- the last candidate of a half is set
  pub naked_stable : (v : ℕ) → InHalf p.size ℓ v → Only p.size t ℓ i v → Within p.size s (taken t (row_of ℓ i) (column_of ℓ i) v)
  naked_stable v m only = only_taken v m (λ x q e. only x q (within_place p.size w ℓ i x h k q e))

  -- the last place of a value is set
  pub hidden_stable : (v : ℕ) → InHalf p.size ℓ v → ((j : ℕ) → j < p.size → places t ℓ j v ≡ true → j ≡ i) →
      Within p.size s (taken t (row_of ℓ i) (column_of ℓ i) v)
  hidden_stable v m only = only_taken v m (λ x q e. (a.closed.lines ℓ (line_in p.size ℓ h)).single i v x k m q here alone e)
    where
      alone : (j : ℕ) → j < p.size → places s ℓ j v ≡ true → j ≡ i
      alone j hj e = only j hj (within_place p.size w ℓ j v h hj m e)

      here : places s ℓ i v ≡ true
      here = let o = a.value_has ℓ v h m in subst (λ j. places s ℓ j v ≡ true) (alone o.0 o.1 o.2) o.2

  -- a cell without the blacks of one of its lines has none
  pub crossed_stable : p.size ≤ 9 → places t ℓ i (first_black ℓ) ≡ false → places t ℓ i (suc (first_black ℓ)) ≡ false → (v : ℕ) → IsValue p.size v → 8 ≤ v →
      s (row_of ℓ i) (column_of ℓ i) v ≡ false
  unfolding index places first_black row_of column_of
  crossed_stable small b c v m high =
      black v
      (none ℓ i h k (own (first_black ℓ) (first_in p.size (first_black ℓ)) b) (own (suc (first_black ℓ)) (second_in p.size (first_black ℓ)) c))
      high (value_range small (value_of p.size v m)).1
    where
      Black : ℕ → ℕ → ℕ → Type 0
      Black r c v = s r c v ≡ false

      None : ℕ → ℕ → Type 0
      None r c = Black r c 8 × Black r c 9 × Black r c 10 × Black r c 11

      own : (v : ℕ) → InHalf p.size ℓ v → places t ℓ i v ≡ false → places s ℓ i v ≡ false
      own v m e = false_of (places s ℓ i v) (λ q. true≢false (sym (within_place p.size w ℓ i v h k m q) ∙ e))

      none : (ℓ : Line) (i : ℕ) → index ℓ < p.size → i < p.size → places s ℓ i (first_black ℓ) ≡ false → places s ℓ i (suc (first_black ℓ)) ≡ false →
          None (row_of ℓ i) (column_of ℓ i)
      none (across r) i h k x y = let z = or_none (s r i 10) (s r i 11) (sym (a.closed.blacks r i h k) ∙ rw (x, y)) in (x, y, z.0, z.1)
      none (down c) i h k x y = let z = or_none (s i c 8) (s i c 9) (a.closed.blacks i c k h ∙ rw (x, y)) in (z.0, z.1, x, y)

      black : (v : ℕ) → None (row_of ℓ i) (column_of ℓ i) → 8 ≤ v → v < 12 → s (row_of ℓ i) (column_of ℓ i) v ≡ false
      black v n l u =
          elim (dec_lt v 10) [
            | yes b ↦ one_of 8 v (Black (row_of ℓ i) (column_of ℓ i)) n.0 n.1 l b
            | no b ↦ one_of 10 v (Black (row_of ℓ i) (column_of ℓ i)) n.2 n.3 (omega arith) (omega arith)
          ]

-- ---- the greatest

-- A closed table in which what is alone is set, and which some grid fits, is stable.
pub stable_fits : (p : Puzzle) → p.size ≤ 9 → (t : Table) → Closed p t → LoneSet p.size t → (g : List ℕ) → GridOf p g → fits p.size t g ≡ true → Stable p t
stable_fits p small t c l g d f =
    record {
      half_has = λ ℓ i h k. (value_at p.size g ℓ i, value_in p small g d ℓ h i k, fits_at p.size t g f ℓ h i k);
      value_has = λ ℓ v h m. let o = value_onto p small g d ℓ h v m in (o.0, o.1, fits_place p small g d ℓ h t f o.0 o.1 v m o.2);
      closed = c;
      lone_set = l;
    }

-- There is one, whatever equal table it lies within.
pub greatest_same : (p : Puzzle) (m m' t u : Table) → Within p.size m m' → Within p.size m' m → Greatest p m t → Greatest p m' u →
    (r c v : ℕ) → r < p.size → c < p.size → IsValue p.size v → t r c v ≡ u r c v
greatest_same p m m' t u x y a b r c v hr hc q =
    test_ext (t r c v) (u r c v) ((b.greatest.keeps t a.stable (within_trans a.within x)).kept r c v hr hc q)
    ((a.greatest.keeps u b.stable (within_trans b.within y)).kept r c v hr hc q)

-- ---- after marks

-- a mark leaves a table within another within it
marked_within : {n : ℕ} {t u : Table} (m : ℕ) → Within n t u → Within n (marked t m) (marked u m)
unfolding marked struck taken
marked_within {n} {t} {u} m w = go (rejects m)
  where
    go : (b : Bool) → Within n (cond b (struck t (mark_row m) (mark_column m) (mark_value m)) (taken t (mark_row m) (mark_column m) (mark_value m)))
        (cond b (struck u (mark_row m) (mark_column m) (mark_value m)) (taken u (mark_row m) (mark_column m) (mark_value m)))
    go true = record { kept = λ r c v hr hc q e. and_map (w.kept r c v hr hc q) (λ b. b) e }
    go false = record { kept = λ r c v hr hc q e. and_map (w.kept r c v hr hc q) (λ b. b) e }

marks_within : {n : ℕ} (t u : Table) (ms : List ℕ) → Within n t u → Within n (marked_all t ms) (marked_all u ms)
unfolding marked_all
marks_within t u [] w = w
marks_within t u (m ∷ ms) w = marks_within (marked t m) (marked u m) ms (marked_within m w)

-- There is one greatest table after marks.
pub after_same : (p : Puzzle) (ms : List ℕ) (t u : Table) → GreatestAfter p ms t → GreatestAfter p ms u →
    (r c v : ℕ) → r < p.size → c < p.size → IsValue p.size v → t r c v ≡ u r c v
after_same p ms t u a b =
    greatest_same p (marked_all a.before ms) (marked_all b.before ms) t u (marks_within a.before b.before ms (inside a.before b.before (same a b)))
    (marks_within b.before a.before ms (inside b.before a.before (same b a)))
    a.after b.after
  where
    same : {t u : Table} (a : GreatestAfter p ms t) (b : GreatestAfter p ms u) →
        (r c v : ℕ) → r < p.size → c < p.size → IsValue p.size v → a.before r c v ≡ b.before r c v
    same a b = greatest_same p every_candidate every_candidate a.before b.before (within_refl p.size every_candidate)
        (within_refl p.size every_candidate) a.first b.first

    inside : (x y : Table) → ((r c v : ℕ) → r < p.size → c < p.size → IsValue p.size v → x r c v ≡ y r c v) → Within p.size x y
    inside x y f = record { kept = λ r c v hr hc q e. sym (f r c v hr hc q) ∙ e }
