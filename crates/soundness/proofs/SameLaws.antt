-- Tables that the same grids fit, and candidates that none or each of those grids has. Assumes nothing.
use Prim.Native.Nat.{ℕ, ◌*◌, ◌≤◌, ◌<◌}
use mathlib.Core.Path.{◌≡◌, refl, sym, ap, ◌∙◌}
use mathlib.Core.Bool.{Bool, true, false, ◌&&◌}
use mathlib.Core.List.{List}
use Rattle.tally.specs.Tally.{count}
use Rattle.tally.specs.Way.{Way}
use Rattle.tally.proofs.TallyLaws.{test_ext, count_ways}
use Rattle.rules.specs.Grid.{Puzzle, keeps}
use Rattle.rules.specs.Number.{grids}
use Rattle.rules.specs.Short.{symbols}
use Rattle.table.specs.Table.{Table, fits, left}
use Rattle.line_laws.specs.Grids.{GridOf}
use Rattle.soundness.proofs.GridValues.{fits_has, has_fits}
use Rattle.table.specs.Value.{IsValue}
use Rattle.soundness.specs.SameGrids.{Within, SameGrids}

-- ---- smaller tables

pub within_refl : (n : ℕ) (t : Table) → Within n t t
within_refl n t = record { kept = λ r c v hr hc m e. e }

pub within_trans : {n : ℕ} {s u t : Table} → Within n s u → Within n u t → Within n s t
within_trans a b = record { kept = λ r c v hr hc m e. b.kept r c v hr hc m (a.kept r c v hr hc m e) }

-- ---- tables with the same grids

pub same_trans : {p : Puzzle} {s t u : Table} → SameGrids p s t → SameGrids p t u → SameGrids p s u
same_trans a b = record { same = λ g d. a.same g d ∙ b.same g d }

-- Tests that agree on the grids of a puzzle count as many of them.
pub count_grids : (p : Puzzle) (q r : List ℕ → Bool) → ((g : List ℕ) → GridOf p g → q g ≡ r g) →
    count (λ g. keeps p g && q g) (grids p.size) ≡ count (λ g. keeps p g && r g) (grids p.size)
unfolding grids
count_grids p q r h = count_ways (symbols p.size) (p.size * p.size) (λ g w. go g w (keeps p g) refl)
  where
    go : (g : List ℕ) → Way (symbols p.size) (p.size * p.size) g → (b : Bool) → keeps p g ≡ b → (keeps p g && q g) ≡ (keeps p g && r g)
    go g w true e = ap (λ x. keeps p g && x) (h g (record { filled = w; kept = e }))
    go g w false e = rw e

-- As many grids are left.
pub same_left : {p : Puzzle} {t u : Table} → SameGrids p t u → left p t ≡ left p u
unfolding left
same_left {p} {t} {u} a = count_grids p (fits p.size t) (fits p.size u) a.same

-- ---- candidates

module _ (p : Puzzle) (small : p.size ≤ 9) where
  -- What fits a smaller table fits the table.
  pub within_fits : {u t : Table} → Within p.size u t → (g : List ℕ) → GridOf p g → fits p.size u g ≡ true → fits p.size t g ≡ true
  within_fits {u} {t} w g d f = has_fits p small g d t (λ r c v hr hc m s. w.kept r c v hr hc m (fits_has p small g d u f r c v hr hc m s))

  -- Tables with the same candidates have the same grids.
  pub same_ext : {t u : Table} → ((r c v : ℕ) → r < p.size → c < p.size → IsValue p.size v → t r c v ≡ u r c v) → SameGrids p t u
  same_ext {t} {u} h =
      record {
        same = λ g d. test_ext (fits p.size t g) (fits p.size u g) (within_fits (record { kept = λ r c v hr hc m e. sym (h r c v hr hc m) ∙ e }) g d)
            (within_fits (record { kept = λ r c v hr hc m e. h r c v hr hc m ∙ e }) g d);
      }
