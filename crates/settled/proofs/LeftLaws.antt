-- No grid, and exactly one grid, that keeps a puzzle and fits a table. Assumes nothing.
use Prim.Native.Nat.{ℕ, ◌*◌, ◌≤◌}
use mathlib.Core.Path.{◌≡◌}
use mathlib.Core.Bool.{true, ◌&&◌}
use mathlib.Core.List.{List}
use Rattle.tally.proofs.TallyLaws.{and_left, and_right, and_both, count_none, count_one}
use Rattle.rules.specs.Grid.{Puzzle, keeps}
use Rattle.rules.specs.Number.{grids}
use Rattle.rules.specs.Short.{symbols}
use Rattle.rules.proofs.GridLaws.{symbols_once}
use Rattle.table.specs.Table.{Table, fits, left}
use Rattle.line_laws.specs.Grids.{GridOf}

module _ (p : Puzzle) where
  -- NONE
  pub left_none : (t : Table) → ((g : List ℕ) → GridOf p g → fits p.size t g ≡ true → ⊥) → left p t ≡ 0
  unfolding left grids
  left_none t h =
      count_none (symbols p.size) (p.size * p.size) (λ g. keeps p g && fits p.size t g)
      (λ g w e. h g (record { filled = w; kept = and_left (keeps p g) _ e }) (and_right (keeps p g) _ e))

  -- ONE
  pub left_one : p.size ≤ 9 → (t : Table) (g : List ℕ) → GridOf p g → fits p.size t g ≡ true →
      ((x : List ℕ) → GridOf p x → fits p.size t x ≡ true → x ≡ g) → left p t ≡ 1
  unfolding left grids
  left_one z t g d f u =
      count_one (symbols p.size) (symbols_once p.size z) (p.size * p.size) (λ g. keeps p g && fits p.size t g) g d.filled (and_both d.kept f)
      (λ x w e. u x (record { filled = w; kept = and_left (keeps p x) _ e }) (and_right (keeps p x) _ e))
