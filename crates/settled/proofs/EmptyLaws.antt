-- A cell with no candidate left in one of its halves leaves no grid. Assumes nothing.
use Prim.Native.Nat.{ℕ, ◌≤◌, ◌<◌}
use mathlib.Core.Path.{◌≡◌, sym, ◌∙◌}
use mathlib.Core.Bool.{false, true≢false}
use mathlib.Core.List.Memᴰ
use mathlib.Core.List.{Memᴰ}
use Rattle.rules.specs.Grid.{Puzzle, Line, across, index, line}
use Rattle.table.specs.Table.{Table, places, first_black, half, every_value, left}
use Rattle.line_laws.proofs.Values.{own_half}
use Rattle.line_laws.proofs.GridLines.{line_lawful, fits_at}
use Rattle.settled.proofs.LeftLaws.{left_none}
use Rattle.settled.specs.EmptyCell.{Empty}

-- A half of a place has no candidate.
pub empty_half : (p : Puzzle) (t : Table) → p.size ≤ 9 → (ℓ : Line) → index ℓ < p.size → (i : ℕ) → i < p.size →
    ((v : ℕ) → Memᴰ v (half p.size (first_black ℓ)) → places t ℓ i v ≡ false) → left p t ≡ 0
empty_half p t z ℓ h i k none =
    left_none p t (λ g d f. true≢false
    (sym (fits_at p.size t g f ℓ h i k) ∙ none _ (own_half p.size (first_black ℓ) (line p.size g ℓ) (line_lawful p g d z ℓ h) i k)))

-- A whole cell has none.
pub empty_left : (p : Puzzle) (t : Table) → p.size ≤ 9 → (r c : ℕ) → r < p.size → c < p.size → Empty p.size t r c → left p t ≡ 0
unfolding every_value first_black places index
empty_left p t z r c h k none = empty_half p t z (across r) h c k (λ v m. none v (Memᴰ.append_left _ m))
