-- The lines of a grid as a list: each is in it, and a test of all of them is a test of the rows and of the columns. Assumes nothing.
use Prim.Native.Nat.{ℕ, zero, suc, ◌+◌, ◌-◌, ◌*◌, ◌≤◌, ◌<◌}
use lib.Dec.{eqb}
use mathlib.Core.Path.{◌≡◌, ap₂, ◌∙◌, subst, sym}
use mathlib.Core.Logic.{⊎_elim}
use mathlib.Core.Bool.{Bool, true, ◌&&◌}
use mathlib.Core.List.Memᴰ
use mathlib.Core.List.{List, ◌∷◌, map, Memᴰ}
use native.Mathlib.Omega.{arith}
use native.Mathlib.Nat.{mul-le-mul_right}
use Rattle.tally.specs.Tally.{span, all, count}
use Rattle.tally.specs.Way.{Way}
use Rattle.tally.proofs.TallyLaws.{Once, all_append, span_in, span_mem, span_length, span_past, span_once, bit_ne}
use Rattle.tally.proofs.WayLaws.{of_map, all_each, all_of_map, way_cell, way_map, way_in, in_way}
use Rattle.rules.specs.Grid.{black, digits, keeps_line, Line, across, down, index, line, lines, row, column, cell, Puzzle, target, keeps}
use Rattle.rules.specs.Number.{grids, solves, Solution}
use Rattle.rules.specs.Short.{symbols}

-- a cell's place in the list of cells
pub place_lt : (n r c : ℕ) → r < n → c < n → r * n + c < n * n
place_lt n r c h g = omega (arith, mul-le-mul_right n h)

pub place_size : (n i : ℕ) → i < n * n → 0 < n
place_size zero i h = absurd (omega arith)
place_size (suc n) i h = omega arith

pub line_in : (n : ℕ) (ℓ : Line) → index ℓ < n → Memᴰ ℓ (lines n)
unfolding lines index
line_in n (across r) h = Memᴰ.append_left (map down (span 0 n)) (Memᴰ.map across (span_mem 0 n r (omega arith) (omega arith)))
line_in n (down c) h = Memᴰ.append_right (map across (span 0 n)) (Memᴰ.map down (span_mem 0 n c (omega arith) (omega arith)))

-- and what is in the list is a line of the grid
pub in_line : (n : ℕ) (ℓ : Line) → Memᴰ ℓ (lines n) → index ℓ < n
unfolding lines index
in_line n ℓ m =
    ⊎_elim
    (λ k. let q = of_map across (span 0 n) k in subst (λ x. index x < n) (sym q.2) (omega (arith, span_in 0 n q.0 q.1)))
    (λ k. let q = of_map down (span 0 n) k in subst (λ x. index x < n) (sym q.2) (omega (arith, span_in 0 n q.0 q.1)))
    (Memᴰ.append_cases (map across (span 0 n)) m)

pub all_lines : (q : Line → Bool) (n : ℕ) → all q (lines n) ≡ (all (λ r. q (across r)) (span 0 n) && all (λ c. q (down c)) (span 0 n))
unfolding lines
all_lines q n = all_append q (map across (span 0 n)) (map down (span 0 n)) ∙ ap₂ ◌&&◌ (all_of_map q across (span 0 n)) (all_of_map q down (span 0 n))

-- each line of a grid that keeps a puzzle keeps its target
pub line_keeps : (p : Puzzle) (g : List ℕ) → keeps p g ≡ true → (ℓ : Line) → index ℓ < p.size → keeps_line p.size (target p ℓ) (line p.size g ℓ) ≡ true
unfolding keeps
line_keeps p g t ℓ h = all_each (λ ℓ. keeps_line p.size (target p ℓ) (line p.size g ℓ)) (line_in p.size ℓ h) t

-- the lines of a way to fill the cells are ways to fill n cells
module _ (n : ℕ) (g : List ℕ) (w : Way (symbols n) (n * n) g) where
  pub line_way : (ℓ : Line) → index ℓ < n → Way (symbols n) n (line n g ℓ)
  unfolding line index row column cell
  line_way (across r) h =
      subst (λ k. Way (symbols n) k (row n g r)) (span_length 0 n)
      (way_map (λ c. cell n g r c) (span 0 n) (λ c m. let i = span_in 0 n c m in way_cell 0 w (r * n + c) (place_lt n r c h (omega arith))))
  line_way (down c) h =
      subst (λ k. Way (symbols n) k (column n g c)) (span_length 0 n)
      (way_map (λ r. cell n g r c) (span 0 n) (λ r m. let i = span_in 0 n r m in way_cell 0 w (r * n + c) (place_lt n r c (omega arith) h)))

-- ---- a solution is a way that is right

-- black and the digits are different values
black_once : (n : ℕ) → n ≤ 9 → count (eqb black) (black ∷ digits n) ≡ 1
unfolding count digits
black_once n h = let none : count (eqb black) (digits n) ≡ 0 = span_past 1 (n - 2) 255 (omega arith) in omega arith

pub symbols_once : (n : ℕ) → n ≤ 9 → Once (symbols n)
unfolding Once digits count
symbols_once n h c (Memᴰ.head e) = subst (λ k. count (eqb k) (symbols n) ≡ 1) (sym e) (black_once n h)
symbols_once n h c (Memᴰ.tail m) =
    let r = span_in 1 (n - 2) c m in omega (arith, bit_ne c black (omega arith), span_once 1 (n - 2) c r.0 r.1)

pub solution_way : {p : Puzzle} {ms g : List ℕ} → Solution p ms g → Way (symbols p.size) (p.size * p.size) g
unfolding grids
solution_way {p} s = in_way (symbols p.size) (p.size * p.size) s.among

pub way_solution : {p : Puzzle} {ms g : List ℕ} → Way (symbols p.size) (p.size * p.size) g → solves p ms g ≡ true → Solution p ms g
unfolding grids
way_solution w e = record { among = way_in w; right = e }
