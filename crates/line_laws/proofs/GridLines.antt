-- The lines of a grid that keeps a puzzle, and of one that fits a table: each line and place by itself. Assumes nothing.
use Prim.Native.Nat.{ℕ, ◌*◌, ◌/◌, ◌%◌, ◌≤◌, ◌<◌}
use mathlib.Core.Path.{◌≡◌, refl, sym, ap, ◌∙◌, subst}
use mathlib.Core.Bool.{Bool, true}
use mathlib.Core.List.{List, map, Memᴰ}
use native.Mathlib.Omega.{arith}
use native.Mathlib.Nat.{mod-lt, div-add-mod', div-lt_iff_lt-mul}
use lib.ListN.{length, get_or}
use lib.Seq.{ext_get_or}
use Rattle.tally.specs.Tally.{all, span}
use Rattle.tally.proofs.TallyLaws.{and_left, and_right, and_both, span_in, span_mem, map_at}
use Rattle.tally.proofs.WayLaws.{all_each, way_length, all_in}
use Rattle.rules.specs.Grid.{lawful, line_sum, meets, keeps_line, Puzzle, Line, across, down, index, line, lines, target, cell, row, column}
use Rattle.rules.proofs.GridLaws.{line_in, all_lines, line_keeps, line_way, place_size}
use Rattle.rules.specs.Mark.{left_black}
use Rattle.table.specs.Table.{Table, places, first_black, half, own, fits}
use Rattle.table.specs.Lines.{Places, row_of, column_of}
use Rattle.line_laws.proofs.Parts.{LawfulLine}
use Rattle.line_laws.proofs.Values.{own_half, own_cell}
use Rattle.line_laws.specs.Grids.{GridOf}

-- ---- a place of a line as a cell

pub place_in : (n : ℕ) (ℓ : Line) (i : ℕ) → index ℓ < n → i < n → (row_of ℓ i < n) × (column_of ℓ i < n)
unfolding index row_of column_of
place_in n (across r) i h k = (h, k)
place_in n (down c) i h k = (k, h)

pub line_map : (n : ℕ) (g : List ℕ) (ℓ : Line) → line n g ℓ ≡ map (λ i. cell n g (row_of ℓ i) (column_of ℓ i)) (span 0 n)
unfolding line row column row_of column_of
line_map n g (across r) = refl
line_map n g (down c) = refl

pub line_cell : (n : ℕ) (g : List ℕ) (ℓ : Line) (i : ℕ) → i < n → get_or (line n g ℓ) i 0 ≡ cell n g (row_of ℓ i) (column_of ℓ i)
line_cell n g ℓ i h =
    ap (λ l. get_or l i 0) (line_map n g ℓ) ∙ map_at (λ i. cell n g (row_of ℓ i) (column_of ℓ i)) 0 n i h ∙ ap (λ x. cell n g (row_of ℓ x) (column_of ℓ x))
    (omega arith)

pub places_cell : (t : Table) (ℓ : Line) (i v : ℕ) → places t ℓ i v ≡ t (row_of ℓ i) (column_of ℓ i) v
unfolding places row_of column_of
places_cell t (across r) i v = refl
places_cell t (down c) i v = refl

-- ---- a test of each line

pub each_line : (q : Line → Bool) (n : ℕ) → ((ℓ : Line) → index ℓ < n → q ℓ ≡ true) → all q (lines n) ≡ true
unfolding index
each_line q n h =
    all_lines q n
    ∙ and_both (all_in (span 0 n) (λ r m. let b = span_in 0 n r m in h (across r) (omega arith)))
    (all_in (span 0 n) (λ c m. let b = span_in 0 n c m in h (down c) (omega arith)))

-- ---- grids of a puzzle

module _ (p : Puzzle) (g : List ℕ) (d : GridOf p g) where
  -- Its lines are lawful, and meet their targets.
  pub line_lawful : p.size ≤ 9 → (ℓ : Line) → index ℓ < p.size → LawfulLine p.size (line p.size g ℓ)
  unfolding keeps_line
  line_lawful z ℓ h =
      record {
        small = z;
        filled = line_way p.size g d.filled ℓ h;
        right = and_left (lawful p.size (line p.size g ℓ)) _ (line_keeps p g d.kept ℓ h);
      }

  pub line_meets : (ℓ : Line) → index ℓ < p.size → meets (target p ℓ) (line_sum (line p.size g ℓ)) ≡ true
  unfolding keeps_line
  line_meets ℓ h = and_right (lawful p.size (line p.size g ℓ)) _ (line_keeps p g d.kept ℓ h)

-- Grids with the same cells are equal.
pub grid_ext : (n : ℕ) (x y : List ℕ) → length x ≡ n * n → length y ≡ n * n → ((r c : ℕ) → r < n → c < n → cell n x r c ≡ cell n y r c) → x ≡ y
unfolding cell
grid_ext n x y a b h =
    ext_get_or 0 x y (a ∙ sym b)
    (λ i l. let k : i < n * n = omega arith in let z : 0 < n = place_size n i k in
    subst (λ j. get_or x j 0 ≡ get_or y j 0) (div-add-mod' i n) (h (i / n) (i % n) ((div-lt_iff_lt-mul z).1 k) (mod-lt i z)))

-- ---- grids that fit a table

-- The value of each place of a line is a candidate there.
abbrev pub FitsLine : ℕ → ℕ → Places → List ℕ → Type 0
FitsLine n k m l = (i : ℕ) → i < n → m i (own k l i) ≡ true

pub fits_at : (n : ℕ) (t : Table) (g : List ℕ) → fits n t g ≡ true → (ℓ : Line) → index ℓ < n → FitsLine n (first_black ℓ) (places t ℓ) (line n g ℓ)
unfolding fits
fits_at n t g f ℓ h i k =
    all_each (λ i. places t ℓ i (own (first_black ℓ) (line n g ℓ) i)) (span_mem 0 n i (omega arith) (omega arith))
    (all_each (λ ℓ. all (λ i. places t ℓ i (own (first_black ℓ) (line n g ℓ) i)) (span 0 n)) (line_in n ℓ h) f)

pub fits_all : (n : ℕ) (t : Table) (g : List ℕ) → ((ℓ : Line) → index ℓ < n → FitsLine n (first_black ℓ) (places t ℓ) (line n g ℓ)) → fits n t g ≡ true
unfolding fits
fits_all n t g f = each_line _ n (λ ℓ h. all_in (span 0 n) (λ i m. let b = span_in 0 n i m in f ℓ h i (omega arith)))

-- Two grids that fit a table with at most one candidate in each row half are equal.
pub fits_one : (p : Puzzle) (t : Table) → p.size ≤ 9 →
    ((r c : ℕ) → r < p.size → c < p.size → (v w : ℕ) → Memᴰ v (half p.size left_black) → Memᴰ w (half p.size left_black) → t r c v ≡ true →
    t r c w ≡ true → v ≡ w) →
    (x y : List ℕ) → GridOf p x → GridOf p y → fits p.size t x ≡ true → fits p.size t y ≡ true → x ≡ y
unfolding first_black places index row_of column_of
fits_one p t z one x y dx dy fx fy =
    let n = p.size in
    grid_ext n x y (way_length dx.filled) (way_length dy.filled) (λ r c h g.
    let lx = line_lawful p x dx z (across r) h in
    let ly = line_lawful p y dy z (across r) h in
    let e = one r c h g _ _ (own_half n 8 _ lx c g) (own_half n 8 _ ly c g) (fits_at n t x fx (across r) h c g) (fits_at n t y fy (across r) h c g) in
    sym (line_cell n x (across r) c g) ∙ own_cell n 8 (line n x (across r)) lx (omega arith) (line n y (across r)) ly c g e ∙ line_cell n y (across r) c g)
