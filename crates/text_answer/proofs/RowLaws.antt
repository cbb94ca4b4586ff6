-- The text of a grid, row by row. Assumes nothing.
use Rattle.std.proofs.Common.{ℕ, zero, suc, ◌+◌, ◌-◌, ◌*◌, ◌≤◌, ◌<◌, ◌≡◌, refl, sym, ap, ◌∙◌, Bool, true, false, cond, List, [], ◌∷◌, ◌++◌, map, append_assoc, append-nil, length, get_or, take, drop, length-append, length-drop, arith, add-one}
use mathlib.Core.Path.{ap₂}
use native.Mathlib.Nat.{mul-le-mul, mul-le-mul_right}
use lib.Dec.{eqb}
use lib.ListN.{length-take, length-map, take-append-drop}
use lib.Seq.{take-suc, get_or-drop}
use borrow.Author.Tests.{ne_eqb}
use Rattle.tally.specs.Tally.{all, span}
use Rattle.tally.proofs.TallyLaws.{and_left, and_right, all_append, span_length}
use Rattle.rules.specs.Grid.{cell, row}
use Rattle.rules.proofs.StridedLaws.{map_next}
use Rattle.text_rules.specs.Text.{cell_text, joined, grid_text}
use Rattle.text_answer.specs.declared.Grid.{Grid}
use Rattle.text_answer.specs.Shown.{Shown, shown, led, RowAsk, GridAsk}

-- ---- cells that have a text

pub cell_shown : (row : List ℕ) (i : ℕ) → i < length row → all shown row ≡ true → Shown (get_or row i 0)
unfolding all
cell_shown [] i h t = absurd (omega arith)
cell_shown (c ∷ row) zero h t = and_left (shown c) (all shown row) t
cell_shown (c ∷ row) (suc i) h t = cell_shown row i (omega arith) (and_right (shown c) (all shown row) t)

all_part : (q : ℕ → Bool) (k a : ℕ) (l : List ℕ) → all q l ≡ true → all q (take k (drop a l)) ≡ true
all_part q k a l t =
    let b : all q (drop a l) ≡ true = and_right (all q (take a l)) (all q (drop a l)) (sym (all_append q (take a l) (drop a l)) ∙ rw (take-append-drop a l) t) in
    and_left (all q (take k (drop a l))) (all q (drop k (drop a l)))
    (sym (all_append q (take k (drop a l)) (drop k (drop a l))) ∙ rw (take-append-drop k (drop a l)) b)

-- a row of a grid is a part of its cells
row_part : (g : List ℕ) (a k : ℕ) → a + k ≤ length g → map (λ c. get_or g (a + c) 0) (span 0 k) ≡ take k (drop a g)
unfolding span
row_part g a zero h = refl
row_part g a (suc k) h =
    let n = length-drop a g in
    ap (λ m. map (λ c. get_or g (a + c) 0) (span 0 m)) (sym (add-one k))
    ∙ map_next (λ c. get_or g (a + c) 0) k
    ∙ ap₂ ◌++◌ (row_part g a k (omega arith)) (ap (λ x. x ∷ []) (sym (get_or-drop a g k 0)))
    ∙ sym (take-suc (drop a g) k 0 (omega arith))

-- ---- the rows

joined_more : (u : List ℕ) (ts : List (List ℕ)) (t : List ℕ) → joined ((u ∷ ts) ++ t ∷ []) ≡ joined (u ∷ ts) ++ 47 ∷ t
unfolding joined
joined_more u [] t = refl
joined_more u (v ∷ ts) t = ap (λ x. u ++ 47 ∷ x) (joined_more v ts t) ∙ sym (append_assoc u (47 ∷ joined (v ∷ ts)) (47 ∷ t))

-- one row more
joined_next : (f : ℕ → List ℕ) (r : ℕ) → joined (map f (span 0 (r + 1))) ≡ joined (map f (span 0 r)) ++ led r (f r)
unfolding span led joined
joined_next f zero = ap joined (map_next f 0)
joined_next f (suc r) =
    ap joined (map_next f (suc r))
    ∙ joined_more (f 0) (map f (span 1 r)) (f (suc r))
    ∙ ap (λ b. joined (map f (span 0 (suc r))) ++ cond b (f (suc r)) (47 ∷ f (suc r))) (sym (ne_eqb (suc r) 0 (λ e. omega arith)))

led_long : (r : ℕ) (t : List ℕ) → length (led r t) ≤ length t + 1
unfolding led
led_long r t = elim (eqb r 0) as (λ b. length (cond b t (47 ∷ t)) ≤ length t + 1) [ true ↦ omega arith | false ↦ omega arith ]

-- the text of row r
abbrev pub row_text : ℕ → List ℕ → ℕ → List ℕ
row_text n g r = map cell_text (row n g r)

-- The rows in front of a row, joined, are at most 10 bytes a row.
joined_short : (n : ℕ) (g : List ℕ) (r : ℕ) → n ≤ 9 → length (joined (map (row_text n g) (span 0 r))) ≤ 10 * r
unfolding joined span row
joined_short n g zero h = omega arith
joined_short n g (suc r) h =
    let long : length (row_text n g r) ≡ n = length-map (row n g r) cell_text ∙ length-map (span 0 n) (λ c. cell n g r c) ∙ span_length 0 n in
    let next = ap (λ k. joined (map (row_text n g) (span 0 k))) (sym (add-one r)) ∙ joined_next (row_text n g) r in
    let both = length-append (joined (map (row_text n g) (span 0 r))) (led r (row_text n g r)) in
    omega (arith, ap length next, both, joined_short n g r h, led_long r (row_text n g r), long)

pub grid_short : (n : ℕ) (g : List ℕ) → n ≤ 9 → length (grid_text n g) ≤ 90
unfolding grid_text
grid_short n g h = omega (arith, joined_short n g n h)

-- The first r rows are written behind what the buffer held.
pub record RowsPut (n : ℕ) (g out l : List ℕ) (r : ℕ) : Type 0 where
  pub put : l ≡ out ++ joined (map (row_text n g) (span 0 r))

pub rows_start : (n : ℕ) (g out : List ℕ) → RowsPut n g out out 0
unfolding joined span
rows_start n g out = record { put = sym (append-nil out) }

pub rows_end : {n : ℕ} {g out l : List ℕ} → RowsPut n g out l n → l ≡ out ++ grid_text n g
unfolding grid_text
rows_end w = w.put

pub row_within : (grid : Grid) {r : ℕ} → r < grid.n → (r * grid.n + grid.n ≤ length grid.cells.now) × (length grid.cells.now ≤ 81)
row_within grid h = omega (arith, grid.square, mul-le-mul_right grid.n h, mul-le-mul grid.few grid.few)

module _ (grid : Grid) {out l : List ℕ} {r room : ℕ} (a : GridAsk grid.cells.now room) (w : RowsPut grid.n grid.cells.now out l r) (h : r < grid.n) where
  abbrev n : ℕ
  n = grid.n

  abbrev g : List ℕ
  g = grid.cells.now

  abbrev cells : List ℕ
  cells = take (r * n + n - r * n) (drop (r * n) g)

  cells_long : length cells ≡ n
  cells_long =
      length-take (r * n + n - r * n) (drop (r * n) g) ∙ omega (arith, length-drop (r * n) g, row_within grid h)

  row_is : row n g r ≡ cells
  unfolding row cell
  row_is = let e : n ≡ r * n + n - r * n = omega arith in row_part g (r * n) n (row_within grid h).0 ∙ ap (λ k. take k (drop (r * n) g)) e

  pub row_ask : (capacity : ℕ) → room ≡ capacity - length out → RowAsk cells (capacity - length l)
  row_ask capacity e =
      record {
        cells = all_part shown (r * n + n - r * n) (r * n) g a.cells;
        fits =
            let both = length-append out (joined (map (row_text n g) (span 0 r))) in
            omega (arith, cells_long, ap length w.put, both, joined_short n g r grid.few, grid.few, a.fits);
      }

  pub rows_next : {l' : List ℕ} → l' ≡ l ++ led r (map cell_text cells) → RowsPut n g out l' (r + 1)
  rows_next {l'} v =
      let e : joined (map (row_text n g) (span 0 (r + 1))) ≡ joined (map (row_text n g) (span 0 r)) ++ led r (map cell_text cells) =
      joined_next (row_text n g) r ∙ ap (λ t. joined (map (row_text n g) (span 0 r)) ++ led r (map cell_text t)) row_is in
      record { put = v ∙ ap (λ t. t ++ led r (map cell_text cells)) w.put ∙ append_assoc out _ _ ∙ ap (λ t. out ++ t) (sym e) }
