-- A line read by its start and its stride, so that rows and columns are one case. Assumes nothing.
use Prim.Native.Nat.{ℕ, zero, suc, ◌+◌, ◌*◌, ◌<◌}
use mathlib.Core.Path.{◌≡◌, sym, ap, ◌∙◌}
use mathlib.Core.Bool.{Bool, ◌&&◌}
use mathlib.Core.List.{List, [], ◌∷◌, ◌++◌, map, map-append, map-map}
use native.Mathlib.Omega.{arith}
use native.Mathlib.Nat.{add_comm, mul-one, add-zero}
use lib.ListN.{length, get_or, length-map}
use lib.Seq.{ext_get_or}
use Rattle.tally.specs.Tally.{span, all, join}
use Rattle.tally.proofs.TallyLaws.{span_length, map_at}
use Rattle.rules.specs.Grid.{Line, across, down, line, lines, cell, row, column}
use Rattle.rules.proofs.GridLaws.{all_lines}
use Rattle.rules.specs.Check.{check_line}
use Rattle.rules.specs.Short.{check_lines}
use Rattle.rules.proofs.CheckLaws.{join_append}
use Rattle.rules.specs.Strided.{strided, each}

module _ {A : Type 0} (f : ℕ → A) where
  snoc : (a k : ℕ) → map f (span a (suc k)) ≡ map f (span a k) ++ f (a + k) ∷ []
  unfolding span
  snoc a zero = rw add-zero
  snoc a (suc k) = let e : suc a + k ≡ a + suc k = omega arith in rw (← e) (ap (λ l. f a ∷ l) (snoc (suc a) k))

  -- one more of the lines or cells 0, 1, ..
  pub map_next : (k : ℕ) → map f (span 0 (k + 1)) ≡ map f (span 0 k) ++ f k ∷ []
  map_next k = let e : k + 1 ≡ suc k = omega arith in let z : 0 + k ≡ k = omega arith in rw e (rw z at (snoc 0 k))

pub strided_next : (start stride : ℕ) (g : List ℕ) (k : ℕ) → strided start stride g (k + 1) ≡ strided start stride g k ++ get_or g (start + k * stride) 0 ∷ []
unfolding strided
strided_next start stride g k = map_next (λ j. get_or g (start + j * stride) 0) k

pub strided_length : (start stride : ℕ) (g : List ℕ) (k : ℕ) → length (strided start stride g k) ≡ k
unfolding strided
strided_length start stride g k = length-map (span 0 k) (λ j. get_or g (start + j * stride) 0) ∙ span_length 0 k

pub strided_at : (start stride : ℕ) (g : List ℕ) (k j : ℕ) → j < k → get_or (strided start stride g k) j 0 ≡ get_or g (start + j * stride) 0
unfolding strided
strided_at start stride g k j h = let z : 0 + j ≡ j = omega arith in rw z at (map_at (λ j. get_or g (start + j * stride) 0) 0 k j h)

pub strided_whole : (g : List ℕ) (n : ℕ) → length g ≡ n → strided 0 1 g n ≡ g
strided_whole g n e =
    ext_get_or 0 (strided 0 1 g n) g (strided_length 0 1 g n ∙ sym e)
    (λ i h. let z : 0 + i * 1 ≡ i = omega arith in rw z at (strided_at 0 1 g n i (omega (arith, strided_length 0 1 g n))))

pub row_strided : (n : ℕ) (g : List ℕ) (r : ℕ) → row n g r ≡ strided (r * n) 1 g n
unfolding row cell strided
row_strided n g r = simp mul-one

pub column_strided : (n : ℕ) (g : List ℕ) (c : ℕ) → column n g c ≡ strided (c * 1) n g n
unfolding column cell strided
column_strided n g c = simp (mul-one, add_comm c)

-- ---- n lines, that start at 0, at step, ..

module _ {A : Type 0} (f : List ℕ → A) (n : ℕ) (g : List ℕ) where
  pub rows_each : map (λ r. f (row n g r)) (span 0 n) ≡ each f n 1 g n n
  unfolding each
  rows_each = simp row_strided

  pub columns_each : map (λ c. f (column n g c)) (span 0 n) ≡ each f 1 n g n n
  unfolding each
  columns_each = simp column_strided

  -- the rows, then the columns
  pub lines_each : map (λ ℓ. f (line n g ℓ)) (lines n) ≡ each f n 1 g n n ++ each f 1 n g n n
  unfolding lines line
  lines_each =
      map-append (λ ℓ. f (line n g ℓ)) (map across (span 0 n)) (map down (span 0 n))
      ∙ rw (map-map (λ ℓ. f (line n g ℓ)) across (span 0 n), map-map (λ ℓ. f (line n g ℓ)) down (span 0 n), rows_each, columns_each)

pub checks_each : (n : ℕ) (g : List ℕ) → check_lines n g ≡ join (each check_line n 1 g n n) ++ join (each check_line 1 n g n n)
checks_each n g = ap join (lines_each check_line n g) ∙ join_append (each check_line n 1 g n n) (each check_line 1 n g n n)

-- a test of each line, with its number
pub all_each_line : (q : Line → List ℕ → Bool) (n : ℕ) (g : List ℕ) →
    all (λ ℓ. q ℓ (line n g ℓ)) (lines n)
    ≡ (all (λ i. q (across i) (strided (i * n) 1 g n)) (span 0 n) && all (λ i. q (down i) (strided (i * 1) n g n)) (span 0 n))
unfolding line
all_each_line q n g = all_lines (λ ℓ. q ℓ (line n g ℓ)) n ∙ simp (row_strided, column_strided)
