-- A lawful line of n cells holds nothing but blacks and digits, so its sum is at most the greatest target, and a sheet that keeps a puzzle is one of its grids.
-- Assumes nothing.
use Prim.Native.Nat.{ℕ, ◌+◌, ◌-◌, ◌*◌, ◌/◌, ◌%◌, ◌≤◌, ◌<◌}
use mathlib.Core.Path.{◌≡◌, refl, sym, ◌∙◌, subst}
use mathlib.Core.Bool.{true}
use mathlib.Core.List.Memᴰ
use mathlib.Core.List.{List, map, map-id, Memᴰ}
use native.Mathlib.Omega.{arith}
use native.Mathlib.Nat.{mod-lt, div-add-mod', div-lt_iff_lt-mul}
use native.Mathlib.Decide.{dec_lt}
use lib.Dec.{eqb}
use lib.ListN.{length, get_or, length-map}
use borrow.Author.Tests.{eqb-true, eq-eqb}
use Rattle.tally.specs.Tally.{all, count, sum, span}
use Rattle.tally.specs.Way.{Way}
use Rattle.tally.proofs.TallyLaws.{Once, and_left, and_right, test_ext, count_ext, sum_on, span_mem, span_length}
use Rattle.tally.proofs.WayLaws.{all_each, way_map}
use Rattle.rules.specs.Grid.{black, is_black, digits, digits_once, two_blacks, lawful, line_sum, keeps_line, Puzzle, across, index, line, row, cell, keeps}
use Rattle.rules.specs.Check.{max_target}
use Rattle.rules.specs.Short.{symbols}
use Rattle.rules.specs.Size.{Size}
use Rattle.rules.proofs.GridLaws.{line_keeps, place_size, symbols_once}
use Rattle.rules.proofs.SizeLaws.{at_size}
use Rattle.line_laws.specs.Grids.{GridOf}
use Rattle.line_laws.proofs.Lists.{count_in, mem_place}
use Rattle.line_laws.proofs.Pigeonhole.{sum_full, sum_most, sum_ones, sum_swap}
use Rattle.line_laws.proofs.Parts.{parts, line_sum_lem, sum_all}

eqb_swap : (a b : ℕ) → eqb a b ≡ eqb b a
eqb_swap a b = test_ext (eqb a b) (eqb b a) (λ t. eq-eqb b a (sym (eqb-true a b t))) (λ t. eq-eqb a b (sym (eqb-true b a t)))

once_most : (s : List ℕ) → Once s → (c : ℕ) → count (eqb c) s ≤ 1
unfolding Once
once_most s o c = elim (dec_lt 0 (count (eqb c) s)) [ yes h ↦ omega (arith, o c (count_in c s h)) | no h ↦ omega arith ]

-- a list of values of s is a way to fill as many places
way_of : {s g : List ℕ} → ((c : ℕ) → Memᴰ c g → Memᴰ c s) → Way s (length g) g
way_of {s} {g} h = subst (λ x. Way s (length g) x) (map-id g) (way_map (λ c. c) g h)

-- ---- a line

digits_sum : (n : ℕ) → Size n → sum (digits n) ≡ max_target n
unfolding digits sum max_target span all
digits_sum n s = eqb-true _ _ (at_size (λ n. eqb (sum (digits n)) (max_target n)) refl n s)

-- the blacks, and each of the n - 2 digits once
once_total : (n : ℕ) (l : List ℕ) → digits_once n l ≡ true → sum (map (λ v. count (eqb v) l) (symbols n)) ≡ count is_black l + (n - 2)
unfolding digits sum
once_total n l once =
    let blacks : count (eqb black) l ≡ count is_black l = count_ext (λ c. eqb_swap black c) l in
    let each : sum (map (λ d. count (eqb d) l) (digits n)) ≡ sum (map (λ d. 1) (digits n)) =
    sum_on (digits n) (λ d k. eqb-true _ 1 (all_each (λ d. eqb (count (eqb d) l) 1) k once)) in
    omega (arith, sum_ones (digits n), span_length 1 (n - 2))

module _ (n : ℕ) (l : List ℕ) (s : Size n) (long : length l ≡ n) where
  one_most : (c : ℕ) → Memᴰ c l → count (eqb c) (symbols n) ≤ 1
  one_most c _ = once_most (symbols n) (symbols_once n s.high) c

  -- where each digit stands once, at most two of the n cells are left for blacks
  pub blacks_most : digits_once n l ≡ true → count is_black l ≤ 2
  blacks_most once = omega (arith, once_total n l once, sum_swap (symbols n) l, sum_most (λ c. count (eqb c) (symbols n)) l one_most)

  module _ (law : lawful n l ≡ true) where
    -- two blacks, and each digit once, are n cells, so none is left for anything else
    pub line_symbol : {c : ℕ} → Memᴰ c l → Memᴰ c (symbols n)
    unfolding lawful
    line_symbol {c} k =
        let two : count is_black l ≡ 2 = eqb-true _ 2 (and_left _ _ law) in
        let total = once_total n l (and_right (two_blacks l) _ law) in
        let full = sum_full (λ c. count (eqb c) (symbols n)) k one_most (omega (arith, total, sum_swap (symbols n) l, s.low)) in
        count_in c (symbols n) (omega (arith, full))

    -- the sum between its blacks is that of some of the digits
    pub lawful_sum : line_sum l ≤ max_target n
    lawful_sum =
        let p = parts n l (record { small = s.high; filled = subst (λ k. Way (symbols n) k l) long (way_of (λ c. line_symbol)); right = law }) in
        omega (arith, line_sum_lem p, sum_all p, digits_sum n s)

-- ---- a sheet

module _ (p : Puzzle) (g : List ℕ) (s : Size p.size) (long : length g ≡ p.size * p.size) (t : keeps p g ≡ true) where
  row_symbol : (r c : ℕ) → r < p.size → c < p.size → Memᴰ (cell p.size g r c) (symbols p.size)
  unfolding keeps_line line row index
  row_symbol r c h k =
      line_symbol p.size (row p.size g r) s (length-map (span 0 p.size) (λ c. cell p.size g r c) ∙ span_length 0 p.size)
      (and_left (lawful p.size (row p.size g r)) _ (line_keeps p g t (across r) h)) (Memᴰ.map (λ c. cell p.size g r c) (span_mem 0 p.size c (omega arith) (omega arith)))

  cell_symbol : (i : ℕ) → i < length g → Memᴰ (get_or g i 0) (symbols p.size)
  unfolding cell
  cell_symbol i l =
      let n = p.size in
      let k : i < n * n = omega arith in
      let z : 0 < n = place_size n i k in
      subst (λ j. Memᴰ (get_or g j 0) (symbols n)) (div-add-mod' i n) (row_symbol (i / n) (i % n) ((div-lt_iff_lt-mul z).1 k) (mod-lt i z))

  -- A sheet of n * n cells that keeps the puzzle is one of its grids.
  pub sheet_grid : GridOf p g
  sheet_grid =
      record {
        filled = subst (λ k. Way (symbols p.size) k g) long (way_of (λ c m. let q = mem_place m in Memᴰ.cast (sym q.2) (cell_symbol q.0 q.1)));
        kept = t;
      }
