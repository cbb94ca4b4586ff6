-- The values that the cells of a grid have: one in each half, each once in a line, and the blacks in order. Assumes nothing.
use Prim.Native.Nat.{ℕ, suc, ◌+◌, ◌≤◌, ◌<◌}
use mathlib.Core.Path.{◌≡◌, refl, sym, ap, ◌∙◌, subst}
use mathlib.Core.Bool.{Bool, true}
use mathlib.Core.Logic.{◌⊎◌, inl, inr}
use mathlib.Core.List.{List}
use native.Mathlib.Omega.{arith}
use native.Mathlib.Decide.{ℕ_discrete}
use lib.Dec.{eqb}
use lib.ListN.{get_or, take}
use borrow.Author.Tests.{eqb-true, eq-eqb, ne_eqb}
use Rattle.tally.specs.Tally.{count}
use Rattle.tally.proofs.TallyLaws.{and_left, and_right, and_both, test_ext}
use Rattle.rules.specs.Grid.{is_black, Puzzle, Line, across, down, index, line, cell}
use Rattle.rules.specs.Mark.{black_with, has}
use Rattle.table.specs.Table.{Table, places, first_black, own, fits}
use Rattle.line_laws.proofs.Half.{first_high, Symbol, is_black_lem, is_digit, HalfValue, a_digit, a_first, a_second, half_value, digit_in}
use Rattle.line_laws.proofs.Own.{black_before, black_between}
use Rattle.line_laws.proofs.Parts.{LawfulLine, two_blacks}
use Rattle.line_laws.proofs.Values.{cell_symbol, own_half, own_inj, own_onto}
use Rattle.line_laws.proofs.GridLines.{place_in, line_cell, places_cell, line_lawful, fits_at, fits_all}
use Rattle.line_laws.specs.Grids.{GridOf}
use Rattle.table.specs.Lines.{row_of, column_of}
use Rattle.table.specs.Value.{IsValue, InHalf}
use Rattle.line_laws.proofs.CellValues.{CellValue, digit_value, row_black, column_black, cell_value, half_every}

-- ---- the values of a cell

-- A value of a cell belongs to the half of a line through it.
pub by_line : (n v : ℕ) (Q : ℕ → ℕ → Type 0) → ((ℓ : Line) → index ℓ < n → (i : ℕ) → i < n → InHalf n ℓ v → Q (row_of ℓ i) (column_of ℓ i)) →
    (r c : ℕ) → r < n → c < n → IsValue n v → Q r c
unfolding index first_black row_of column_of
by_line n v Q h r c hr hc m = go (cell_value n v m)
  where
    go : CellValue n v → Q r c
    go (digit_value q u) = h (across r) hr c hc (digit_in n 8 q)
    go (row_black q l u) = h (across r) hr c hc q
    go (column_black q l u) = h (down c) hc r hr q

-- ---- the value of a place, as a test

-- The value of place i of a line of a grid, and the test whether it has the value v.
abbrev pub value_at : ℕ → List ℕ → Line → ℕ → ℕ
value_at n g ℓ i = own (first_black ℓ) (line n g ℓ) i

abbrev pub has_at : ℕ → List ℕ → Line → ℕ → ℕ → Bool
has_at n g ℓ i v = has n g (row_of ℓ i) (column_of ℓ i) v

digit_has : (n : ℕ) (g : List ℕ) (r c v : ℕ) → v < 8 → has n g r c v ≡ eqb (cell n g r c) v
unfolding has
digit_has n g r c v h = rw (ne_eqb v 8 (omega arith), ne_eqb v 9 (omega arith), ne_eqb v 10 (omega arith), ne_eqb v 11 (omega arith))

first_has : (n : ℕ) (g : List ℕ) (ℓ : Line) (i : ℕ) → has_at n g ℓ i (first_black ℓ) ≡ black_with 0 (line n g ℓ) i
unfolding has row_of column_of first_black line
first_has n g (across r) i = refl
first_has n g (down c) i = refl

second_has : (n : ℕ) (g : List ℕ) (ℓ : Line) (i : ℕ) → has_at n g ℓ i (suc (first_black ℓ)) ≡ black_with 1 (line n g ℓ) i
unfolding has row_of column_of first_black line
second_has n g (across r) i = refl
second_has n g (down c) i = refl

-- a black with j blacks in front of it has the line's black j
black_own : (n k j v : ℕ) (l : List ℕ) (i : ℕ) → n ≤ 9 → 8 ≤ k → v ≡ k + j → Symbol n (get_or l i 0) → black_with j l i ≡ eqb v (own k l i)
unfolding black_with own
black_own n k j v l i z high e (is_black_lem t _) =
    let b = count is_black (take i l) in
    rw t (test_ext (eqb b j) (eqb v (k + b)) (λ s. eq-eqb v (k + b) (omega (arith, eqb-true b j s))) (λ s. eq-eqb b j (omega (arith, eqb-true v (k + b) s))))
black_own n k j v l i z high e (is_digit t _ u) = rw t (sym (ne_eqb v (get_or l i 0) (omega arith)))

digit_own : (n k v : ℕ) (l : List ℕ) (i : ℕ) → v < 8 → 8 ≤ k → Symbol n (get_or l i 0) → eqb (get_or l i 0) v ≡ eqb v (own k l i)
unfolding own
digit_own n k v l i low high (is_black_lem t e) = rw t (ne_eqb (get_or l i 0) v (omega arith) ∙ sym (ne_eqb v (k + count is_black (take i l)) (omega arith)))
digit_own n k v l i low high (is_digit t _ u) =
    let x = get_or l i 0 in
    rw t (test_ext (eqb x v) (eqb v x) (λ s. eq-eqb v x (sym (eqb-true x v s))) (λ s. eq-eqb x v (sym (eqb-true v x s))))

module _ (p : Puzzle) (small : p.size ≤ 9) (g : List ℕ) (d : GridOf p g) where
  module _ (ℓ : Line) (h : index ℓ < p.size) where
    lawful_line : LawfulLine p.size (line p.size g ℓ)
    lawful_line = line_lawful p g d small ℓ h

    -- Of a half, a place has the value that is its own, and no other.
    pub has_own : (i : ℕ) → i < p.size → (v : ℕ) → InHalf p.size ℓ v → has_at p.size g ℓ i v ≡ eqb v (value_at p.size g ℓ i)
    has_own i k v m = go (half_value n (first_black ℓ) v m)
      where
        n : ℕ
        n = p.size

        l : List ℕ
        l = line n g ℓ

        s : Symbol n (get_or l i 0)
        s = cell_symbol n l lawful_line i k

        high : 8 ≤ first_black ℓ
        high = first_high ℓ

        go : HalfValue n (first_black ℓ) v → has_at n g ℓ i v ≡ eqb v (own (first_black ℓ) l i)
        go (a_digit q _ u) =
            digit_has n g (row_of ℓ i) (column_of ℓ i) v (omega arith)
            ∙ ap (λ x. eqb x v) (sym (line_cell n g ℓ i k))
            ∙ digit_own n (first_black ℓ) v l i (omega arith) high s
        go (a_first e) = rw e (first_has n g ℓ i ∙ black_own n (first_black ℓ) 0 (first_black ℓ) l i small high (omega arith) s)
        go (a_second e) = rw e (second_has n g ℓ i ∙ black_own n (first_black ℓ) 1 (suc (first_black ℓ)) l i small high (omega arith) s)

    -- Each place has a value of its half.
    pub value_in : (i : ℕ) → i < p.size → InHalf p.size ℓ (value_at p.size g ℓ i)
    value_in i k = own_half p.size (first_black ℓ) (line p.size g ℓ) lawful_line i k

    pub value_has : (i : ℕ) → i < p.size → has_at p.size g ℓ i (value_at p.size g ℓ i) ≡ true
    value_has i k = let v = value_at p.size g ℓ i in has_own i k v (value_in i k) ∙ eq-eqb v v refl

    pub has_is : (i : ℕ) → i < p.size → (v : ℕ) → InHalf p.size ℓ v → has_at p.size g ℓ i v ≡ true → value_at p.size g ℓ i ≡ v
    has_is i k v m t = sym (eqb-true v (value_at p.size g ℓ i) (sym (has_own i k v m) ∙ t))

    -- It has one value of the half, and a value stands at one place of the line.
    pub once_in_cell : (i : ℕ) → i < p.size → (v w : ℕ) → InHalf p.size ℓ v → InHalf p.size ℓ w → has_at p.size g ℓ i v ≡ true →
        has_at p.size g ℓ i w ≡ true → v ≡ w
    once_in_cell i k v w mv mw tv tw = sym (has_is i k v mv tv) ∙ has_is i k w mw tw

    pub once_in_line : (i j : ℕ) → i < p.size → j < p.size → (v : ℕ) → InHalf p.size ℓ v → has_at p.size g ℓ i v ≡ true →
        has_at p.size g ℓ j v ≡ true → i ≡ j
    once_in_line i j hi hj v m t u =
        own_inj p.size (first_black ℓ) (line p.size g ℓ) lawful_line (first_high ℓ) i j hi hj (has_is i hi v m t ∙ sym (has_is j hj v m u))

    pub value_onto : (v : ℕ) → InHalf p.size ℓ v → (i : ℕ) × (i < p.size) × (has_at p.size g ℓ i v ≡ true)
    value_onto v m =
        let o = own_onto p.size (first_black ℓ) (line p.size g ℓ) lawful_line (first_high ℓ) v m in
        (o.0, o.1, has_own o.0 o.1 v m ∙ eq-eqb v (value_at p.size g ℓ o.0) (sym o.2))

    -- What a place of a grid that fits a table has is a candidate there.
    pub fits_place : (t : Table) → fits p.size t g ≡ true → (i : ℕ) → i < p.size → (v : ℕ) → InHalf p.size ℓ v → has_at p.size g ℓ i v ≡ true →
        places t ℓ i v ≡ true
    fits_place t f i k v m s = subst (λ x. places t ℓ i x ≡ true) (has_is i k v m s) (fits_at p.size t g f ℓ h i k)

  -- ---- blacks

  -- What has a black's value is black.
  pub has_black : (r c : ℕ) → r < p.size → c < p.size → (v : ℕ) → IsValue p.size v → 8 ≤ v → has p.size g r c v ≡ true →
      is_black (cell p.size g r c) ≡ true
  unfolding own
  has_black r c hr hc v m high =
      by_line n v (λ r c. has n g r c v ≡ true → is_black (cell n g r c) ≡ true) (λ ℓ h i k q t.
      subst (λ x. is_black x ≡ true) (line_cell n g ℓ i k) (go ℓ i (has_is ℓ h i k v q t) (cell_symbol n (line n g ℓ) (lawful_line ℓ h) i k))) r c hr hc m
    where
      n : ℕ
      n = p.size

      go : (ℓ : Line) (i : ℕ) → value_at n g ℓ i ≡ v → Symbol n (get_or (line n g ℓ) i 0) → is_black (get_or (line n g ℓ) i 0) ≡ true
      go ℓ i e (is_black_lem t _) = t
      go ℓ i e (is_digit t _ u) = let q : get_or (line n g ℓ) i 0 ≡ v = rw t at e in absurd (omega arith)

  module _ (ℓ : Line) (h : index ℓ < p.size) (i : ℕ) (k : i < p.size) (t : is_black (cell p.size g (row_of ℓ i) (column_of ℓ i)) ≡ true) where
    black_place : is_black (get_or (line p.size g ℓ) i 0) ≡ true
    black_place = ap is_black (line_cell p.size g ℓ i k) ∙ t

    few_before : count is_black (take i (line p.size g ℓ)) < 2
    few_before = omega (arith, black_before (line p.size g ℓ) i black_place, two_blacks p.size (line p.size g ℓ) (lawful_line ℓ h))

    -- A black is one of its line's two.
    pub black_has : (has_at p.size g ℓ i (first_black ℓ) ≡ true) ⊎ (has_at p.size g ℓ i (suc (first_black ℓ)) ≡ true)
    unfolding black_with
    black_has =
        let b = count is_black (take i (line p.size g ℓ)) in
        elim (ℕ_discrete b 0) [
          | yes e ↦ inl (first_has p.size g ℓ i ∙ and_both black_place (eq-eqb b 0 e))
          | no e ↦ inr (second_has p.size g ℓ i ∙ and_both black_place (eq-eqb b 1 (omega (arith, few_before))))
        ]

    -- No second black stands before a black, and no first one behind it.
    pub second_behind : (j : ℕ) → j < i → has_at p.size g ℓ j (suc (first_black ℓ)) ≡ true → ⊥
    unfolding black_with
    second_behind j lt s =
        let l = line p.size g ℓ in
        let b = sym (second_has p.size g ℓ j) ∙ s in
        let one = eqb-true (count is_black (take j l)) 1 (and_right (is_black (get_or l j 0)) _ b) in
        omega (arith, few_before, black_between l j i lt (and_left (is_black (get_or l j 0)) _ b))

    pub first_before : (j : ℕ) → i < j → has_at p.size g ℓ j (first_black ℓ) ≡ true → ⊥
    unfolding black_with
    first_before j lt s =
        let l = line p.size g ℓ in
        let none = eqb-true (count is_black (take j l)) 0 (and_right (is_black (get_or l j 0)) _ (sym (first_has p.size g ℓ j) ∙ s)) in
        omega (arith, black_between l i j lt black_place)

  -- ---- a table

  -- A grid fits a table exactly where each value that it has is a candidate.
  pub fits_has : (t : Table) → fits p.size t g ≡ true → (r c v : ℕ) → r < p.size → c < p.size → IsValue p.size v → has p.size g r c v ≡ true →
      t r c v ≡ true
  fits_has t f r c v hr hc m =
      by_line p.size v (λ r c. has p.size g r c v ≡ true → t r c v ≡ true)
      (λ ℓ h i k q s. sym (places_cell t ℓ i v) ∙ fits_place ℓ h t f i k v q s) r c hr hc m

  pub has_fits : (t : Table) → ((r c v : ℕ) → r < p.size → c < p.size → IsValue p.size v → has p.size g r c v ≡ true → t r c v ≡ true) →
      fits p.size t g ≡ true
  has_fits t f =
      fits_all p.size t g (λ ℓ h i k. let v = value_at p.size g ℓ i in let q = place_in p.size ℓ i h k in
      places_cell t ℓ i v ∙ f (row_of ℓ i) (column_of ℓ i) v q.0 q.1 (half_every p.size ℓ v (value_in ℓ h i k)) (value_has ℓ h i k))
