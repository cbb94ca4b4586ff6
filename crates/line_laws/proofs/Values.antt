-- In a lawful line each value of the half stands at one place. Assumes nothing.
use Prim.Native.Nat.{ℕ, suc, ◌+◌, ◌≤◌, ◌<◌}
use mathlib.Core.Path.{◌≡◌, refl, sym, ◌∙◌}
use mathlib.Core.Bool.{true, false}
use mathlib.Core.List.Memᴰ
use mathlib.Core.List.{List, Memᴰ}
use native.Mathlib.Omega.{arith}
use native.Mathlib.Decide.{ℕ_discrete, dec_lt}
use lib.Dec.{eqb}
use lib.ListN.{length, get_or, take}
use borrow.Author.Tests.{eqb-true, eq-eqb, ne_eqb}
use Rattle.tally.specs.Tally.{count}
use Rattle.tally.proofs.WayLaws.{way_length, way_cell}
use Rattle.rules.specs.Grid.{is_black}
use Rattle.table.specs.Table.{half, own}
use Rattle.line_laws.proofs.Lists.{count_place, once_place}
use Rattle.line_laws.proofs.Half.{Symbol, is_black_lem, is_digit, symbol, HalfValue, a_digit, a_first, a_second, half_value, digit_in, first_in, second_in}
use Rattle.line_laws.proofs.Own.{black_before, black_between}
use Rattle.line_laws.proofs.Parts.{LawfulLine, two_blacks, each_once, Parts, parts, own_first, own_second}

-- two blacks with as many blacks before them
black_place : (l : List ℕ) (i j : ℕ) → is_black (get_or l i 0) ≡ true → is_black (get_or l j 0) ≡ true → count is_black (take i l) ≡ count is_black (take j l) → i ≡ j
black_place l i j t u e =
    elim (dec_lt i j) [
      | yes h ↦ absurd (omega (arith, black_between l i j h t))
      | no h ↦ elim (dec_lt j i) [ yes g ↦ absurd (omega (arith, black_between l j i g u)) | no g ↦ omega arith ]
    ]

-- The cell at a place of a lawful line.
pub cell_symbol : (n : ℕ) (l : List ℕ) → LawfulLine n l → (i : ℕ) → i < n → Symbol n (get_or l i 0)
cell_symbol n l law i h = symbol n (get_or l i 0) law.small (way_cell 0 law.filled i h)

module _ (n k : ℕ) (l : List ℕ) (law : LawfulLine n l) where
  -- The value of a place is in the line's half.
  pub own_half : (i : ℕ) → i < n → Memᴰ (own k l i) (half n k)
  unfolding own
  own_half i h = go (cell_symbol n l law i h)
    where
      go : Symbol n (get_or l i 0) → Memᴰ (own k l i) (half n k)
      go (is_black_lem t e) =
          let q = two_blacks n l law in
          let b = black_before l i t in
          rw t (elim (ℕ_discrete (count is_black (take i l)) 0) [
            | yes v ↦ Memᴰ.cast (omega arith) (first_in n k)
            | no v ↦ Memᴰ.cast (omega arith)
                (second_in n k)
          ])
      go (is_digit t m _) = rw t (digit_in n k m)

  module _ (high : 8 ≤ k) where
    -- The value of a place tells its cell.
    pub own_cell : (m : List ℕ) → LawfulLine n m → (i : ℕ) → i < n → own k l i ≡ own k m i → get_or l i 0 ≡ get_or m i 0
    unfolding own
    own_cell m lawm i h e = go (cell_symbol n l law i h) (cell_symbol n m lawm i h)
      where
        go : Symbol n (get_or l i 0) → Symbol n (get_or m i 0) → get_or l i 0 ≡ get_or m i 0
        go (is_black_lem t a) (is_black_lem u b) = a ∙ sym b
        go (is_black_lem t a) (is_digit u _ b) = absurd (let q : k + count is_black (take i l) ≡ get_or m i 0 = rw (t, u) at e in omega arith)
        go (is_digit t _ b) (is_black_lem u a) = absurd (let q : get_or l i 0 ≡ k + count is_black (take i m) = rw (t, u) at e in omega arith)
        go (is_digit t _ b) (is_digit u _ a) = rw (t, u) at e

    -- EACH VALUE AT ONE PLACE
    pub own_inj : (i j : ℕ) → i < n → j < n → own k l i ≡ own k l j → i ≡ j
    unfolding own
    own_inj i j h g e = go (cell_symbol n l law i h) (cell_symbol n l law j g)
      where
        go : Symbol n (get_or l i 0) → Symbol n (get_or l j 0) → i ≡ j
        go (is_black_lem t a) (is_black_lem u c) = black_place l i j t u
            (let q : k + count is_black (take i l) ≡ k + count is_black (take j l) = rw (t, u) at e in omega arith)
        go (is_black_lem t a) (is_digit u _ c) = absurd (let q : k + count is_black (take i l) ≡ get_or l j 0 = rw (t, u) at e in omega arith)
        go (is_digit t _ c) (is_black_lem u a) = absurd (let q : get_or l i 0 ≡ k + count is_black (take j l) = rw (t, u) at e in omega arith)
        go (is_digit t m c) (is_digit u _ a) =
            let q : get_or l i 0 ≡ get_or l j 0 = rw (t, u) at e in
            let len = way_length law.filled in
            once_place (eqb (get_or l i 0)) l (omega (arith, each_once n l law (get_or l i 0) m)) i j (omega arith) (omega arith)
            (eq-eqb (get_or l i 0) (get_or l i 0) refl) (eq-eqb (get_or l i 0) (get_or l j 0) q)

    -- AT SOME PLACE
    pub own_onto : (v : ℕ) → Memᴰ v (half n k) → (i : ℕ) × (i < n) × (own k l i ≡ v)
    unfolding own
    own_onto v m = go (half_value n k v m)
      where
        p : Parts n l
        p = parts n l law

        go : HalfValue n k v → (i : ℕ) × (i < n) × (own k l i ≡ v)
        go (a_digit q lo hi) =
            let f = count_place (eqb v) l (omega (arith, each_once n l law v q)) in
            let e = eqb-true v (get_or l f.0 0) f.2 in
            let t : is_black (get_or l f.0 0) ≡ false = ne_eqb (get_or l f.0 0) 255 (omega arith) in
            (f.0, omega (arith, f.1, way_length law.filled), rw t (sym e))
        go (a_first e) = (length p.pre, omega (arith, p.size), own_first p k ∙ sym e)
        go (a_second e) = (length p.pre + suc (length p.mid), omega (arith, p.size), own_second p k ∙ sym e)
