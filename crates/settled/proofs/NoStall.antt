-- NO STALL: a closed table with no empty cell and at most one candidate in every row half is settled. Assumes nothing.
use Prim.Native.Nat.{ℕ, ◌*◌, ◌≤◌, ◌<◌}
use mathlib.Core.Path.{◌≡◌, refl, sym, ap, ◌∙◌, subst}
use mathlib.Core.Bool.{Bool, true, ◌||◌, true≢false, or-true}
use mathlib.Core.Logic.{◌⊎◌, inl, inr, ⊎_elim}
use mathlib.Core.List.Memᴰ
use mathlib.Core.List.{List, [], ◌∷◌, map, Memᴰ}
use native.Mathlib.Omega.{arith}
use native.Mathlib.Decide.{ℕ_discrete, dec_lt}
use lib.Dec.{eqb}
use lib.ListN.{length}
use borrow.Author.Tests.{eqb-true, eq-eqb}
use Rattle.tally.specs.Tally.{one_if, sum, count, span}
use Rattle.tally.proofs.TallyLaws.{test_ext, count_map, count_ext, sum_bits, span_in, span_mem, or_split, false_of}
use Rattle.tally.proofs.WayLaws.{way_length}
use Rattle.rules.specs.Grid.{is_black, digits, Puzzle, across, down, index, line, target, cell, row, column}
use Rattle.rules.proofs.GridLaws.{line_way, line_in, symbols_once}
use Rattle.rules.specs.Mark.{left_black, right_black, upper_black, lower_black}
use Rattle.rules.specs.Size.{Size}
use Rattle.rules.specs.Short.{symbols}
use Rattle.table.proofs.ClosedTest.{covers}
use Rattle.table.specs.Table.{Table, places, first_black, half, every_value}
use Rattle.table.specs.Closed.{Supported, Closed}
use Rattle.table.specs.Reading.{choices, read_off, AllSettled}
use Rattle.line_laws.proofs.Lists.{count_pos, count_most, span_is_once, way_mem}
use Rattle.line_laws.proofs.Pigeonhole.{sum_add, sum_zero, sum_most, length_by_value}
use Rattle.line_laws.proofs.Half.{digit_range, digits_length, HalfValue, a_digit, a_first, a_second, half_value, digit_in, first_in, second_in}
use Rattle.line_laws.proofs.Own.{black_before, black_between}
use Rattle.line_laws.proofs.Parts.{two_blacks}
use Rattle.line_laws.proofs.Arranged.{arranged, first_step, second_step, first_within, second_within, step_lt, first_second, covers_first, covers_second, live_first, live_second}
use Rattle.line_laws.proofs.SettledLine.{Settled, symbol_of, cell_digit, cell_black}
use Rattle.line_laws.proofs.GridLines.{line_cell}
use Rattle.table.specs.Lines.{row_of, column_of}
use Rattle.settled.proofs.ReadLaws.{value_of, settle, settled_choices, read_value, read_way, cell_read}
use Rattle.settled.proofs.SettledTable.{read_lawful}
use Rattle.settled.specs.EmptyCell.{Empty}

-- ---- counting by rows and by columns

swap : (q : ℕ → ℕ → Bool) (xs ys : List ℕ) → sum (map (λ x. count (q x) ys) xs) ≡ sum (map (λ y. count (λ x. q x y) xs) ys)
unfolding sum count
swap q [] ys = sym (sum_zero ys)
swap q (x ∷ xs) ys = omega (arith, swap q xs ys, sum_add (λ y. one_if (q x y)) (λ y. count (λ x. q x y) xs) ys, sum_bits (q x) ys)

sum_twos : (f : ℕ → ℕ) (xs : List ℕ) → ((x : ℕ) → Memᴰ x xs → f x ≡ 2) → sum (map f xs) ≡ 2 * length xs
unfolding sum
sum_twos f [] h = refl
sum_twos f (x ∷ xs) h = omega (arith, h x (Memᴰ.head refl), sum_twos f xs (λ y m. h y (Memᴰ.tail m)))

-- values of at least 2 that come to twice the length are all 2
sum_floor : (f : ℕ → ℕ) (xs : List ℕ) → ((x : ℕ) → Memᴰ x xs → 2 ≤ f x) → 2 * length xs ≤ sum (map f xs)
unfolding sum
sum_floor f [] h = omega arith
sum_floor f (x ∷ xs) h = omega (arith, h x (Memᴰ.head refl), sum_floor f xs (λ y m. h y (Memᴰ.tail m)))

sum_tight : (f : ℕ → ℕ) {x : ℕ} {xs : List ℕ} → Memᴰ x xs → ((y : ℕ) → Memᴰ y xs → 2 ≤ f y) → sum (map f xs) ≤ 2 * length xs → f x ≡ 2
unfolding sum
sum_tight f (Memᴰ.head {x = y} {xs = ys} e) h l = rw e (omega (arith, h y (Memᴰ.head refl), sum_floor f ys (λ w m. h w (Memᴰ.tail m))))
sum_tight f (Memᴰ.tail {x = y} {xs = ys} k) h l = sum_tight f k (λ w m. h w (Memᴰ.tail m)) (omega (arith, h y (Memᴰ.head refl)))

-- ---- one candidate in each row half

module _ (p : Puzzle) (t : Table) (z : Size p.size) (cl : Closed p t)
    (one : (r c : ℕ) → r < p.size → c < p.size → choices p.size left_black (t r c) ≡ 1) where
  g : List ℕ
  g = read_off p.size t

  v : ℕ → ℕ → ℕ
  v r c = value_of p.size left_black (t r c)

  set : (r c : ℕ) → r < p.size → c < p.size → Settled p.size left_black (t r c) (v r c)
  unfolding v
  set r c h k = settle p.size left_black (t r c) (one r c h k)

  cell_is : (r c : ℕ) → r < p.size → c < p.size → cell p.size g r c ≡ symbol_of (v r c)
  unfolding g
  cell_is r c h k = cell_read p.size t r c h k ∙ read_value p.size left_black (t r c) z.high (omega arith) (v r c) (set r c h k)

  -- each row has two blacks
  rows_two : (r : ℕ) → r < p.size → count (λ c. is_black (cell p.size g r c)) (span 0 p.size) ≡ 2
  unfolding g line row index places first_black
  rows_two r h =
      sym (count_map is_black (λ c. cell p.size g r c) (span 0 p.size)) ∙ two_blacks p.size (row p.size g r)
      (read_lawful p t z cl (across r) h (λ i k. one r i h k))

  -- a digit that was read is the row half's
  digit_is : (r c d : ℕ) → r < p.size → c < p.size → Memᴰ d (digits p.size) → cell p.size g r c ≡ d → v r c ≡ d
  digit_is r c d h k m e =
      let low = digit_range p.size d m in
      elim (dec_lt (v r c) 8) [
        | yes l ↦ sym (cell_digit (v r c) l) ∙ sym (cell_is r c h k) ∙ e
        | no l ↦ absurd (let x : 255 ≡ d = sym (cell_black (v r c) (omega arith)) ∙ sym (cell_is r c h k) ∙ e in omega arith)
      ]

  -- a column has a digit at most once
  column_once : (c d : ℕ) → c < p.size → Memᴰ d (digits p.size) → count (eqb d) (column p.size g c) ≤ 1
  unfolding column
  column_once c d k m =
      rw (count_map (eqb d) (λ r. cell p.size g r c) (span 0 p.size))
      (count_most (λ r. eqb d (cell p.size g r c)) (span 0 p.size) (span_is_once 0 p.size)
      (λ i j mi mj ti tj.
      let bi = span_in 0 p.size i mi in
      let bj = span_in 0 p.size j mj in
      let li : i < p.size = omega arith in
      let lj : j < p.size = omega arith in
      let ei = digit_is i c d li k m (sym (eqb-true d (cell p.size g i c) ti)) in
      let ej = digit_is j c d lj k m (sym (eqb-true d (cell p.size g j c) tj)) in
      elim (ℕ_discrete j i) [
        | yes q ↦ sym q
        | no q ↦
            absurd (true≢false (sym (subst (λ x. t j c x ≡ true) ej (set j c lj k).kept)
            ∙ cl.crossed i c j d li k lj m (subst (λ x. t i c x ≡ true) ei (set i c li k).kept) (λ b mb tb. (set i c li k).only b mb tb ∙ ei) q))
      ]))

  -- so it has two blacks or more, and with the rows' two exactly two
  columns_least : (c : ℕ) → c < p.size → 2 ≤ count (λ r. is_black (cell p.size g r c)) (span 0 p.size)
  unfolding g sum column line index places first_black
  columns_least c k =
      let w = line_way p.size g (read_way p.size t) (down c) k in
      let by = length_by_value (symbols p.size) (symbols_once p.size z.high) (column p.size g c) (λ x m. way_mem w x m) in
      let most = sum_most (λ d. count (eqb d) (column p.size g c)) (digits p.size) (λ d m. column_once c d k m) in
      let flip : count (eqb 255) (column p.size g c) ≡ count is_black (column p.size g c) =
      count_ext (λ x. test_ext (eqb 255 x) (eqb x 255) (λ s. eq-eqb x 255 (sym (eqb-true 255 x s))) (λ s. eq-eqb 255 x (sym (eqb-true x 255 s))))
      (column p.size g c) in
      omega (arith, z.low, way_length w, digits_length p.size, count_map is_black (λ r. cell p.size g r c) (span 0 p.size))

  columns_two : (c : ℕ) → c < p.size → count (λ r. is_black (cell p.size g r c)) (span 0 p.size) ≡ 2
  columns_two c k =
      sum_tight (λ c. count (λ r. is_black (cell p.size g r c)) (span 0 p.size)) (span_mem 0 p.size c (omega arith) (omega arith))
      (λ y m. let b = span_in 0 p.size y m in columns_least y (omega arith))
      (omega (
        arith,
        swap (λ r c. is_black (cell p.size g r c)) (span 0 p.size) (span 0 p.size),
        sum_twos (λ r. count (λ c. is_black (cell p.size g r c)) (span 0 p.size)) (span 0 p.size)
            (λ x m. let b = span_in 0 p.size x m in rows_two x (omega arith)),
      ))

  -- a cell with a column black is black
  black_cell : (r c : ℕ) → r < p.size → c < p.size → (t r c upper_black ≡ true) ⊎ (t r c lower_black ≡ true) → is_black (cell p.size g r c) ≡ true
  black_cell r c h k e = eq-eqb (cell p.size g r c) 255 (cell_is r c h k ∙ cell_black (v r c) high)
    where
      some : (t r c upper_black || t r c lower_black) ≡ true
      some = ⊎_elim (λ x. rw x) (λ x. rw x (or-true (t r c upper_black))) e

      high : 8 ≤ v r c
      high =
          ⊎_elim (λ q. omega (arith, (set r c h k).only left_black (first_in p.size left_black) q))
          (λ q. omega (arith, (set r c h k).only right_black (second_in p.size left_black) q))
          (or_split (t r c left_black) (t r c right_black) (cl.blacks r c h k ∙ some))

  -- three blacks in a column are too many
  not_three : (c i j l : ℕ) → c < p.size → i < j → j < l → l < p.size → is_black (cell p.size g i c) ≡ true → is_black (cell p.size g j c) ≡ true →
      is_black (cell p.size g l c) ≡ true → ⊥
  unfolding column line row_of column_of
  not_three c i j l k a b h x y w =
      omega (
        arith,
        columns_two c k,
        count_map is_black (λ r. cell p.size g r c) (span 0 p.size),
        black_between (column p.size g c) i j a (ap is_black (line_cell p.size g (down c) i (omega arith)) ∙ x),
        black_between (column p.size g c) j l b (ap is_black (line_cell p.size g (down c) j (omega arith)) ∙ y),
        black_before (column p.size g c) l (ap is_black (line_cell p.size g (down c) l h) ∙ w),
      )

  sup : (r c b : ℕ) → r < p.size → c < p.size → Memᴰ b (half p.size upper_black) → t r c b ≡ true →
      Supported p.size upper_black (target p (down c)) (places t (down c)) r b
  unfolding index first_black places
  sup r c b h k m e = (cl.lines (down c) (line_in p.size (down c) k)).supported r b h m e

  -- a cell has not both column blacks: behind the upper one stands a lower one, and in front of the lower one an upper one
  not_both : (r c : ℕ) → r < p.size → c < p.size → t r c upper_black ≡ true → t r c lower_black ≡ true → ⊥
  unfolding places
  not_both r c h k a b =
      let x = sup r c upper_black h k (first_in p.size upper_black) a in
      let y = sup r c lower_black h k (second_in p.size upper_black) b in
      let wx = arranged p.size (target p (down c)) x.arrangement z.low x.listed in
      let wy = arranged p.size (target p (down c)) y.arrangement z.low y.listed in
      let ex = covers_first p.size (target p (down c)) x.arrangement wx upper_black r (omega arith) z.high ((covers p.size upper_black x.arrangement r upper_black).holds x.covers) in
      let ey = covers_second p.size (target p (down c)) y.arrangement wy upper_black r (omega arith) z.high ((covers p.size upper_black y.arrangement r lower_black).holds y.covers) in
      let last = step_lt p.size (target p (down c)) x.arrangement wx (second_step x.arrangement) (second_within x.arrangement) in
      let front = step_lt p.size (target p (down c)) y.arrangement wy (first_step y.arrangement) (first_within y.arrangement) in
      not_three c _ r _ k (omega (arith, ey, first_second p.size (target p (down c)) y.arrangement wy))
      (omega (arith, ex, first_second p.size (target p (down c)) x.arrangement wx)) last
      (black_cell _ c front k (inl (live_first p.size upper_black (places t (down c)) y.arrangement y.alive)))
      (black_cell r c h k (inl a))
      (black_cell _ c last k (inr (live_second p.size upper_black (places t (down c)) x.arrangement x.alive)))

  column_one : (r c : ℕ) → r < p.size → c < p.size → choices p.size upper_black (t r c) ≡ 1
  column_one r c h k = elim (dec_lt (v r c) 8) [ yes l ↦ digit l | no l ↦ dark (omega arith) ]
    where
      s : Settled p.size left_black (t r c) (v r c)
      s = set r c h k

      done : (b : ℕ) → Settled p.size upper_black (t r c) b → choices p.size upper_black (t r c) ≡ 1
      done b w = settled_choices p.size upper_black (t r c) z.high (omega arith) b w

      -- its row half has a digit
      digit : v r c < 8 → choices p.size upper_black (t r c) ≡ 1
      digit l = done (v r c) (record {
        known = known (half_value p.size left_black (v r c) s.known);
        kept = s.kept;
        only = λ x m e. only x
            (half_value p.size upper_black x m) e;
      })
        where
          known : HalfValue p.size left_black (v r c) → Memᴰ (v r c) (half p.size upper_black)
          known (a_digit q _ _) = digit_in p.size upper_black q
          known (a_first q) = absurd (omega arith)
          known (a_second q) = absurd (omega arith)

          white : (t r c upper_black ≡ true) ⊎ (t r c lower_black ≡ true) → ⊥
          white e = omega (arith, eqb-true (cell p.size g r c) 255 (black_cell r c h k e), cell_is r c h k ∙ cell_digit (v r c) l)

          only : (x : ℕ) → HalfValue p.size upper_black x → t r c x ≡ true → x ≡ v r c
          only x (a_digit q _ _) e = s.only x (digit_in p.size left_black q) e
          only x (a_first q) e = absurd (white (inl (subst (λ y. t r c y ≡ true) q e)))
          only x (a_second q) e = absurd (white (inr (subst (λ y. t r c y ≡ true) q e)))

      -- it has a black
      dark : 8 ≤ v r c → choices p.size upper_black (t r c) ≡ 1
      dark big =
          ⊎_elim
          (λ a. done upper_black (record {
            known = first_in p.size upper_black;
            kept = a;
            only = λ x m e. only x (half_value p.size upper_black x m) e (λ w. refl) (λ w. absurd (not_both r c h k a w));
          }))
          (λ b. done lower_black (record {
            known = second_in p.size upper_black;
            kept = b;
            only = λ x m e. only x (half_value p.size upper_black x m) e (λ w. absurd (not_both r c h k w b)) (λ w. refl);
          }))
          (or_split (t r c upper_black) (t r c lower_black) (sym (cl.blacks r c h k) ∙ some (half_value p.size left_black (v r c) s.known)))
        where
          some : HalfValue p.size left_black (v r c) → (t r c left_black || t r c right_black) ≡ true
          some (a_digit _ _ q) = absurd (omega arith)
          some (a_first q) = let x : t r c left_black ≡ true = subst (λ y. t r c y ≡ true) q s.kept in rw x
          some (a_second q) = let x : t r c right_black ≡ true = subst (λ y. t r c y ≡ true) q s.kept in rw x (or-true (t r c left_black))

          only : (x : ℕ) {b : ℕ} → HalfValue p.size upper_black x → t r c x ≡ true → (t r c upper_black ≡ true → upper_black ≡ b) →
              (t r c lower_black ≡ true → lower_black ≡ b) → x ≡ b
          only x (a_digit q _ l) e f g = absurd (omega (arith, s.only x (digit_in p.size left_black q) e))
          only x (a_first q) e f g = q ∙ f (subst (λ y. t r c y ≡ true) q e)
          only x (a_second q) e f g = q ∙ g (subst (λ y. t r c y ≡ true) q e)

  -- It is settled.
  pub rows_settle : AllSettled p.size t
  rows_settle = record { rows = one; columns = column_one }

-- ---- no cell empty, and no cell to branch on

-- A closed table's cell that is not empty has a candidate in its row half.
pub row_some : (p : Puzzle) (t : Table) → Closed p t → (r c : ℕ) → r < p.size → c < p.size → (Empty p.size t r c → ⊥) → 0 < choices p.size left_black
    (t r c)
unfolding choices every_value
row_some p t cl r c h k full = elim
    (dec_lt 0 (count (t r c) (half p.size left_black))) [ yes l ↦ l | no l ↦ absurd (full (λ v m. false_of (t r c v) (λ e. none (omega arith) v m e))) ]
  where
    none : count (t r c) (half p.size left_black) ≡ 0 → (v : ℕ) → Memᴰ v (every_value p.size) → t r c v ≡ true → ⊥
    none z v m e =
        ⊎_elim (λ q. omega (arith, count_pos (t r c) q e))
        (λ q. ⊎_elim (λ u. dark (let x : t r c upper_black ≡ true = subst (λ y. t r c y ≡ true) u e in rw x))
        (λ u. dark (let x : t r c lower_black ≡ true = subst (λ y. t r c y ≡ true) (Memᴰ.eq_of_singleton u) e in rw x (or-true (t r c upper_black))))
        (Memᴰ.cases_cons q))
        (Memᴰ.append_cases (half p.size left_black) m)
      where
        dark : (t r c upper_black || t r c lower_black) ≡ true → ⊥
        dark x =
            ⊎_elim (λ q. omega (arith, count_pos (t r c) (first_in p.size left_black) q))
            (λ q. omega (arith, count_pos (t r c) (second_in p.size left_black) q))
            (or_split (t r c left_black) (t r c right_black) (cl.blacks r c h k ∙ x))

-- NO STALL
pub no_stall : (p : Puzzle) (t : Table) → Size p.size → Closed p t → ((r c : ℕ) → r < p.size → c < p.size → Empty p.size t r c → ⊥) →
    ((r c : ℕ) → r < p.size → c < p.size → choices p.size left_black (t r c) ≤ 1) → AllSettled p.size t
no_stall p t z cl full few = rows_settle p t z cl (λ r c h k. omega (arith, row_some p t cl r c h k (full r c h k), few r c h k))
