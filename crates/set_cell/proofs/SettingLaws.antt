-- The strikes of setting a cell, kind by kind, and the mask of the rest of a half. Assumes nothing.
use Prim.Native.Nat.{ℕ, ◌-◌, ◌*◌, ◌%◌, ◌^◌, ◌≤◌, ◌<◌}
use mathlib.Core.Path.{◌≡◌, refl, ap}
use mathlib.Core.Bool.{Bool, true, false, not, ◌&&◌, ◌||◌, cond}
use mathlib.Core.Logic.{◌≢◌, ◌⊎◌, inl, inr, ⊎_elim}
use native.Mathlib.Omega.{arith}
use lib.Dec.{eqb, ltb, leb}
use lib.Pow.{pow_mono}
use borrow.Author.Tests.{ltb-true, leb-true, eqb-true, eqb-false, not-true, lt-ltb, le-ltb, le-leb, eq-eqb, ne_eqb}
use Rattle.std.proofs.lemmas.Bool.Decides.{nat_tests}
use Rattle.tally.specs.Tally.{span, all}
use Rattle.tally.proofs.TallyLaws.{and_left, and_right, and_both, span_mem, or_split}
use Rattle.tally.proofs.WayLaws.{all_each}
use Rattle.bits.specs.Bit.{bit}
use Rattle.bits.proofs.BitLaws.{shl_one}
use Rattle.rules.specs.Mark.{left_black, right_black, upper_black, lower_black}
use Rattle.table.specs.Steps.{strikes}
use Rattle.table.specs.Table.{in_column, in_row, same_half}
use Rattle.set_cell.proofs.MaskBits.{bit_test, mask_is}
use Rattle.set_cell.specs.Setting.{RestOfHalf, Hits, along_row, along_column, in_cell, to_left, to_right, above, below}

-- ---- tests
pub or_left : (a b : Bool) → a ≡ true → (a || b) ≡ true
or_left a b s = rw s

pub or_right : (a b : Bool) → b ≡ true → (a || b) ≡ true
or_right true b s = refl
or_right false b s = s

pub and_two : (a b : Bool) → (a && b) ≡ true → (a ≡ true) × (b ≡ true)
and_two a b t = (and_left a b t, and_right a b t)

and_four : (a b c d : Bool) → (a && (b && (c && d))) ≡ true → (a ≡ true) × (b ≡ true) × (c ≡ true) × (d ≡ true)
and_four a b c d t =
    let u = and_right a (b && (c && d)) t in
    let w = and_right b (c && d) u in
    (and_left a (b && (c && d)) t, and_left b (c && d) u, and_left c d w, and_right c d w)

pub not_eq : (a b : ℕ) → not (eqb a b) ≡ true → a ≢ b
not_eq a b t = eqb-false a b (not-true (eqb a b) t)

pub eq_not : (a b : ℕ) → a ≢ b → not (eqb a b) ≡ true
eq_not a b d = ap not (ne_eqb a b d)

-- ---- strikes
module _ (r c v i j w : ℕ) where
  abbrev in_row_test : Bool
  in_row_test = eqb i r && (not (eqb j c) && (in_row v && eqb w v))

  abbrev in_column_test : Bool
  in_column_test = eqb j c && (not (eqb i r) && (in_column v && eqb w v))

  abbrev in_cell_test : Bool
  in_cell_test = eqb i r && (eqb j c && (not (eqb w v) && same_half v w))

  abbrev row_around_test : Bool
  row_around_test = eqb i r && ((ltb j c && eqb w right_black) || (ltb c j && eqb w left_black))

  abbrev column_around_test : Bool
  column_around_test = eqb j c && ((ltb i r && eqb w lower_black) || (ltb r i && eqb w upper_black))

  abbrev around_test : Bool
  around_test = leb 8 v && (row_around_test || column_around_test)

  in_around : around_test ≡ true → strikes r c v i j w ≡ true
  unfolding strikes
  in_around t =
      or_right in_row_test (in_column_test || (in_cell_test || around_test)) (or_right in_column_test (in_cell_test || around_test) (or_right in_cell_test around_test t))

  pub hits_strikes : Hits r c v i j w → strikes r c v i j w ≡ true
  unfolding strikes
  hits_strikes (along_row a b d e) =
      or_left in_row_test (in_column_test || (in_cell_test || around_test)) (and_both (eq-eqb i r a) (and_both (eq_not j c b) (and_both d (eq-eqb w v e))))
  hits_strikes (along_column a b d e) =
      or_right in_row_test (in_column_test || (in_cell_test || around_test)) (or_left in_column_test (in_cell_test || around_test)
      (and_both (eq-eqb j c a) (and_both (eq_not i r b) (and_both d (eq-eqb w v e)))))
  hits_strikes (in_cell a b d e) =
      or_right in_row_test (in_column_test || (in_cell_test || around_test)) (or_right in_column_test (in_cell_test || around_test)
      (or_left in_cell_test around_test (and_both (eq-eqb i r a) (and_both (eq-eqb j c b) (and_both (eq_not w v d) e)))))
  hits_strikes (to_left h a b e) =
      in_around (and_both (le-leb 8 v h) (or_left row_around_test column_around_test (and_both (eq-eqb i r a)
      (or_left (ltb j c && eqb w 9) (ltb c j && eqb w 8) (and_both (lt-ltb j c b) (eq-eqb w 9 e))))))
  hits_strikes (to_right h a b e) =
      in_around (and_both (le-leb 8 v h) (or_left row_around_test column_around_test (and_both (eq-eqb i r a)
      (or_right (ltb j c && eqb w 9) (ltb c j && eqb w 8) (and_both (lt-ltb c j b) (eq-eqb w 8 e))))))
  hits_strikes (above h a b e) =
      in_around (and_both (le-leb 8 v h) (or_right row_around_test column_around_test (and_both (eq-eqb j c a)
      (or_left (ltb i r && eqb w 11) (ltb r i && eqb w 10) (and_both (lt-ltb i r b) (eq-eqb w 11 e))))))
  hits_strikes (below h a b e) =
      in_around (and_both (le-leb 8 v h) (or_right row_around_test column_around_test (and_both (eq-eqb j c a)
      (or_right (ltb i r && eqb w 11) (ltb r i && eqb w 10) (and_both (lt-ltb r i b) (eq-eqb w 10 e))))))

  of_row : in_row_test ≡ true → Hits r c v i j w
  of_row s =
      let q = and_four (eqb i r) (not (eqb j c)) (in_row v) (eqb w v) s in
      along_row (eqb-true i r q.0) (not_eq j c q.1) q.2 (eqb-true w v q.3)

  of_column : in_column_test ≡ true → Hits r c v i j w
  of_column s =
      let q = and_four (eqb j c) (not (eqb i r)) (in_column v) (eqb w v) s in
      along_column (eqb-true j c q.0) (not_eq i r q.1) q.2 (eqb-true w v q.3)

  of_cell : in_cell_test ≡ true → Hits r c v i j w
  of_cell s =
      let q = and_four (eqb i r) (eqb j c) (not (eqb w v)) (same_half v w) s in
      in_cell (eqb-true i r q.0) (eqb-true j c q.1) (not_eq w v q.2) q.3

  -- a second black before, or a first black behind
  beside : (a b k m : ℕ) → ((ltb a b && eqb w k) || (ltb b a && eqb w m)) ≡ true → ((a < b) × (w ≡ k)) ⊎ ((b < a) × (w ≡ m))
  beside a b k m t =
      ⊎_elim
      (λ u. let q = and_two (ltb a b) (eqb w k) u in inl (ltb-true a b q.0, eqb-true w k q.1))
      (λ u. let q = and_two (ltb b a) (eqb w m) u in inr (ltb-true b a q.0, eqb-true w m q.1))
      (or_split (ltb a b && eqb w k) (ltb b a && eqb w m) t)

  of_row_around : 8 ≤ v → row_around_test ≡ true → Hits r c v i j w
  of_row_around h s =
      let q = and_two (eqb i r) ((ltb j c && eqb w right_black) || (ltb c j && eqb w left_black)) s in
      ⊎_elim (λ u. to_left h (eqb-true i r q.0) u.0 u.1) (λ u. to_right h (eqb-true i r q.0) u.0 u.1) (beside j c 9 8 q.1)

  of_column_around : 8 ≤ v → column_around_test ≡ true → Hits r c v i j w
  of_column_around h s =
      let q = and_two (eqb j c) ((ltb i r && eqb w lower_black) || (ltb r i && eqb w upper_black)) s in
      ⊎_elim (λ u. above h (eqb-true j c q.0) u.0 u.1) (λ u. below h (eqb-true j c q.0) u.0 u.1) (beside i r 11 10 q.1)

  of_around : around_test ≡ true → Hits r c v i j w
  of_around t =
      let q = and_two (leb 8 v) (row_around_test || column_around_test) t in
      let h = leb-true 8 v q.0 in
      ⊎_elim (of_row_around h) (of_column_around h) (or_split row_around_test column_around_test q.1)

  pub strikes_hits : strikes r c v i j w ≡ true → Hits r c v i j w
  unfolding strikes
  strikes_hits t =
      ⊎_elim of_row
      (λ s. ⊎_elim of_column (λ u. ⊎_elim of_cell of_around (or_split in_cell_test around_test u)) (or_split in_column_test (in_cell_test || around_test) s))
      (or_split in_row_test (in_column_test || (in_cell_test || around_test)) t)

-- ---- the rest of a half
rest_of : ℕ → ℕ
rest_of v = cond (ltb v 8) (4094 - 2 ^ v) (cond (ltb v 10) (1022 - 2 ^ v) (3326 - 2 ^ v))

is_rest : ℕ → ℕ → Bool
is_rest v w = not (eqb w v) && (same_half v w && (leb 1 w && ltb w 12))

rest_all : all (λ v. all (bit_test (rest_of v) (is_rest v)) (span 0 16)) (span 1 11) ≡ true
unfolding span all bit_test rest_of is_rest bit
rest_all = refl

rest_is : (v m : ℕ) → 1 ≤ v → v < 12 → m ≡ rest_of v → RestOfHalf v m
unfolding is_rest
rest_is v m h k e = rw e (
    let b = mask_is (rest_of v) (is_rest v) (all_each (λ v. all (bit_test (rest_of v) (is_rest v)) (span 0 16)) (span_mem 1 11 v h (omega arith)) rest_all) in
    record {
      only = λ w n c.
          let q = and_two (not (eqb w v)) (same_half v w && (leb 1 w && ltb w 12)) (b.only w n c) in
          (not_eq w v q.0, and_left (same_half v w) (leb 1 w && ltb w 12) q.1);
      each = λ w a c d o. b.has w (omega arith) (and_both (eq_not w v d) (and_both o (and_both (le-leb 1 w a) (lt-ltb w 12 c))));
    })

module _ (v : ℕ) where
  pub rest_digit : 1 ≤ v → v < 8 → RestOfHalf v (4094 - 1 * 2 ^ v % 65536)
  unfolding rest_of
  rest_digit h k = rest_is v _ h (omega arith) (rw (shl_one v (omega arith), lt-ltb v 8 k))

  pub rest_row : 8 ≤ v → v < 10 → RestOfHalf v (1022 - 1 * 2 ^ v % 65536)
  unfolding rest_of
  rest_row h k = rest_is v _ (omega arith) (omega arith) (rw (shl_one v (omega arith), le-ltb v 8 h, lt-ltb v 10 k))

  pub rest_column : 10 ≤ v → v < 12 → RestOfHalf v (3326 - 1 * 2 ^ v % 65536)
  unfolding rest_of
  rest_column h k = rest_is v _ (omega arith) k (rw (shl_one v (omega arith), le-ltb v 8 (omega arith), le-ltb v 10 h))

-- the code's tests and masks
pub row_value : (v : ℕ) → (ltb v 8 || (leb 8 v && ltb v 10)) ≡ in_row v
row_value v = grind (arith, nat_tests)

pub column_value : (v : ℕ) → v < 12 → (ltb v 8 || (leb 10 v && ltb v 12)) ≡ in_column v
column_value v h = grind (arith, nat_tests)

pub shl_most : (v k : ℕ) → v ≤ k → k < 16 → 1 * 2 ^ v % 65536 ≤ 2 ^ k
shl_most v k h m = rw (shl_one v (omega arith)) (pow_mono h)
