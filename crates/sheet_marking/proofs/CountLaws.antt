-- How often each byte stands in a line, read from the number that has the counts. Assumes nothing.
use Prim.Native.Nat.{ℕ, zero, suc, ◌+◌, ◌-◌, ◌*◌, ◌/◌, ◌%◌, ◌^◌, ◌≤◌, ◌<◌, min}
use mathlib.Core.Path.{◌≡◌, refl, sym, ap, ◌∙◌}
use mathlib.Core.Bool.{Bool, true, false, cond}
use mathlib.Core.List.{List, [], ◌∷◌, ◌++◌, map, map-append, Memᴰ}
use native.Mathlib.Omega.{arith}
use lib.Dec.{eqb}
use lib.ListN.{length}
use lib.Pow.{mod-pow-add, pow_mono, pow_pos, shl_exact}
use borrow.Author.Tests.{eqb-true, eqb-false, eq-eqb, ne_eqb}
use Rattle.tally.specs.Tally.{one_if, sum, all, count, span}
use Rattle.tally.proofs.TallyLaws.{and_left, and_right, and_both, test_ext, count_ext, span_in, span_mem}
use Rattle.tally.proofs.WayLaws.{all_each, all_in}
use Rattle.rules.specs.Grid.{black, is_black, digits, digits_once, two_blacks}
use Rattle.rules.specs.Size.{Size}
use Rattle.rules.proofs.InsideLaws.{sum_snoc}
use Rattle.rules.proofs.SizeLaws.{at_size}
use Rattle.sheet_marking.specs.Counts.{byte_place, byte_counts, CountsOf, CountsTell}

-- ---- numbers of base 16

-- the number with the given digits, the last one first
numeral : List ℕ → ℕ
numeral [] = 0
numeral (a ∷ l) = a + 16 * numeral l

numeral_zero : (l : List ℕ) → numeral (map (λ k. 0) l) ≡ 0
unfolding numeral
numeral_zero [] = refl
numeral_zero (k ∷ l) = omega (arith, numeral_zero l)

numeral_add : (f g : ℕ → ℕ) (l : List ℕ) → numeral (map (λ k. f k + g k) l) ≡ numeral (map f l) + numeral (map g l)
unfolding numeral
numeral_add f g [] = refl
numeral_add f g (k ∷ l) = omega (arith, numeral_add f g l)

module _ (f : ℕ → ℕ) (small : (k : ℕ) → f k < 16) where
  -- the last k digits
  numeral_last : (a m k : ℕ) → k ≤ m → numeral (map f (span a m)) % 2 ^ (4 * k) ≡ numeral (map f (span a k))
  unfolding span numeral
  numeral_last a m zero h = let e : numeral (map f (span a m)) % 1 ≡ 0 = omega arith in e
  numeral_last a zero (suc k) h = absurd (omega arith)
  numeral_last a (suc m) (suc k) h =
      let rest = numeral (map f (span (suc a) m)) in
      let x = f a + 16 * rest in
      let e : 4 * suc k ≡ 4 * k + 4 = omega arith in
      let q : x / 16 ≡ rest = omega (arith, small a) in
      let z : x / 16 % 2 ^ (4 * k) ≡ numeral (map f (span (suc a) k)) = ap (λ y. y % 2 ^ (4 * k)) q ∙ numeral_last (suc a) m k (omega arith) in
      omega (arith, ap (λ y. x % 2 ^ y) e, mod-pow-add x (4 * k) 4, z, small a)

  -- whether they are all 1
  numeral_ones : (a k : ℕ) → eqb (numeral (map f (span a k))) (numeral (map (λ d. 1) (span a k))) ≡ all (λ d. eqb (f d) 1) (span a k)
  unfolding span all numeral
  numeral_ones a zero = refl
  numeral_ones a (suc k) =
      let x = numeral (map f (span (suc a) k)) in
      let y = numeral (map (λ d. 1) (span (suc a) k)) in
      test_ext (eqb (f a + 16 * x) (1 + 16 * y)) _
      (λ t. let e = eqb-true (f a + 16 * x) (1 + 16 * y) t in
      and_both (eq-eqb (f a) 1 (omega (arith, small a))) (sym (numeral_ones (suc a) k) ∙ eq-eqb x y (omega (arith, small a))))
      (λ t. let e = eqb-true (f a) 1 (and_left _ _ t) in
      let r = eqb-true x y (numeral_ones (suc a) k ∙ and_right (eqb (f a) 1) _ t) in
      eq-eqb (f a + 16 * x) (1 + 16 * y) (omega arith))

-- ---- places

-- four bits a place, as 64 bits hold them
shift_exact : (k : ℕ) → k ≤ 9 → 1 * 2 ^ (4 * k) % 18446744073709551616 ≡ 2 ^ (4 * k)
shift_exact k h = omega (arith, shl_exact {a = 1} 1 (4 * k) 64 (omega arith) (omega arith))

cond_most : (b : Bool) (x : ℕ) → cond b 0 (min x 9) ≤ 9
cond_most true x = omega arith
cond_most false x = omega arith

pub place_most : (c : ℕ) → byte_place c ≤ 9
unfolding byte_place
place_most c = cond_most (is_black c) (c + 1)

-- as the code reads it
pub place_low : (c v : ℕ) → c < 256 → v ≡ (c + 1) % 256 → v < 9 → v ≡ byte_place c
unfolding byte_place
place_low c v h e l = go (is_black c) refl
  where
    go : (b : Bool) → is_black c ≡ b → v ≡ cond b 0 (min (c + 1) 9)
    go true t = let q = eqb-true c black t in omega arith
    go false t = let q = eqb-false c black t in omega (arith, q)

pub place_high : (c v : ℕ) → c < 256 → v ≡ (c + 1) % 256 → 9 ≤ v → 9 ≡ byte_place c
unfolding byte_place
place_high c v h e l = go (is_black c) refl
  where
    go : (b : Bool) → is_black c ≡ b → 9 ≡ cond b 0 (min (c + 1) 9)
    go true t = let q = eqb-true c black t in omega arith
    go false t = omega arith

pub place_shift : (c p : ℕ) → p ≡ byte_place c → 1 * 2 ^ (4 * p) % 18446744073709551616 ≡ 2 ^ (4 * byte_place c)
place_shift c p e = rw e (shift_exact (byte_place c) (place_most c))

-- the digit d is at place d + 1, and no other byte is
place_digit : (d c : ℕ) → d ≤ 7 → eqb (suc d) (byte_place c) ≡ eqb d c
unfolding byte_place
place_digit d c h = go (is_black c) refl
  where
    go : (b : Bool) → is_black c ≡ b → eqb (suc d) (cond b 0 (min (c + 1) 9)) ≡ eqb d c
    go true t = let q = eqb-true c black t in ne_eqb (suc d) 0 (λ e. omega arith) ∙ sym (ne_eqb d c (λ e. omega arith))
    go false t =
        test_ext (eqb (suc d) (min (c + 1) 9)) (eqb d c) (λ x. let e = eqb-true (suc d) (min (c + 1) 9) x in eq-eqb d c (omega arith))
        (λ x. let e = eqb-true d c x in eq-eqb (suc d) (min (c + 1) 9) (omega arith))

place_black : (c : ℕ) → eqb 0 (byte_place c) ≡ is_black c
unfolding byte_place
place_black c = go (is_black c)
  where
    go : (b : Bool) → eqb 0 (cond b 0 (min (c + 1) 9)) ≡ b
    go true = refl
    go false = ne_eqb 0 (min (c + 1) 9) (λ e. omega arith)

-- ---- the counts of a line

-- how often the bytes of place k stand in the cells
abbrev standing : List ℕ → ℕ → ℕ
standing l k = count (λ c. eqb k (byte_place c)) l

count_length : (p : ℕ → Bool) (l : List ℕ) → count p l ≤ length l
unfolding count
count_length p [] = omega arith
count_length p (c ∷ l) = go (p c) (count_length p l)
  where
    go : (b : Bool) → count p l ≤ length l → one_if b + count p l ≤ suc (length l)
    go true h = omega arith
    go false h = omega arith

-- a one at a single place
one_place : (p : ℕ) → p ≤ 9 → numeral (map (λ k. one_if (eqb k p)) (span 0 10)) ≡ 2 ^ (4 * p)
unfolding numeral span all
one_place p h =
    eqb-true _ _ (all_each (λ p. eqb (numeral (map (λ k. one_if (eqb k p)) (span 0 10))) (2 ^ (4 * p))) (span_mem 0 10 p (omega arith) (omega arith)) refl)

counts_numeral : (l : List ℕ) → byte_counts l ≡ numeral (map (standing l) (span 0 10))
unfolding byte_counts sum count
counts_numeral [] = sym (numeral_zero (span 0 10))
counts_numeral (c ∷ l) =
    omega (
      arith,
      numeral_add (λ k. one_if (eqb k (byte_place c))) (standing l) (span 0 10),
      one_place (byte_place c) (place_most c),
      counts_numeral l,
    )

-- blacks, empty cells, the digits from 1 on
counts_fields : (l : List ℕ) → byte_counts l ≡ standing l 0 + 16 * (standing l 1 + 16 * numeral (map (λ d. standing l (suc d)) (span 1 8)))
unfolding numeral span
counts_fields l = counts_numeral l

module _ {m : ℕ} {l : List ℕ} (k : CountsOf m l) where
  standing_small : (p : ℕ) → standing l p < 16
  standing_small p = omega (arith, count_length (λ c. eqb p (byte_place c)) l, k.short)

  black_field : m % 16 ≡ count is_black l
  black_field = omega (arith, k.counts_are, counts_fields l, standing_small 0, count_ext place_black l)

  digit_fields : m / 256 ≡ numeral (map (λ d. standing l (suc d)) (span 1 8))
  digit_fields = omega (arith, k.counts_are, counts_fields l, standing_small 0, standing_small 1)

  module _ (n : ℕ) (s : Size n) where
    once_standing : all (λ d. eqb (standing l (suc d)) 1) (digits n) ≡ digits_once n l
    unfolding digits
    once_standing =
        let same : (d : ℕ) → Memᴰ d (digits n) → eqb (standing l (suc d)) 1 ≡ eqb (count (eqb d) l) 1 =
        λ d i. ap (λ x. eqb x 1) (count_ext (λ c. place_digit d c (omega (arith, span_in 1 (n - 2) d i, s.high))) l) in
        test_ext _ _ (λ t. all_in (digits n) (λ d i. sym (same d i) ∙ all_each (λ d. eqb (standing l (suc d)) 1) i t))
        (λ t. all_in (digits n) (λ d i. same d i ∙ all_each (λ d. eqb (count (eqb d) l) 1) i t))

-- ---- the steps

shifted : (n : ℕ) → Size n → 1 * 2 ^ (4 * (n - 2)) % 18446744073709551616 ≡ 2 ^ (4 * (n - 2))
shifted n s = shift_exact (n - 2) (omega (arith, s.high))

pub shift_some : (n : ℕ) → Size n → 0 < 1 * 2 ^ (4 * (n - 2)) % 18446744073709551616
shift_some n s = omega (arith, shifted n s, pow_pos (4 * (n - 2)))

ones : (n : ℕ) → Size n → 17895697 % 2 ^ (4 * (n - 2)) ≡ numeral (map (λ d. 1) (span 1 (n - 2)))
unfolding all span numeral
ones n s = eqb-true _ _ (at_size (λ n. eqb (17895697 % 2 ^ (4 * (n - 2))) (numeral (map (λ d. 1) (span 1 (n - 2))))) refl n s)

pub digits_told : (n m p : ℕ) → Size n → p ≡ 1 * 2 ^ (4 * (n - 2)) % 18446744073709551616 → CountsTell m (digits_once n) (eqb (m / 256 % p) (17895697 % p))
unfolding digits
digits_told n m p s e =
    record {
      told = λ l k.
          let g : ℕ → ℕ = λ d. standing l (suc d) in
          let x : m / 256 % p ≡ numeral (map g (span 1 (n - 2))) =
          ap (λ y. y % p) (digit_fields k)
          ∙ ap (λ y. numeral (map g (span 1 8)) % y) (e ∙ shifted n s)
          ∙ numeral_last g (λ d. standing_small k (suc d)) 1 8 (n - 2) (omega (arith, s.high)) in
          let y : 17895697 % p ≡ numeral (map (λ d. 1) (span 1 (n - 2))) = ap (λ y. 17895697 % y) (e ∙ shifted n s) ∙ ones n s in
          rw (x, y) (numeral_ones g (λ d. standing_small k (suc d)) 1 (n - 2) ∙ once_standing k n s);
    }

pub blacks_told : (m : ℕ) → CountsTell m two_blacks (eqb (m % 16) 2)
blacks_told m = record { told = λ l k. ap (λ x. eqb x 2) (black_field k) }

-- ---- the walk

pub counts_none : (l : List ℕ) → l ≡ [] → 0 ≡ byte_counts l
unfolding byte_counts sum
counts_none l e = rw e

pub counts_next : (l : List ℕ) (c : ℕ) → byte_counts (l ++ c ∷ []) ≡ byte_counts l + 2 ^ (4 * byte_place c)
unfolding byte_counts
counts_next l c = ap sum (map-append (λ c. 2 ^ (4 * byte_place c)) l (c ∷ [])) ∙ sum_snoc (map (λ c. 2 ^ (4 * byte_place c)) l) (2 ^ (4 * byte_place c))

pub one_at_most : (c : ℕ) → 2 ^ (4 * byte_place c) ≤ 68719476736
one_at_most c = pow_mono {i = 4 * byte_place c} {j = 36} (omega (arith, place_most c))

pub counts_most : (l : List ℕ) → byte_counts l ≤ 68719476736 * length l
unfolding byte_counts sum
counts_most [] = omega arith
counts_most (c ∷ l) = omega (arith, counts_most l, one_at_most c)
