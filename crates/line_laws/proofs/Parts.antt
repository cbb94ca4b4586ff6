-- A lawful line taken apart: the cells in front of, between and behind its two blacks, and the values of its places. Assumes nothing.
use Prim.Native.Nat.{ℕ, suc, ◌+◌, ◌≤◌, ◌<◌}
use mathlib.Core.Path.{◌≡◌, refl, sym, ap, ◌∙◌, subst}
use mathlib.Core.Bool.{Bool, true, false}
use mathlib.Core.Logic.{⊎_elim}
use mathlib.Core.List.Memᴰ
use mathlib.Core.List.{List, [], ◌∷◌, ◌++◌, Memᴰ}
use native.Mathlib.Omega.{arith}
use native.Mathlib.Nat.{not-suc-le-zero, add-zero}
use lib.Dec.{eqb}
use lib.ListN.{length, get_or, length-append}
use borrow.Author.Tests.{eqb-true}
use Rattle.tally.specs.Tally.{one_if, sum, count}
use Rattle.tally.specs.Way.{Way}
use Rattle.tally.proofs.TallyLaws.{and_left, and_right, count_append, sum_append}
use Rattle.tally.proofs.WayLaws.{all_each, way_length}
use Rattle.rules.specs.Grid.{black, is_black, digits, lawful, until_black, inside, line_sum}
use Rattle.rules.specs.Short.{symbols}
use Rattle.table.specs.Table.{own}
use Rattle.line_laws.proofs.Lists.{bit_zero, count_pos, way_mem}
use Rattle.line_laws.proofs.Pigeonhole.{sum_each}
use Rattle.line_laws.proofs.Subsets.{digits_once}
use Rattle.line_laws.proofs.Half.{Symbol, is_black_lem, is_digit, symbol}
use Rattle.line_laws.proofs.Own.{own_cons, own_append, own_left, own_black, own_white}

-- A lawful line of size n: of blacks and digits, two blacks, and each digit once.
pub record LawfulLine (n : ℕ) (l : List ℕ) : Type 0 where
  pub small : n ≤ 9
  pub filled : Way (symbols n) n l
  pub right : lawful n l ≡ true

-- Its parts.
pub record Parts (n : ℕ) (l : List ℕ) : Type 0 where
  pub pre : List ℕ
  pub mid : List ℕ
  pub post : List ℕ
  pub whole : l ≡ pre ++ black ∷ (mid ++ black ∷ post)
  pub size : length pre + length mid + length post + 2 ≡ n
  pub pre_white : count is_black pre ≡ 0
  pub mid_white : count is_black mid ≡ 0
  pub post_white : count is_black post ≡ 0
  pub mid_digits : (c : ℕ) → Memᴰ c mid → Memᴰ c (digits n)
  pub around_digits : (c : ℕ) → Memᴰ c (pre ++ post) → Memᴰ c (digits n)
  pub once : (d : ℕ) → Memᴰ d (digits n) → count (eqb d) mid + count (eqb d) (pre ++ post) ≡ 1

-- ---- taking apart

-- the first black
record Cut (l : List ℕ) : Type 0 where
  pre : List ℕ
  post : List ℕ
  whole : l ≡ pre ++ black ∷ post
  white : count is_black pre ≡ 0
  rest : count is_black l ≡ suc (count is_black post)

cut : (l : List ℕ) → 0 < count is_black l → Cut l
unfolding count
cut [] h = absurd (not-suc-le-zero h)
cut (c ∷ l) h = go (is_black c) refl (cut l)
  where
    go : (b : Bool) → is_black c ≡ b → (0 < count is_black l → Cut l) → Cut (c ∷ l)
    go true e r = record { pre = []; post = l; whole = ap (λ x. x ∷ l) (eqb-true c black e); white = refl; rest = omega (arith, ap one_if e) }
    go false e r =
        let k = r (omega (arith, ap one_if e)) in
        record {
          pre = c ∷ k.pre;
          post = k.post;
          whole = ap (λ x. c ∷ x) k.whole;
          white = omega (arith, ap one_if e, k.white);
          rest = omega (arith, ap one_if e, k.rest);
        }

module _ (n : ℕ) (l : List ℕ) (law : LawfulLine n l) where
  pub two_blacks : count is_black l ≡ 2
  unfolding lawful
  two_blacks = eqb-true (count is_black l) 2 (and_left _ _ law.right)

  pub each_once : (d : ℕ) → Memᴰ d (digits n) → count (eqb d) l ≡ 1
  unfolding lawful
  each_once d m = eqb-true (count (eqb d) l) 1 (all_each (λ d. eqb (count (eqb d) l) 1) m (and_right (eqb (count is_black l) 2) _ law.right))

  -- a cell of a part without blacks is a digit
  white_digit : (xs : List ℕ) → count is_black xs ≡ 0 → (c : ℕ) → Memᴰ c xs → Memᴰ c l → Memᴰ c (digits n)
  white_digit xs e c m q = go (symbol n c law.small (way_mem law.filled c q))
    where
      go : Symbol n c → Memᴰ c (digits n)
      go (is_black_lem t _) = absurd (omega (arith, count_pos is_black m t))
      go (is_digit _ d _) = d

  pub parts : Parts n l
  unfolding count
  parts =
      record {
        pre = pre;
        mid = mid;
        post = post;
        whole = whole;
        size = omega (
          arith,
          sym (ap length whole) ∙ way_length law.filled,
          length-append pre (black ∷ (mid ++ black ∷ post)),
          length-append mid
              (black ∷ post),
        );
        pre_white = a.white;
        mid_white = b.white;
        post_white = omega (arith, a.rest, b.rest, two_blacks);
        mid_digits = λ c m. white_digit mid b.white c m (inside_l c (Memᴰ.append_right pre (Memᴰ.tail (Memᴰ.append_left _ m))));
        around_digits = λ c m.
            ⊎_elim (λ q. white_digit pre a.white c q (inside_l c (Memᴰ.append_left _ q)))
            (λ q. white_digit post (omega (arith, a.rest, b.rest, two_blacks)) c q
            (inside_l c (Memᴰ.append_right pre (Memᴰ.tail (Memᴰ.append_right mid (Memᴰ.tail q)))))) (Memᴰ.append_cases pre m);
        once = λ d m. omega (
          arith,
          sym (ap (count (eqb d)) whole) ∙ each_once d m,
          count_append (eqb d) pre (black ∷ (mid ++ black ∷ post)),
          count_append (eqb d) mid (black ∷ post),
          count_append (eqb d) pre post,
        );
      }
    where
      a : Cut l
      a = cut l (omega (arith, two_blacks))

      b : Cut a.post
      b = cut a.post (omega (arith, a.rest, two_blacks))

      pre : List ℕ
      pre = a.pre

      mid : List ℕ
      mid = b.pre

      post : List ℕ
      post = b.post

      whole : l ≡ pre ++ black ∷ (mid ++ black ∷ post)
      whole = a.whole ∙ ap (λ x. a.pre ++ black ∷ x) b.whole

      inside_l : (c : ℕ) → Memᴰ c (pre ++ black ∷ (mid ++ black ∷ post)) → Memᴰ c l
      inside_l c m = subst (λ x. Memᴰ c x) (sym whole) m

-- ---- the sum between the blacks

until_white : (mid rest : List ℕ) → count is_black mid ≡ 0 → until_black (mid ++ black ∷ rest) ≡ mid
unfolding count until_black
until_white [] rest e = refl
until_white (c ∷ mid) rest e = rw (bit_zero (is_black c) (omega arith)) (ap (λ x. c ∷ x) (until_white mid rest (omega arith)))

inside_parts : (pre mid post : List ℕ) → count is_black pre ≡ 0 → count is_black mid ≡ 0 → inside (pre ++ black ∷ (mid ++ black ∷ post)) ≡ mid
unfolding count inside
inside_parts [] mid post e f = until_white mid post f
inside_parts (c ∷ pre) mid post e f = rw (bit_zero (is_black c) (omega arith)) (inside_parts pre mid post (omega arith) f)

module _ {n : ℕ} {l : List ℕ} (p : Parts n l) where
  -- The line's sum is that of the cells between, and all digits come to this sum and that of the others.
  pub line_sum_lem : line_sum l ≡ sum p.mid
  unfolding line_sum
  line_sum_lem = ap (λ x. sum (inside x)) p.whole ∙ ap sum (inside_parts p.pre p.mid p.post p.pre_white p.mid_white)

  pub sum_all : sum p.mid + sum (p.pre ++ p.post) ≡ sum (digits n)
  sum_all =
      sym (sum_append p.mid (p.pre ++ p.post))
      ∙ sum_each (digits n) (digits_once n) (p.mid ++ (p.pre ++ p.post))
      (λ c m. ⊎_elim (p.mid_digits c) (p.around_digits c) (Memᴰ.append_cases p.mid m))
      (λ d m. count_append (eqb d) p.mid (p.pre ++ p.post) ∙ p.once d m)

-- ---- the values of the places

module _ {n : ℕ} {l : List ℕ} (p : Parts n l) (k : ℕ) where
  whole_own : (i : ℕ) → own k l i ≡ own k (p.pre ++ black ∷ (p.mid ++ black ∷ p.post)) i
  whole_own i = ap (λ x. own k x i) p.whole

  pub own_pre : (i : ℕ) → i < length p.pre → own k l i ≡ get_or p.pre i 0
  own_pre i h = whole_own i ∙ own_left k p.pre _ i h ∙ own_white k p.pre p.pre_white i

  pub own_first : own k l (length p.pre) ≡ k
  own_first =
      ap (own k l) (sym (add-zero (length p.pre)))
      ∙ whole_own (length p.pre + 0)
      ∙ own_append k p.pre _ 0
      ∙ own_black _ (p.mid ++ black ∷ p.post)
      ∙ omega (arith, p.pre_white)

  own_behind : (i : ℕ) → own k l (length p.pre + suc i) ≡ own (suc k) (p.mid ++ black ∷ p.post) i
  own_behind i =
      whole_own (length p.pre + suc i)
      ∙ own_append k p.pre _ (suc i)
      ∙ own_cons _ black (p.mid ++ black ∷ p.post) i
      ∙ ap (λ m. own m (p.mid ++ black ∷ p.post) i) (omega (arith, p.pre_white))

  pub own_mid : (i : ℕ) → i < length p.mid → own k l (length p.pre + suc i) ≡ get_or p.mid i 0
  own_mid i h = own_behind i ∙ own_left _ p.mid (black ∷ p.post) i h ∙ own_white _ p.mid p.mid_white i

  pub own_second : own k l (length p.pre + suc (length p.mid)) ≡ suc k
  own_second =
      own_behind (length p.mid)
      ∙ ap (own (suc k) (p.mid ++ black ∷ p.post)) (sym (add-zero (length p.mid)))
      ∙ own_append _ p.mid (black ∷ p.post) 0
      ∙ own_black _ p.post
      ∙ omega (arith, p.mid_white)

  pub own_post : (i : ℕ) → own k l (length p.pre + suc (length p.mid + suc i)) ≡ get_or p.post i 0
  own_post i =
      own_behind (length p.mid + suc i)
      ∙ own_append _ p.mid (black ∷ p.post) (suc i)
      ∙ own_cons _ black p.post i
      ∙ own_white _ p.post p.post_white i
