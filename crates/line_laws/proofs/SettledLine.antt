-- A closed line with one candidate at each place: the line of these values keeps its target. Assumes nothing.
use Prim.Native.Nat.{ℕ, suc, ◌+◌, ◌≤◌, ◌<◌}
use mathlib.Core.Path.{◌≡◌, sym, ap, ◌∙◌, subst}
use mathlib.Core.Bool.{Bool, true, cond, true≢false}
use mathlib.Core.List.Memᴰ
use mathlib.Core.List.{List, map, Memᴰ}
use native.Mathlib.Omega.{arith}
use native.Mathlib.Decide.{ℕ_discrete}
use lib.Dec.{eqb, ltb}
use lib.ListN.{length, get_or, take, length-map}
use borrow.Author.Tests.{eqb-true, eq-eqb, ne_eqb, lt-ltb, le-ltb}
use Rattle.tally.specs.Tally.{one_if, count, span}
use Rattle.tally.specs.Way.{Way}
use Rattle.tally.proofs.TallyLaws.{and_both, count_map, bit_eq, bit_ne, span_in, span_length, map_at}
use Rattle.tally.proofs.WayLaws.{way_map, all_in}
use Rattle.rules.specs.Grid.{black, is_black, digits, lawful, keeps_line}
use Rattle.rules.specs.Short.{symbols}
use Rattle.table.specs.Closed.{Arrangement, place, allows, Supported, ClosedLine}
use Rattle.table.specs.Table.{half, own}
use Rattle.table.specs.Lines.{Places}
use Rattle.line_laws.proofs.Lists.{count_on, count_add, count_most, span_is_once}
use Rattle.line_laws.proofs.Pigeonhole.{pigeonhole}
use Rattle.line_laws.proofs.Half.{digit_range, HalfValue, a_digit, a_first, a_second, half_value, digit_in, first_in, second_in, half_once, half_length}
use Rattle.line_laws.proofs.Own.{black_before, black_between}
use Rattle.line_laws.proofs.Parts.{LawfulLine, two_blacks}
use Rattle.line_laws.proofs.Arranged.{IsArrangement, arranged, first_step, second_step, first_within, second_within, step_lt, allows_first, allows_second, allows_half, first_second}
use Rattle.line_laws.proofs.Followed.{follows_meets}

-- The half with first black k of a cell's candidates has one of them, v.
pub record Settled (n k : ℕ) (cands : ℕ → Bool) (v : ℕ) : Type 0 where
  pub known : Memᴰ v (half n k)
  pub kept : cands v ≡ true
  pub only : (w : ℕ) → Memᴰ w (half n k) → cands w ≡ true → w ≡ v

-- The cell that a value stands for.
unfoldable pub symbol_of : ℕ → ℕ
symbol_of v = cond (ltb v 8) v black

-- The line whose places have given values.
unfoldable pub line_of : ℕ → (ℕ → ℕ) → List ℕ
line_of n v = map (λ i. symbol_of (v i)) (span 0 n)

pub cell_digit : (v : ℕ) → v < 8 → symbol_of v ≡ v
unfolding symbol_of
cell_digit v h = rw (lt-ltb v 8 h)

pub cell_black : (v : ℕ) → 8 ≤ v → symbol_of v ≡ black
unfolding symbol_of
cell_black v h = rw (le-ltb v 8 h)

-- ---- different values of the half at each place

module _ (n k : ℕ) (small : n ≤ 9) (two : 2 ≤ n) (high : 8 ≤ k) (v : ℕ → ℕ) (known : (i : ℕ) → i < n → Memᴰ (v i) (half n k))
    (apart : (i j : ℕ) → i < n → j < n → v i ≡ v j → i ≡ j) where
  at_place : (i : ℕ) → Memᴰ i (span 0 n) → HalfValue n k (v i)
  at_place i m = let r = span_in 0 n i m in half_value n k (v i) (known i (omega arith))

  -- each value of the half stands at one place
  value_once : (b : ℕ) → Memᴰ b (half n k) → count (eqb b) (map v (span 0 n)) ≡ 1
  value_once =
      pigeonhole (half n k) (half_once n k small high) (map v (span 0 n))
      (λ c m. let w = Memᴰ.of_map v (span 0 n) m in let r = span_in 0 n w.0 w.1 in subst (λ x. Memᴰ x (half n k)) w.2
      (known w.0 (omega arith)))
      (length-map (span 0 n) v ∙ span_length 0 n ∙ sym (half_length n k two))
      (λ d _. rw (count_map (eqb d) v (span 0 n)) (count_most (λ i. eqb d (v i)) (span 0 n) (span_is_once 0 n) (λ i j mi mj t u.
      let ri = span_in 0 n i mi in let rj = span_in 0 n j mj in
      apart i j (omega arith) (omega arith) (sym (eqb-true d (v i) t) ∙ eqb-true d (v j) u))))

  places_once : (b : ℕ) → Memᴰ b (half n k) → count (λ i. eqb b (v i)) (span 0 n) ≡ 1
  places_once b m = sym (count_map (eqb b) v (span 0 n)) ∙ value_once b m

  digit_test : (d b : ℕ) → d < 8 → HalfValue n k b → eqb d (symbol_of b) ≡ eqb d b
  digit_test d b h (a_digit _ _ g) = ap (eqb d) (cell_digit b (omega arith))
  digit_test d b h (a_first e) = rw (cell_black b (omega arith), ne_eqb d 255 (omega arith), ne_eqb d b (omega arith))
  digit_test d b h (a_second e) = rw (cell_black b (omega arith), ne_eqb d 255 (omega arith), ne_eqb d b (omega arith))

  black_test : (b : ℕ) → HalfValue n k b → one_if (is_black (symbol_of b)) ≡ one_if (eqb k b) + one_if (eqb (suc k) b)
  black_test b (a_digit _ _ g) = rw (cell_digit b (omega arith))
      (omega (arith, bit_ne b 255 (omega arith), bit_ne k b (omega arith), bit_ne (suc k) b (omega arith)))
  black_test b (a_first e) = rw (cell_black b (omega arith)) (omega (arith, bit_eq k b (sym e), bit_ne (suc k) b (omega arith)))
  black_test b (a_second e) = rw (cell_black b (omega arith)) (omega (arith, bit_ne k b (omega arith), bit_eq (suc k) b (sym e)))

  cell_in : (b : ℕ) → HalfValue n k b → Memᴰ (symbol_of b) (symbols n)
  cell_in b (a_digit m _ g) = rw (cell_digit b (omega arith)) (Memᴰ.tail m)
  cell_in b (a_first e) = Memᴰ.head (cell_black b (omega arith))
  cell_in b (a_second e) = Memᴰ.head (cell_black b (omega arith))

  -- THE LINE IS LAWFUL
  apart_lawful : LawfulLine n (line_of n v)
  unfolding line_of lawful
  apart_lawful =
      record {
        small = small;
        filled = subst (λ x. Way (symbols n) x (map (λ i. symbol_of (v i)) (span 0 n))) (span_length 0 n)
            (way_map (λ i. symbol_of (v i)) (span 0 n) (λ i m. cell_in (v i) (at_place i m)));
        right = and_both (eq-eqb _ 2 blacks) (all_in (digits n) (λ d m. eq-eqb _ 1 (digit d m)));
      }
    where
      blacks : count is_black (map (λ i. symbol_of (v i)) (span 0 n)) ≡ 2
      blacks =
          let a = count_map is_black (λ i. symbol_of (v i)) (span 0 n) in
          let b = count_add (λ i. is_black (symbol_of (v i))) (λ i. eqb k (v i)) (λ i. eqb (suc k) (v i)) (span 0 n) (λ i m. black_test (v i) (at_place i m)) in
          omega (arith, places_once k (first_in n k), places_once (suc k) (second_in n k))

      digit : (d : ℕ) → Memᴰ d (digits n) → count (eqb d) (map (λ i. symbol_of (v i)) (span 0 n)) ≡ 1
      digit d m =
          let r = digit_range n d m in
          count_map (eqb d) (λ i. symbol_of (v i)) (span 0 n)
          ∙ count_on (span 0 n) (λ i q. digit_test d (v i) (omega arith) (at_place i q))
          ∙ places_once d (digit_in n k m)

  line_at : (i : ℕ) → i < n → get_or (line_of n v) i 0 ≡ symbol_of (v i)
  unfolding line_of
  line_at i h = map_at (λ i. symbol_of (v i)) 0 n i h ∙ ap (λ x. symbol_of (v x)) (omega arith)

  at_black : (i : ℕ) → i < n → 8 ≤ v i → is_black (get_or (line_of n v) i 0) ≡ true
  at_black i h g = eq-eqb _ 255 (line_at i h ∙ cell_black (v i) g)

  -- With the first black in front of the second, the places of the line have these values.
  apart_own : (p q : ℕ) → p < q → q < n → v p ≡ k → v q ≡ suc k → (i : ℕ) → i < n → own k (line_of n v) i ≡ v i
  unfolding own
  apart_own p q lt qn ep eq i h = go (half_value n k (v i) (known i h))
    where
      go : HalfValue n k (v i) → cond (is_black (get_or (line_of n v) i 0)) (k + count is_black (take i (line_of n v))) (get_or (line_of n v) i 0) ≡ v i
      go (a_digit _ _ g) = let e : get_or (line_of n v) i 0 ≡ v i = line_at i h ∙ cell_digit (v i) (omega arith) in rw (e, ne_eqb (v i) 255 (omega arith))
      go (a_first e) =
          let b = at_black i h (omega arith) in
          let j = apart i p h (omega arith) (e ∙ sym ep) in
          rw b (omega (
            arith,
            two_blacks n (line_of n v) apart_lawful,
            black_between (line_of n v) i q (omega arith) b,
            black_before (line_of n v) q (at_black q qn (omega arith)),
          ))
      go (a_second e) =
          let b = at_black i h (omega arith) in
          let j = apart i q h qn (e ∙ sym eq) in
          rw b (omega (
            arith,
            two_blacks n (line_of n v) apart_lawful,
            black_between (line_of n v) p i (omega arith) (at_black p (omega arith) (omega arith)),
            black_before (line_of n v) i b,
          ))

-- ---- a closed and settled line

module _ (n k t : ℕ) (m : Places) (small : n ≤ 9) (low : 2 ≤ n) (high : 8 ≤ k) (c : ClosedLine n k t m) (v : ℕ → ℕ)
    (s : (i : ℕ) → i < n → Settled n k (m i) (v i)) where
  -- an arrangement that is alive in it
  sup : Supported n k t m 0 (v 0)
  sup = let some : 0 < n = omega arith in c.supported 0 (v 0) some (s 0 some).known (s 0 some).kept

  a : Arrangement
  a = sup.arrangement

  w : IsArrangement n t sup.arrangement
  w = arranged n t sup.arrangement low sup.listed

  apart : (i j : ℕ) → i < n → j < n → v i ≡ v j → i ≡ j
  apart i j h g e =
      elim (ℕ_discrete i j) [
        | yes q ↦ q
        | no q ↦ absurd (true≢false (sym (s j g).kept ∙ ap (m j) (sym e) ∙ c.lone i j (v i) h g q (s i h).known (s i h).kept (s i h).only))
      ]

  -- the value at a step of the arrangement is allowed there
  allowed : (j : ℕ) → j < length sup.arrangement.digit_set + 2 → allows k sup.arrangement j (v (place n sup.arrangement j)) ≡ true
  allowed j h =
      let u = sup.alive.filled j h in
      let e = (s (place n sup.arrangement j) (step_lt n t sup.arrangement w j h)).only u.0 (allows_half n t sup.arrangement w k j u.0 h u.2)
      u.1 in
      rw e at u.2

  pub closed_lawful : LawfulLine n (line_of n v)
  closed_lawful = apart_lawful n k small low high v (λ i h. (s i h).known) apart

  -- The places of the line have the settled values.
  pub closed_own : (i : ℕ) → i < n → own k (line_of n v) i ≡ v i
  unfolding a
  closed_own =
      apart_own n k small low high v (λ i h. (s i h).known) apart (place n a (first_step a)) (place n a (second_step a)) (first_second n t a w)
      (step_lt n t a w (second_step a) (second_within a))
      (eqb-true _ k (sym (allows_first k a (v (place n a (first_step a)))) ∙ allowed (first_step a) (first_within a)))
      (eqb-true _ (suc k) (sym (allows_second k a (v (place n a (second_step a)))) ∙ allowed (second_step a) (second_within a)))

  -- THE LINE KEEPS ITS TARGET
  pub closed_keeps : keeps_line n t (line_of n v) ≡ true
  unfolding keeps_line a
  closed_keeps =
      and_both closed_lawful.right
      (follows_meets n k t (line_of n v) closed_lawful high a sup.listed
      (record { each = λ j h. rw (closed_own (place n a j) (step_lt n t a w j h)) (allowed j h) }))
