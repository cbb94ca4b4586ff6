-- A lawful line that follows an arrangement of a target meets the target, and has each digit of the set in the arrangement. Assumes nothing.
use Prim.Native.Nat.{ℕ, suc, ◌+◌, ◌-◌, ◌≤◌, ◌<◌}
use mathlib.Core.Path.{◌≡◌, sym, ap, ◌∙◌, subst}
use mathlib.Core.Bool.{true, cond}
use mathlib.Core.Logic.{⊎_elim}
use mathlib.Core.List.Memᴰ
use mathlib.Core.List.{List, ◌++◌, Memᴰ}
use native.Mathlib.Omega.{arith}
use lib.Dec.{eqb}
use lib.ListN.{length, length-append}
use borrow.Author.Tests.{eqb-true}
use Rattle.tally.specs.Tally.{sum, count}
use Rattle.rules.specs.Grid.{digits, line_sum, meets}
use Rattle.table.specs.Closed.{Arrangement, arrangements, place}
use Rattle.table.specs.Table.{own}
use Rattle.line_laws.proofs.Lists.{mem_place, count_in}
use Rattle.line_laws.proofs.Pigeonhole.{pigeonhole, sum_each}
use Rattle.line_laws.proofs.Subsets.{digits_once, subset_mem, subset_once}
use Rattle.line_laws.proofs.Parts.{LawfulLine, Parts, parts, line_sum_lem, sum_all, own_pre, own_first, own_mid, own_second, own_post}
use Rattle.line_laws.proofs.Values.{own_inj}
use Rattle.line_laws.proofs.Arranged.{Kind, is_inside_lem, is_outside, IsArrangement, arranged, place_here, place_wrap, first_step, second_step, first_within, second_within, step_lt, allows_first, allows_second, mid_digit}
use Rattle.line_laws.proofs.Found.{Follows}

module _ (n k t : ℕ) (l : List ℕ) (law : LawfulLine n l) (high : 8 ≤ k) (a : Arrangement) (m : Memᴰ a (arrangements n t)) (f : Follows n k l a) where
  p : Parts n l
  p = parts n l law

  w : IsArrangement n t a
  w = arranged n t a (omega (arith, p.size)) m

  -- a digit of the line in the arrangement
  Stepped : ℕ → Type 0
  Stepped c = (j : ℕ) × (0 < j) × (j < length a.digit_set + 1) × (own k l (place n a j) ≡ c)

  -- the arrangement's blacks are the line's
  first_place : place n a (first_step a) ≡ length p.pre
  unfolding p
  first_place =
      own_inj n k l law high (place n a (first_step a)) (length p.pre) (step_lt n t a w (first_step a) (first_within a)) (omega (arith, p.size))
      (eqb-true (own k l (place n a (first_step a))) k (sym (allows_first k a (own k l (place n a (first_step a)))) ∙ f.each (first_step a) (first_within a))
      ∙ sym (own_first p k))

  second_place : place n a (second_step a) ≡ length p.pre + suc (length p.mid)
  unfolding p
  second_place =
      own_inj n k l law high (place n a (second_step a)) (length p.pre + suc (length p.mid)) (step_lt n t a w (second_step a) (second_within a))
      (omega (arith, p.size))
      (eqb-true (own k l (place n a (second_step a))) (suc k)
      (sym (allows_second k a (own k l (place n a (second_step a)))) ∙ f.each (second_step a) (second_within a)) ∙ sym (own_second p k))

  -- as many cells as the set has digits, each in the arrangement: they are the digits of the set
  module _ (xs : List ℕ) (size : length xs ≡ length a.digit_set) (stepped : (c : ℕ) → Memᴰ c xs → Stepped c)
      (few : (d : ℕ) → Memᴰ d (digits n) → count (eqb d) xs ≤ 1) where
    in_set : (c : ℕ) → Memᴰ c xs → Memᴰ c a.digit_set
    unfolding Stepped
    in_set c q =
        let s = stepped c q in
        Memᴰ.cast (sym s.3) (mid_digit k a s.0 (own k l (place n a s.0)) s.1 s.2 (f.each s.0 (omega (arith, s.2))))

    set_once : (d : ℕ) → Memᴰ d a.digit_set → count (eqb d) xs ≡ 1
    set_once =
        pigeonhole a.digit_set (subset_once (digits n) (digits_once n) w.subset) xs in_set size (λ d q. few d (subset_mem (digits n) w.subset d q))

    set_sum : sum xs ≡ sum a.digit_set
    set_sum = sum_each a.digit_set (subset_once (digits n) (digits_once n) w.subset) xs in_set set_once

    set_stepped : (d : ℕ) → Memᴰ d a.digit_set → Stepped d
    set_stepped d q = stepped d (count_in d xs (omega (arith, set_once d q)))

  -- the meeting of the target, and the steps of the digits
  Both : Type 0
  Both = (meets t (line_sum l) ≡ true) × ((d : ℕ) → Memᴰ d a.digit_set → Stepped d)

  both : Kind n t a → Both
  unfolding Both Stepped p
  both (is_inside_lem i e h) =
      let s = p.size in
      let one = ap (λ b. place n a (cond b 0 (length a.digit_set + 1))) (sym i) ∙ first_place in
      let two = ap (λ b. place n a (cond b (length a.digit_set + 1) 0)) (sym i) ∙ second_place in
      let here = place_here n a 0 (omega arith) in
      let there = place_here n a (length a.digit_set + 1) (omega arith) in
      let size : length p.mid ≡ length a.digit_set = omega arith in
      let stepped : (c : ℕ) → Memᴰ c p.mid → Stepped c = λ c q.
      let x = mem_place q in (
        suc x.0,
        omega arith,
        omega (arith, x.1),
        ap (own k l) (place_here n a (suc x.0) (omega (arith, x.1)) ∙ omega arith) ∙ own_mid p k x.0 x.1 ∙ x.2,
      ) in
      let few : (d : ℕ) → Memᴰ d (digits n) → count (eqb d) p.mid ≤ 1 = λ d q. omega (arith, p.once d q) in
      (subst (λ x. meets t x ≡ true) (sym (line_sum_lem p ∙ set_sum p.mid size stepped few)) e, set_stepped p.mid size stepped few)
  both (is_outside i e h) =
      let s = p.size in
      let st = w.starts in
      let sh = w.short in
      let one = ap (λ b. place n a (cond b 0 (length a.digit_set + 1))) (sym i) ∙ first_place in
      let two = ap (λ b. place n a (cond b (length a.digit_set + 1) 0)) (sym i) ∙ second_place in
      let here = place_here n a 0 (omega arith) in
      let there = place_wrap n a (length a.digit_set + 1) (omega arith) in
      let size : length (p.pre ++ p.post) ≡ length a.digit_set = length-append p.pre p.post ∙ omega arith in
      let front : (c : ℕ) → Memᴰ c p.pre → Stepped c = λ c q.
      let x = mem_place q in (
        x.0 + length p.post + 1,
        omega arith,
        omega (arith, x.1),
        ap (own k l) (place_wrap n a (x.0 + length p.post + 1) (omega arith) ∙ omega arith) ∙ own_pre p k x.0 x.1 ∙ x.2,
      ) in
      let back : (c : ℕ) → Memᴰ c p.post → Stepped c = λ c q.
      let x = mem_place q in (
        suc x.0,
        omega arith,
        omega (arith, x.1),
        ap (own k l) (place_here n a (suc x.0) (omega (arith, x.1)) ∙ omega arith) ∙ own_post p k x.0 ∙ x.2,
      ) in
      let stepped : (c : ℕ) → Memᴰ c (p.pre ++ p.post) → Stepped c = λ c q. ⊎_elim (front c) (back c) (Memᴰ.append_cases p.pre q) in
      let few : (d : ℕ) → Memᴰ d (digits n) → count (eqb d) (p.pre ++ p.post) ≤ 1 = λ d q. omega (arith, p.once d q) in
      let full = set_sum (p.pre ++ p.post) size stepped few in
      let rest : line_sum l ≡ sum (digits n) - sum a.digit_set = line_sum_lem p ∙ omega (arith, sum_all p) in
      (subst (λ x. meets t x ≡ true) (sym rest) e, set_stepped (p.pre ++ p.post) size stepped few)

  -- THE TARGET IS MET
  pub follows_meets : meets t (line_sum l) ≡ true
  unfolding Both
  follows_meets = (both w.kind).0

  -- Each digit of the set stands at a step between the blacks of the arrangement.
  pub digit_placed : (d : ℕ) → Memᴰ d a.digit_set → (j : ℕ) × (0 < j) × (j < length a.digit_set + 1) × (own k l (place n a j) ≡ d)
  unfolding Both Stepped
  digit_placed = (both w.kind).1
