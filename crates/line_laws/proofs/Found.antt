-- A lawful line follows an arrangement between its blacks and one around them, and each of its places lies in one of the two. Assumes nothing.
use Prim.Native.Nat.{ℕ, zero, suc, ◌+◌, ◌-◌, ◌<◌}
use mathlib.Core.Path.{◌≡◌, refl, sym, ap, ◌∙◌, subst}
use mathlib.Core.Bool.{true, false}
use mathlib.Core.List.Memᴰ
use mathlib.Core.List.{List, ◌++◌, Memᴰ}
use native.Mathlib.Omega.{arith}
use native.Mathlib.Decide.{dec_lt}
use lib.Dec.{eqb}
use lib.ListN.{length, get_or, length-append}
use borrow.Author.Tests.{eqb-true, eq-eqb}
use Rattle.tally.specs.Tally.{sum, any, count, keep}
use Rattle.tally.proofs.TallyLaws.{Once, any_mem}
use Rattle.rules.specs.Grid.{digits, line_sum, meets}
use Rattle.table.specs.Closed.{Arrangement, arrangements, place, allows}
use Rattle.table.proofs.ClosedTest.{Covers}
use Rattle.table.specs.Table.{own}
use Rattle.tally.proofs.ListLaws.{mem_keep, of_keep}
use Rattle.line_laws.proofs.Lists.{get_or_mem, count_mem}
use Rattle.line_laws.proofs.Pigeonhole.{length_each, sum_each}
use Rattle.line_laws.proofs.Subsets.{digits_once, keep_subset, subset_once}
use Rattle.line_laws.proofs.Parts.{LawfulLine, Parts, parts, line_sum_lem, sum_all, own_pre, own_first, own_mid, own_second, own_post}
use Rattle.line_laws.proofs.Arranged.{IsArrangement, is_inside_lem, is_outside, listed, place_here, place_wrap, Step, at_first, at_second, at_mid, step_at, allows_first, allows_second, allows_mid}

-- The values of a line follow the pattern of an arrangement.
pub record Follows (n k : ℕ) (l : List ℕ) (a : Arrangement) : Type 0 where
  pub each : (j : ℕ) → j < length a.digit_set + 2 → allows k a j (own k l (place n a j)) ≡ true

-- A place lies in an arrangement of the line that the line follows.
pub record Backed (n k t : ℕ) (l : List ℕ) (i : ℕ) : Type 0 where
  pub arrangement : Arrangement
  pub listed : Memᴰ arrangement (arrangements n t)
  pub follows : Follows n k l arrangement
  pub covers : Covers n k arrangement i (own k l i)

-- ---- the digits that stand x times in a list

chosen : ℕ → List ℕ → ℕ → List ℕ
chosen n mid x = keep (λ d. eqb (count (eqb d) mid) x) (digits n)

-- a list that has each of them once, and nothing else
module _ (n : ℕ) (mid : List ℕ) (x : ℕ) (m : List ℕ) (only : (c : ℕ) → Memᴰ c m → Memᴰ c (digits n) × (count (eqb c) mid ≡ x))
    (one : (d : ℕ) → Memᴰ d (digits n) → count (eqb d) mid ≡ x → count (eqb d) m ≡ 1) where
  chosen_mem : (c : ℕ) → Memᴰ c m → Memᴰ c (chosen n mid x)
  unfolding chosen
  chosen_mem c q = let w = only c q in mem_keep (λ d. eqb (count (eqb d) mid) x) w.0 (eq-eqb (count (eqb c) mid) x w.1)

  chosen_one : (d : ℕ) → Memᴰ d (chosen n mid x) → count (eqb d) m ≡ 1
  unfolding chosen
  chosen_one d q = let w = of_keep (λ d. eqb (count (eqb d) mid) x) (digits n) q in one d w.0 (eqb-true (count (eqb d) mid) x w.1)

  chosen_once : Once (chosen n mid x)
  unfolding chosen
  chosen_once = subset_once (digits n) (digits_once n) (keep_subset (λ d. eqb (count (eqb d) mid) x) (digits n))

  chosen_length : length m ≡ length (chosen n mid x)
  chosen_length = length_each (chosen n mid x) chosen_once m chosen_mem chosen_one

  chosen_sum : sum m ≡ sum (chosen n mid x)
  chosen_sum = sum_each (chosen n mid x) chosen_once m chosen_mem chosen_one

  chosen_any : (c : ℕ) → Memᴰ c m → any (eqb c) (chosen n mid x) ≡ true
  chosen_any c q = any_mem (chosen_mem c q)

-- ---- the line's two arrangements

module _ (n k t : ℕ) (l : List ℕ) (p : Parts n l) where
  mid_only : (c : ℕ) → Memᴰ c p.mid → Memᴰ c (digits n) × (count (eqb c) p.mid ≡ 1)
  mid_only c m = let d = p.mid_digits c m in (d, omega (arith, p.once c d, count_mem m))

  around_only : (c : ℕ) → Memᴰ c (p.pre ++ p.post) → Memᴰ c (digits n) × (count (eqb c) p.mid ≡ 0)
  around_only c m = let d = p.around_digits c m in (d, omega (arith, p.once c d, count_mem m))

  around_one : (d : ℕ) → Memᴰ d (digits n) → count (eqb d) p.mid ≡ 0 → count (eqb d) (p.pre ++ p.post) ≡ 1
  around_one d m e = omega (arith, p.once d m)

  inner_length : length p.mid ≡ length (chosen n p.mid 1)
  inner_length = chosen_length n p.mid 1 p.mid mid_only (λ d _ e. e)

  outer_length : length p.pre + length p.post ≡ length (chosen n p.mid 0)
  outer_length = sym (length-append p.pre p.post) ∙ chosen_length n p.mid 0 (p.pre ++ p.post) around_only around_one

  between : Arrangement
  between = record { start = length p.pre; digit_set = chosen n p.mid 1; is_inside = true }

  around : Arrangement
  around = record { start = length p.pre + suc (length p.mid); digit_set = chosen n p.mid 0; is_inside = false }

  via : (a : Arrangement) (j x v : ℕ) → place n a j ≡ x → own k l x ≡ v → allows k a j v ≡ true → allows k a j (own k l (place n a j)) ≡ true
  via a j x v e f g = rw (e, f) g

  between_follows : Follows n k l between
  unfolding between
  between_follows = record { each = λ j h. go j (step_at between j h) }
    where
      z : length p.pre + length p.mid + length p.post + 2 ≡ n
      z = p.size

      go : (j : ℕ) → Step between j → allows k between j (own k l (place n between j)) ≡ true
      go j (at_first q) =
          via between j (length p.pre) k (place_here n between j (omega (arith, z)) ∙ omega arith) (own_first p k)
          (ap (λ x. allows k between x k) q ∙ allows_first k between k ∙ eq-eqb k k refl)
      go j (at_second q) =
          via between j (length p.pre + suc (length p.mid)) (suc k)
          (place_here n between j (omega (arith, z, inner_length)) ∙ omega (arith, inner_length)) (own_second p k)
          (ap (λ x. allows k between x (suc k)) q ∙ allows_second k between (suc k) ∙ eq-eqb (suc k) (suc k) refl)
      go zero (at_mid u v) = absurd (omega arith)
      go (suc i) (at_mid u v) =
          let lt : i < length p.mid = omega (arith, inner_length) in
          via between (suc i) (length p.pre + suc i) (get_or p.mid i 0) (place_here n between (suc i) (omega (arith, z))) (own_mid p k i lt)
          (allows_mid k between (get_or p.mid i 0) (suc i) u v ∙ chosen_any n p.mid 1 p.mid mid_only (λ d _ e. e) (get_or p.mid i 0)
          (get_or_mem p.mid i lt))

  around_follows : Follows n k l around
  unfolding around
  around_follows = record { each = λ j h. go j (step_at around j h) }
    where
      z : length p.pre + length p.mid + length p.post + 2 ≡ n
      z = p.size

      digit : (c : ℕ) → Memᴰ c (p.pre ++ p.post) → any (eqb c) (chosen n p.mid 0) ≡ true
      digit = chosen_any n p.mid 0 (p.pre ++ p.post) around_only around_one

      go : (j : ℕ) → Step around j → allows k around j (own k l (place n around j)) ≡ true
      go j (at_first q) =
          via around j (length p.pre) k (place_wrap n around j (omega (arith, z, outer_length)) ∙ omega (arith, z, outer_length)) (own_first p k)
          (ap (λ x. allows k around x k) q ∙ allows_first k around k ∙ eq-eqb k k refl)
      go j (at_second q) =
          via around j (length p.pre + suc (length p.mid)) (suc k) (place_here n around j (omega (arith, z)) ∙ omega arith) (own_second p k)
          (ap (λ x. allows k around x (suc k)) q ∙ allows_second k around (suc k) ∙ eq-eqb (suc k) (suc k) refl)
      go zero (at_mid u v) = absurd (omega arith)
      go (suc i) (at_mid u v) =
          elim (dec_lt i (length p.post)) [
            | yes lt ↦
                via around (suc i) (length p.pre + suc (length p.mid + suc i)) (get_or p.post i 0)
                (place_here n around (suc i) (omega (arith, z)) ∙ omega arith) (own_post p k i)
                (allows_mid k around (get_or p.post i 0) (suc i) u v ∙ digit _ (Memᴰ.append_right p.pre (get_or_mem p.post i lt)))
            | no ge ↦
                let lt : i - length p.post < length p.pre = omega (arith, outer_length) in
                via around (suc i) (i - length p.post) (get_or p.pre (i - length p.post) 0)
                (place_wrap n around (suc i) (omega (arith, z)) ∙ omega (arith, z))
                (own_pre p k (i - length p.post) lt)
                (allows_mid k around (get_or p.pre (i - length p.post) 0) (suc i) u v ∙ digit _
                (Memᴰ.append_left p.post (get_or_mem p.pre (i - length p.post) lt)))
          ]

  module _ (met : meets t (line_sum l) ≡ true) where
    between_arranged : IsArrangement n t between
    unfolding between chosen
    between_arranged =
        record {
          subset = keep_subset (λ d. eqb (count (eqb d) p.mid) 1) (digits n);
          short = omega (arith, inner_length, p.size);
          starts = omega (arith, p.size);
          kind = is_inside_lem refl (subst (λ x. meets t x ≡ true) (line_sum_lem p ∙ chosen_sum n p.mid 1 p.mid mid_only (λ d _ e. e)) met)
              (omega (arith, inner_length, p.size));
        }

    around_arranged : IsArrangement n t around
    unfolding around chosen
    around_arranged =
        record {
          subset = keep_subset (λ d. eqb (count (eqb d) p.mid) 0) (digits n);
          short = omega (arith, outer_length, p.size);
          starts = omega (arith, p.size);
          kind = is_outside refl
              (subst (λ x. meets t x ≡ true)
              (line_sum_lem p ∙ omega (arith, sum_all p, chosen_sum n p.mid 0 (p.pre ++ p.post) around_only around_one)) met)
              (omega (arith, outer_length, p.size));
        }

    backed_by : (a : Arrangement) → IsArrangement n t a → Follows n k l a → (i j : ℕ) → j < length a.digit_set + 2 → place n a j ≡ i → Backed n k t l i
    backed_by a w f i j h e =
        record { arrangement = a; listed = listed n t a w; follows = f; covers = record { step = j; within = h; there = e; allowed = rw e at (f.each j h) } }

    parts_backed : (i : ℕ) → i < n → Backed n k t l i
    unfolding between around
    parts_backed i h =
        let z = p.size in
        let la = inner_length in
        let lb = outer_length in
        elim (dec_lt i (length p.pre)) [
          | yes q ↦ backed_by around around_arranged around_follows i (i + length p.post + 1) (omega arith)
              (place_wrap n around _ (omega arith) ∙ omega arith)
          | no q ↦
              elim (dec_lt i (length p.pre + length p.mid + 2)) [
                | yes v ↦ backed_by between between_arranged between_follows i (i - length p.pre) (omega arith)
                    (place_here n between _ (omega arith) ∙ omega arith)
                | no v ↦
                    backed_by around around_arranged around_follows i (i - (length p.pre + suc (length p.mid))) (omega arith)
                    (place_here n around _ (omega arith) ∙ omega arith)
              ]
        ]

-- Each place of a lawful line that meets its target lies in an arrangement that the line follows.
pub backed : (n k t : ℕ) (l : List ℕ) → LawfulLine n l → meets t (line_sum l) ≡ true → (i : ℕ) → i < n → Backed n k t l i
backed n k t l law met = parts_backed n k t l (parts n l law) met
