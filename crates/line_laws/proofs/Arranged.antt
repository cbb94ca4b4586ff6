-- A listed arrangement: where it stands, what its pattern allows, and where it has its blacks. Assumes nothing.
use Prim.Native.Nat.{ℕ, suc, ◌+◌, ◌-◌, ◌≤◌, ◌<◌}
use mathlib.Core.Path.{◌≡◌, refl, sym, ap, ◌∙◌, subst}
use mathlib.Core.Bool.{Bool, true, false, cond}
use mathlib.Core.Logic.{⊎_elim}
use mathlib.Core.List.Memᴰ
use mathlib.Core.List.{List, map, Memᴰ}
use native.Mathlib.Omega.{arith}
use native.Mathlib.Decide.{ℕ_discrete, dec_lt}
use lib.Dec.{eqb, ltb, leb}
use lib.ListN.{length}
use borrow.Author.Tests.{eqb-true, eq-eqb, ne_eqb, lt-ltb, le-ltb, ltb-true, le-leb, leb-true}
use Rattle.tally.specs.Tally.{sum, any, span, keep, join}
use Rattle.tally.proofs.TallyLaws.{span_in, span_mem, any_in, any_mem}
use Rattle.rules.specs.Grid.{digits, meets}
use Rattle.table.specs.Closed.{Arrangement, subsets, printed_before, printed, subsets_with, from_starts, insides, outsides, arrangements, place, allows, Live}
use Rattle.table.proofs.ClosedTest.{Covers}
use Rattle.table.specs.Table.{half}
use Rattle.table.specs.Lines.{Places}
use Rattle.tally.proofs.ListLaws.{mem_keep, of_keep, mem_sort, of_sort}
use Rattle.line_laws.proofs.Lists.{mem_join, of_join}
use Rattle.line_laws.proofs.Subsets.{subset_length, subset_mem}
use Rattle.line_laws.proofs.Half.{digits_length, digit_range, digit_in, first_in, second_in}

-- ---- listed arrangements

-- An arrangement lies between the blacks and has the target's sum, or lies around them and leaves it.
pub data Kind (n t : ℕ) (a : Arrangement) : Type 0 where
  is_inside_lem : a.is_inside ≡ true → meets t (sum a.digit_set) ≡ true → a.start + (length a.digit_set + 2) ≤ n → Kind n t a
  is_outside : a.is_inside ≡ false → meets t (sum (digits n) - sum a.digit_set) ≡ true → n < a.start + (length a.digit_set + 2) → Kind n t a

-- What makes an arrangement one of a line of size n with target t.
pub record IsArrangement (n t : ℕ) (a : Arrangement) : Type 0 where
  pub subset : Memᴰ a.digit_set (subsets (digits n))
  pub short : length a.digit_set + 2 ≤ n
  pub starts : a.start < n
  pub kind : Kind n t a

-- the sets whose sum passes a test
module _ (n : ℕ) (ok : ℕ → Bool) where
  record Set (s : List ℕ) : Type 0 where
    subset : Memᴰ s (subsets (digits n))
    summed : ok (sum s) ≡ true

  mem_sets : (s : List ℕ) → Set s → Memᴰ s (subsets_with n ok)
  unfolding subsets_with printed
  mem_sets s m = mem_keep (λ s. ok (sum s)) (mem_sort printed_before m.subset) m.summed

  of_sets : (s : List ℕ) → Memᴰ s (subsets_with n ok) → Set s
  unfolding subsets_with printed
  of_sets s q = let k = of_keep (λ s. ok (sum s)) (printed n) q in record { subset = of_sort printed_before (subsets (digits n)) k.0; summed = k.1 }

  -- and their arrangements with starts that pass a test
  module _ (fit : List ℕ → ℕ → Bool) (b : Bool) where
    family : List Arrangement
    family = join (map (λ s. from_starts n b (fit s) s) (subsets_with n ok))

    record Member (a : Arrangement) : Type 0 where
      set : Set a.digit_set
      is : a.is_inside ≡ b
      starts : a.start < n
      placed : fit a.digit_set a.start ≡ true

    mem_family : (a : Arrangement) → Member a → Memᴰ a family
    unfolding family from_starts
    mem_family a m =
        mem_join (λ s. from_starts n b (fit s) s) (mem_sets a.digit_set m.set)
        (Memᴰ.cast (λ i. record { start = a.start; digit_set = a.digit_set; is_inside = m.is i })
        (Memᴰ.map (λ x. record { start = x; digit_set = a.digit_set; is_inside = b })
        (mem_keep (fit a.digit_set) (span_mem 0 n a.start (omega arith) (omega (arith, m.starts))) m.placed)))

    of_family : (a : Arrangement) → Memᴰ a family → Member a
    unfolding family from_starts
    of_family a q =
        let f = of_join (λ s. from_starts n b (fit s) s) (subsets_with n ok) q in
        let x = Memᴰ.of_map (λ x. record { start = x; digit_set = f.0; is_inside = b }) (keep (fit f.0) (span 0 n)) f.2 in
        let y = of_keep (fit f.0) (span 0 n) x.1 in
        let v = span_in 0 n x.0 y.0 in
        subst Member x.2 (record { set = of_sets f.0 f.1; is = refl; starts = omega arith; placed = y.1 })

-- the two families of a target
in_test : ℕ → List ℕ → ℕ → Bool
in_test n s x = leb (x + (length s + 2)) n

out_test : ℕ → List ℕ → ℕ → Bool
out_test n s x = ltb n (x + (length s + 2))

module _ (n t : ℕ) (a : Arrangement) where
  -- LISTED: the list has just these arrangements.
  pub arranged : 2 ≤ n → Memᴰ a (arrangements n t) → IsArrangement n t a
  unfolding arrangements insides outsides family in_test out_test
  arranged z m = ⊎_elim inner outer (Memᴰ.append_cases (insides n t) m)
    where
      short : Memᴰ a.digit_set (subsets (digits n)) → length a.digit_set + 2 ≤ n
      short u = omega (arith, z, subset_length (digits n) u, digits_length n)

      inner : Memᴰ a (insides n t) → IsArrangement n t a
      inner q =
          let w = of_family n (meets t) (in_test n) true a q in
          record { subset = w.set.subset; short = short w.set.subset; starts = w.starts; kind = is_inside_lem w.is w.set.summed (leb-true _ n w.placed) }

      outer : Memᴰ a (outsides n t) → IsArrangement n t a
      outer q =
          let w = of_family n (λ x. meets t (sum (digits n) - x)) (out_test n) false a q in
          record { subset = w.set.subset; short = short w.set.subset; starts = w.starts; kind = is_outside w.is w.set.summed (ltb-true n _ w.placed) }

  pub listed : IsArrangement n t a → Memᴰ a (arrangements n t)
  unfolding arrangements insides outsides family in_test out_test
  listed w = go w.kind
    where
      go : Kind n t a → Memᴰ a (arrangements n t)
      go (is_inside_lem i e h) =
          Memᴰ.append_left (outsides n t) (mem_family n (meets t) (in_test n) true a
          (record { set = record { subset = w.subset; summed = e }; is = i; starts = w.starts; placed = le-leb _ n h }))
      go (is_outside i e h) =
          Memᴰ.append_right (insides n t) (mem_family n (λ x. meets t (sum (digits n) - x)) (out_test n) false a
          (record { set = record { subset = w.subset; summed = e }; is = i; starts = w.starts; placed = lt-ltb n _ h }))

-- ---- its places

module _ (n : ℕ) (a : Arrangement) where
  pub place_here : (j : ℕ) → a.start + j < n → place n a j ≡ a.start + j
  unfolding place
  place_here j h = rw (lt-ltb (a.start + j) n h)

  pub place_wrap : (j : ℕ) → n ≤ a.start + j → place n a j ≡ a.start + j - n
  unfolding place
  place_wrap j h = rw (le-ltb (a.start + j) n h)

  pub place_lt : (j : ℕ) → a.start < n → j < n → place n a j < n
  place_lt j h g =
      elim (dec_lt (a.start + j) n) [ yes q ↦ rw (place_here j q) q | no q ↦ rw (place_wrap j (omega arith)) (omega arith) ]

-- ---- its pattern

-- The steps of an arrangement at which the line's first and second black stand.
abbrev pub first_step : Arrangement → ℕ
first_step a = cond a.is_inside 0 (length a.digit_set + 1)

abbrev pub second_step : Arrangement → ℕ
second_step a = cond a.is_inside (length a.digit_set + 1) 0

module _ (k : ℕ) (a : Arrangement) (v : ℕ) where
  pub allows_first : allows k a (first_step a) v ≡ eqb v k
  unfolding allows
  allows_first = go a.is_inside
    where
      len : ℕ
      len = length a.digit_set

      go : (b : Bool) →
          cond (eqb (cond b 0 (len + 1)) 0) (eqb v (cond b k (suc k)))
          (cond (eqb (cond b 0 (len + 1)) (len + 1)) (eqb v (cond b (suc k) k)) (any (eqb v) a.digit_set)) ≡ eqb v k
      go true = refl
      go false = rw (ne_eqb (len + 1) 0 (omega arith), eq-eqb (len + 1) (len + 1) refl)

  pub allows_second : allows k a (second_step a) v ≡ eqb v (suc k)
  unfolding allows
  allows_second = go a.is_inside
    where
      len : ℕ
      len = length a.digit_set

      go : (b : Bool) →
          cond (eqb (cond b (len + 1) 0) 0) (eqb v (cond b k (suc k)))
          (cond (eqb (cond b (len + 1) 0) (len + 1)) (eqb v (cond b (suc k) k)) (any (eqb v) a.digit_set))
          ≡ eqb v (suc k)
      go true = rw (ne_eqb (len + 1) 0 (omega arith), eq-eqb (len + 1) (len + 1) refl)
      go false = refl

  pub allows_mid : (j : ℕ) → 0 < j → j < length a.digit_set + 1 → allows k a j v ≡ any (eqb v) a.digit_set
  unfolding allows
  allows_mid j l h = rw (ne_eqb j 0 (omega arith), ne_eqb j (length a.digit_set + 1) (omega arith))

-- A step of an arrangement: at one of its blacks, or between them.
pub data Step (a : Arrangement) (j : ℕ) : Type 0 where
  at_first : j ≡ first_step a → Step a j
  at_second : j ≡ second_step a → Step a j
  at_mid : 0 < j → j < length a.digit_set + 1 → Step a j

pub step_at : (a : Arrangement) (j : ℕ) → j < length a.digit_set + 2 → Step a j
step_at a j h =
    elim (ℕ_discrete j 0) [
      | yes e ↦ start a.is_inside refl e
      | no u ↦ elim (ℕ_discrete j (length a.digit_set + 1)) [ yes e ↦ end a.is_inside refl e | no w ↦ at_mid (omega arith) (omega arith) ]
    ]
  where
    start : (b : Bool) → a.is_inside ≡ b → j ≡ 0 → Step a j
    start true i e = at_first (rw i e)
    start false i e = at_second (rw i e)

    end : (b : Bool) → a.is_inside ≡ b → j ≡ length a.digit_set + 1 → Step a j
    end true i e = at_second (rw i e)
    end false i e = at_first (rw i e)

pub first_within : (a : Arrangement) → first_step a < length a.digit_set + 2
first_within a = elim a.is_inside as (λ b. cond b 0 (length a.digit_set + 1) < length a.digit_set + 2) [ true ↦ omega arith | false ↦ omega arith ]

pub second_within : (a : Arrangement) → second_step a < length a.digit_set + 2
second_within a = elim a.is_inside as (λ b. cond b (length a.digit_set + 1) 0 < length a.digit_set + 2) [ true ↦ omega arith | false ↦ omega arith ]

-- An arrangement that is live in one table is live in another that still has what its pattern allows.
pub live_mono : (n k : ℕ) (a : Arrangement) (x y : Places) →
    ((j v : ℕ) → j < length a.digit_set + 2 → allows k a j v ≡ true → x (place n a j) v ≡ true → y (place n a j) v ≡ true) → Live n k x a → Live n k y a
live_mono n k a x y f alive =
    record {
      filled = λ j h. let u = alive.filled j h in (u.0, f j u.0 h u.2 u.1, u.2);
      placed = λ d m. let u = alive.placed d m in
          (u.0, u.1, u.2, f u.0 d (omega (arith, u.2)) (allows_mid k a d u.0 u.1 u.2 ∙ any_mem m) u.3);
    }

-- A live arrangement still has its blacks.
module _ (n k : ℕ) (m : Places) (a : Arrangement) (alive : Live n k m a) where
  pub live_first : m (place n a (first_step a)) k ≡ true
  live_first =
      let u = alive.filled (first_step a) (first_within a) in
      subst (λ v. m (place n a (first_step a)) v ≡ true) (eqb-true u.0 k (sym (allows_first k a u.0) ∙ u.2)) u.1

  pub live_second : m (place n a (second_step a)) (suc k) ≡ true
  live_second =
      let u = alive.filled (second_step a) (second_within a) in
      subst (λ v. m (place n a (second_step a)) v ≡ true) (eqb-true u.0 (suc k) (sym (allows_second k a u.0) ∙ u.2)) u.1

-- The pattern allows a digit between the blacks only.
pub digit_mid : (k : ℕ) (a : Arrangement) (j v : ℕ) → v < k → j < length a.digit_set + 2 → allows k a j v ≡ true → (0 < j) × (j < length a.digit_set + 1)
digit_mid k a j v h l t = go (step_at a j l)
  where
    go : Step a j → (0 < j) × (j < length a.digit_set + 1)
    go (at_first q) = absurd (omega (arith, eqb-true v k (sym (allows_first k a v) ∙ ap (λ x. allows k a x v) (sym q) ∙ t)))
    go (at_second q) = absurd (omega (arith, eqb-true v (suc k) (sym (allows_second k a v) ∙ ap (λ x. allows k a x v) (sym q) ∙ t)))
    go (at_mid b c) = (b, c)

-- What the pattern allows between the blacks is a digit of the set.
pub mid_digit : (k : ℕ) (a : Arrangement) (j v : ℕ) → 0 < j → j < length a.digit_set + 1 → allows k a j v ≡ true → Memᴰ v a.digit_set
mid_digit k a j v l h t = any_in v a.digit_set (sym (allows_mid k a v j l h) ∙ t)

module _ (n t : ℕ) (a : Arrangement) (w : IsArrangement n t a) where
  -- What the pattern allows is a value of the half.
  pub allows_half : (k j v : ℕ) → j < length a.digit_set + 2 → allows k a j v ≡ true → Memᴰ v (half n k)
  allows_half k j v h e = go (step_at a j h)
    where
      go : Step a j → Memᴰ v (half n k)
      go (at_first q) = Memᴰ.cast (eqb-true v k (sym (allows_first k a v) ∙ ap (λ x. allows k a x v) (sym q) ∙ e)) (first_in n k)
      go (at_second q) = Memᴰ.cast (eqb-true v (suc k) (sym (allows_second k a v) ∙ ap (λ x. allows k a x v) (sym q) ∙ e)) (second_in n k)
      go (at_mid l u) = digit_in n k (subset_mem (digits n) w.subset v (mid_digit k a j v l u e))

  -- ---- its blacks

  pub step_lt : (j : ℕ) → j < length a.digit_set + 2 → place n a j < n
  step_lt j h = place_lt n a j w.starts (omega (arith, w.short))

  -- The first stands in front of the second.
  pub first_second : place n a (first_step a) < place n a (second_step a)
  first_second = go w.kind
    where
      len : ℕ
      len = length a.digit_set

      first : (b : Bool) → a.is_inside ≡ b → place n a (first_step a) ≡ place n a (cond b 0 (len + 1))
      first b i = ap (λ x. place n a (cond x 0 (len + 1))) i

      second : (b : Bool) → a.is_inside ≡ b → place n a (second_step a) ≡ place n a (cond b (len + 1) 0)
      second b i = ap (λ x. place n a (cond x (len + 1) 0)) i

      go : Kind n t a → place n a (first_step a) < place n a (second_step a)
      go (is_inside_lem i e h) = omega (arith, first true i, second true i, place_here n a 0 (omega arith), place_here n a (len + 1) (omega arith))
      go (is_outside i e h) =
          omega (arith, w.starts, w.short, first false i, second false i, place_here n a 0 (omega (arith, w.starts)), place_wrap n a (len + 1) (omega arith))

  module _ (k i : ℕ) (high : 8 ≤ k) (small : n ≤ 9) where
    low : (v j : ℕ) → k ≤ v → 0 < j → j < length a.digit_set + 1 → allows k a j v ≡ true → ⊥
    low v j h l u e = let d = digit_range n v (subset_mem (digits n) w.subset v (mid_digit k a j v l u e)) in omega (arith, d.1)

    -- An arrangement that covers a black has it where it stands.
    pub covers_first : Covers n k a i k → place n a (first_step a) ≡ i
    covers_first c = go (step_at a c.step c.within)
      where
        go : Step a c.step → place n a (first_step a) ≡ i
        go (at_first q) = ap (place n a) (sym q) ∙ c.there
        go (at_second q) = absurd (let x = eqb-true k (suc k) (sym (allows_second k a k) ∙ ap (λ x. allows k a x k) (sym q) ∙ c.allowed) in omega arith)
        go (at_mid l u) = absurd (low k c.step (omega arith) l u c.allowed)

    pub covers_second : Covers n k a i (suc k) → place n a (second_step a) ≡ i
    covers_second c = go (step_at a c.step c.within)
      where
        go : Step a c.step → place n a (second_step a) ≡ i
        go (at_first q) = absurd (let x = eqb-true (suc k) k
            (sym (allows_first k a (suc k)) ∙ ap (λ x. allows k a x (suc k)) (sym q) ∙ c.allowed) in omega arith)
        go (at_second q) = ap (place n a) (sym q) ∙ c.there
        go (at_mid l u) = absurd (low (suc k) c.step (omega arith) l u c.allowed)
