-- The pattern of a word, place by place. Assumes nothing.
use Prim.Native.Nat.{ℕ, zero, suc, min, ◌≤◌, ◌<◌}
use mathlib.Core.Path.{◌≡◌, refl, sym, ap, ◌∙◌}
use mathlib.Core.Logic.{◌⊎◌, inl, inr, ⊎_elim}
use mathlib.Core.Bool.{Bool, true, false, ◌&&◌, cond, true≢false, and-true, and-false}
use native.Mathlib.Omega.{arith}
use native.Mathlib.Decide.{dec_lt, ℕ_discrete}
use lib.Dec.{eqb}
use borrow.Author.Tests.{lt-ltb, le-ltb, eq-eqb, ne_eqb, eqb-true}
use Rattle.bits.specs.Bit.{bit}
use Rattle.bits.proofs.BitLaws.{bit_lt}
use Rattle.bits.specs.Sum.{same}
use Rattle.words.specs.Word.{set_of, inner_of, first_of, second_of, outside_of, pattern, part, from_of, to_of, head_of, last_of, steps, Shaped}
use Rattle.words.proofs.StepLaws.{steps_none}

-- ---- as it is written

pub pattern_digit : (k w p v : ℕ) → v < 8 → pattern k w p v ≡ (eqb (bit v (set_of w)) 1 && eqb (bit p (inner_of w)) 1)
unfolding pattern
pattern_digit k w p v h = rw (lt-ltb v 8 h)

pub pattern_black : (k w p v : ℕ) → 8 ≤ v → pattern k w p v ≡ cond (eqb v k) (eqb (first_of w) p) (eqb v (suc k) && eqb (second_of w) p)
unfolding pattern
pattern_black k w p v h = rw (le-ltb v 8 h)

pub part_lt : (k w p v : ℕ) → part k w p v < 2
unfolding part
part_lt k w p v = go (pattern k w p v)
  where
    go : (b : Bool) → cond b 1 0 < 2
    go true = omega arith
    go false = omega arith

pub part_yes : (k w p v : ℕ) → pattern k w p v ≡ true → part k w p v ≡ 1
unfolding part
part_yes k w p v e = rw e

pub part_pattern : (k w p v : ℕ) → part k w p v ≡ 1 → pattern k w p v ≡ true
unfolding part
part_pattern k w p v e = go (pattern k w p v) e
  where
    go : (b : Bool) → ◌≡◌ {A = ℕ} (cond b 1 0) 1 → b ≡ true
    go true q = refl
    go false q = absurd (omega arith)

pub part_none : (k w p v : ℕ) → pattern k w p v ≡ false → part k w p v ≡ 0
unfolding part
part_none k w p v e = rw e

pub part_digit : (k w p v : ℕ) → v < 8 → part k w p v ≡ min (bit v (set_of w)) (bit p (inner_of w))
unfolding part
part_digit k w p v h = rw (pattern_digit k w p v h) (go (bit v (set_of w)) (bit p (inner_of w)) (bit_lt v (set_of w)) (bit_lt p (inner_of w)))
  where
    go : (a b : ℕ) → a < 2 → b < 2 → cond (eqb a 1 && eqb b 1) 1 0 ≡ min a b
    go zero b h l = omega arith
    go (suc zero) zero h l = refl
    go (suc zero) (suc zero) h l = refl
    go (suc zero) (suc (suc b)) h l = absurd (omega arith)
    go (suc (suc a)) b h l = absurd (omega arith)

pub part_first : (k w p : ℕ) → 8 ≤ k → part k w p k ≡ same (first_of w) p
unfolding part same
part_first k w p h = rw (pattern_black k w p k h, eq-eqb k k refl)

pub part_second : (k w p : ℕ) → 8 ≤ k → part k w p (suc k) ≡ same (second_of w) p
unfolding part same
part_second k w p h = rw (pattern_black k w p (suc k) (omega arith), ne_eqb (suc k) k (omega arith), eq-eqb (suc k) (suc k) refl)

-- only digits and the line's own blacks are counted
pub part_other : (k w p v : ℕ) → 8 ≤ v → (v ≡ k → ⊥) → (v ≡ suc k → ⊥) → part k w p v ≡ 0
part_other k w p v h a b = part_none k w p v (pattern_black k w p v h ∙ rw (ne_eqb v k a, ne_eqb v (suc k) b))

-- ---- by the way from end to end

module _ (n k w : ℕ) (s : Shaped n w) (h : 8 ≤ k) where
  pub ends_apart : first_of w ≡ second_of w → ⊥
  unfolding from_of to_of
  ends_apart e = go (eqb (outside_of w) 0) s.apart
    where
      go : (b : Bool) → 0 < steps n (cond b (first_of w) (second_of w)) (cond b (second_of w) (first_of w)) → ⊥
      go true l = let z = steps_none n (second_of w) in let l2 : 0 < steps n (second_of w) (second_of w) = rw e at l in omega arith
      go false l = let z = steps_none n (second_of w) in let l2 : 0 < steps n (second_of w) (second_of w) = rw e at l in omega arith

  -- no digit lies at a place that is not an inner one
  none : (p v : ℕ) → v < 8 → bit p (inner_of w) ≡ 0 → pattern k w p v ≡ false
  none p v l e = pattern_digit k w p v l ∙ rw (ne_eqb (bit p (inner_of w)) 1 (omega arith)) (and-false (eqb (bit v (set_of w)) 1))

  -- a black at the place of the first black, of the second, and elsewhere
  at_first : (v : ℕ) → 8 ≤ v → pattern k w (first_of w) v ≡ eqb v k
  at_first v l =
      pattern_black k w (first_of w) v l
      ∙ rw (eq-eqb (first_of w) (first_of w) refl, ne_eqb (second_of w) (first_of w) (λ e. ends_apart (sym e))) (go (eqb v k) (eqb v (suc k)))
    where
      go : (a b : Bool) → cond a true (b && false) ≡ a
      go true b = refl
      go false b = and-false b

  at_second : (v : ℕ) → 8 ≤ v → pattern k w (second_of w) v ≡ eqb v (suc k)
  at_second v l =
      pattern_black k w (second_of w) v l
      ∙ rw (eq-eqb (second_of w) (second_of w) refl, ne_eqb (first_of w) (second_of w) ends_apart) (go (ℕ_discrete v k))
    where
      go : Dec (v ≡ k) → cond (eqb v k) false (eqb v (suc k) && true) ≡ eqb v (suc k)
      go (yes e) = rw (eq-eqb v k e, ne_eqb v (suc k) (omega arith))
      go (no e) = rw (ne_eqb v k e) (and-true (eqb v (suc k)))

  elsewhere : (p v : ℕ) → 8 ≤ v → (first_of w ≡ p → ⊥) → (second_of w ≡ p → ⊥) → pattern k w p v ≡ false
  elsewhere p v l a b = pattern_black k w p v l ∙ rw (ne_eqb (first_of w) p a, ne_eqb (second_of w) p b) (go (eqb v k) (eqb v (suc k)))
    where
      go : (a b : Bool) → cond a false (b && false) ≡ false
      go true b = refl
      go false b = and-false b

  off_ends : (p : ℕ) → (p ≡ from_of w → ⊥) → (p ≡ to_of w → ⊥) → (first_of w ≡ p → ⊥) × (second_of w ≡ p → ⊥)
  unfolding from_of to_of
  off_ends p a b = go (eqb (outside_of w) 0) a b
    where
      go : (o : Bool) → (p ≡ cond o (first_of w) (second_of w) → ⊥) → (p ≡ cond o (second_of w) (first_of w) → ⊥) → (first_of w ≡ p → ⊥) × (second_of w ≡ p → ⊥)
      go true a b = (λ e. a (sym e), λ e. b (sym e))
      go false a b = (λ e. b (sym e), λ e. a (sym e))

  -- the first end has a black and nothing else
  pub pattern_head : (v : ℕ) → pattern k w (from_of w) v ≡ eqb v (head_of k w)
  unfolding head_of from_of
  pattern_head v = go (dec_lt v 8)
    where
      low : (o : Bool) → v < 8 → eqb v (cond o k (suc k)) ≡ false
      low true l = ne_eqb v k (omega arith)
      low false l = ne_eqb v (suc k) (omega arith)

      high : (o : Bool) → 8 ≤ v → pattern k w (cond o (first_of w) (second_of w)) v ≡ eqb v (cond o k (suc k))
      high true l = at_first v l
      high false l = at_second v l

      go : Dec (v < 8) → pattern k w (from_of w) v ≡ eqb v (head_of k w)
      go (yes l) = none (from_of w) v l (s.beyond (from_of w) s.from_in (inl (steps_none n (from_of w)))) ∙ sym (low (eqb (outside_of w) 0) l)
      go (no l) = high (eqb (outside_of w) 0) (omega arith)

  -- and so has the last
  pub pattern_last : (v : ℕ) → pattern k w (to_of w) v ≡ eqb v (last_of k w)
  unfolding last_of to_of
  pattern_last v = go (dec_lt v 8)
    where
      low : (o : Bool) → v < 8 → eqb v (cond o (suc k) k) ≡ false
      low true l = ne_eqb v (suc k) (omega arith)
      low false l = ne_eqb v k (omega arith)

      high : (o : Bool) → 8 ≤ v → pattern k w (cond o (second_of w) (first_of w)) v ≡ eqb v (cond o (suc k) k)
      high true l = at_second v l
      high false l = at_first v l

      go : Dec (v < 8) → pattern k w (to_of w) v ≡ eqb v (last_of k w)
      go (yes l) = none (to_of w) v l (s.beyond (to_of w) s.to_in (inr (omega arith))) ∙ sym (low (eqb (outside_of w) 0) l)
      go (no l) = high (eqb (outside_of w) 0) (omega arith)

  -- an inner place has the digits of the set
  module _ (p : ℕ) (hp : p < n) (a : 0 < steps n (from_of w) p) (b : steps n (from_of w) p < steps n (from_of w) (to_of w)) where
    not_from : p ≡ from_of w → ⊥
    not_from e = let z = steps_none n (from_of w) in let l : 0 < steps n (from_of w) (from_of w) = rw e at a in omega arith

    not_to : p ≡ to_of w → ⊥
    not_to e = let l : steps n (from_of w) (to_of w) < steps n (from_of w) (to_of w) = rw e at b in omega arith

    pub pattern_inner : (v : ℕ) → v < 8 → pattern k w p v ≡ eqb (bit v (set_of w)) 1
    pattern_inner v l = pattern_digit k w p v l ∙ rw (eq-eqb (bit p (inner_of w)) 1 (s.between p hp a b)) (and-true (eqb (bit v (set_of w)) 1))

    pub pattern_inner_black : (v : ℕ) → 8 ≤ v → pattern k w p v ≡ false
    pattern_inner_black v l = let o = off_ends p not_from not_to in elsewhere p v l o.0 o.1

  -- what lies beyond the last has nothing
  pub pattern_beyond : (p v : ℕ) → p < n → steps n (from_of w) (to_of w) < steps n (from_of w) p → pattern k w p v ≡ false
  pattern_beyond p v hp b = go (dec_lt v 8)
    where
      not_from : p ≡ from_of w → ⊥
      not_from e = let z = steps_none n (from_of w) in let l : steps n (from_of w) (to_of w) < steps n (from_of w) (from_of w) = rw e at b in omega arith

      not_to : p ≡ to_of w → ⊥
      not_to e = let l : steps n (from_of w) (to_of w) < steps n (from_of w) (to_of w) = rw e at b in omega arith

      go : Dec (v < 8) → pattern k w p v ≡ false
      go (yes l) = none p v l (s.beyond p hp (inr (omega arith)))
      go (no l) = let o = off_ends p not_from not_to in elsewhere p v (omega arith) o.0 o.1

  pub pattern_past : (p v : ℕ) → n ≤ p → p < 9 → pattern k w p v ≡ false
  pattern_past p v a b = go (dec_lt v 8)
    where
      go : Dec (v < 8) → pattern k w p v ≡ false
      go (yes l) = none p v l (s.past p a b)
      go (no l) =
          let o = off_ends p (λ e. omega (arith, s.from_in)) (λ e. omega (arith, s.to_in)) in
          elsewhere p v (omega arith) o.0 o.1

  -- ---- the places of the word

  ends_first : (first_of w ≡ from_of w) ⊎ (first_of w ≡ to_of w)
  unfolding from_of to_of
  ends_first = go (eqb (outside_of w) 0)
    where
      go : (o : Bool) → (first_of w ≡ cond o (first_of w) (second_of w)) ⊎ (first_of w ≡ cond o (second_of w) (first_of w))
      go true = inl refl
      go false = inr refl

  ends_second : (second_of w ≡ from_of w) ⊎ (second_of w ≡ to_of w)
  unfolding from_of to_of
  ends_second = go (eqb (outside_of w) 0)
    where
      go : (o : Bool) → (second_of w ≡ cond o (first_of w) (second_of w)) ⊎ (second_of w ≡ cond o (second_of w) (first_of w))
      go true = inr refl
      go false = inl refl

  pub first_in : first_of w < n
  first_in = ⊎_elim (λ e. omega (arith, s.from_in)) (λ e. omega (arith, s.to_in)) ends_first

  pub second_in : second_of w < n
  second_in = ⊎_elim (λ e. omega (arith, s.from_in)) (λ e. omega (arith, s.to_in)) ends_second

  -- where a black may stand nothing else may
  pub black_alone : (p u v : ℕ) → 8 ≤ v → pattern k w p v ≡ true → pattern k w p u ≡ true → u ≡ v
  black_alone p u v l a b = go (ℕ_discrete p (from_of w)) (ℕ_discrete p (to_of w))
    where
      one : (q e : ℕ) → p ≡ q → ((x : ℕ) → pattern k w q x ≡ eqb x e) → u ≡ v
      one q e o f =
          eqb-true u e (sym (ap (λ p. pattern k w p u) o ∙ f u) ∙ b)
          ∙ sym (eqb-true v e (sym (ap (λ p. pattern k w p v) o ∙ f v) ∙ a))

      go : Dec (p ≡ from_of w) → Dec (p ≡ to_of w) → u ≡ v
      go (yes o) _ = one (from_of w) (head_of k w) o pattern_head
      go (no x) (yes o) = one (to_of w) (last_of k w) o pattern_last
      go (no x) (no y) = let o = off_ends p x y in absurd (true≢false (sym a ∙ elsewhere p v l o.0 o.1))
