-- Steps along a line that wraps. Assumes nothing.
use Prim.Native.Nat.{ℕ, ◌+◌, ◌-◌, ◌≤◌, ◌<◌}
use mathlib.Core.Path.{◌≡◌, sym, ◌∙◌}
use native.Mathlib.Omega.{arith}
use native.Mathlib.Decide.{dec_lt, ℕ_discrete}
use borrow.Author.Tests.{lt-ltb, le-ltb, eq-eqb, ne_eqb}
use Rattle.words.specs.Word.{steps, after}

pub steps_on : (n a p : ℕ) → a ≤ p → steps n a p ≡ p - a
unfolding steps
steps_on n a p h = rw (le-ltb p a h)

pub steps_back : (n a p : ℕ) → p < a → steps n a p ≡ p + n - a
unfolding steps
steps_back n a p h = rw (lt-ltb p a h)

pub steps_none : (n a : ℕ) → steps n a a ≡ 0
steps_none n a = steps_on n a a (omega arith) ∙ omega arith

-- the steps to a place of the line tell the place
pub steps_lt : (n a p : ℕ) → a < n → p < n → steps n a p < n
steps_lt n a p h k = elim (dec_lt p a) [ yes l ↦ omega (arith, steps_back n a p l) | no l ↦ omega (arith, steps_on n a p (omega arith)) ]

pub steps_same : (n a p q : ℕ) → a < n → p < n → q < n → steps n a p ≡ steps n a q → p ≡ q
steps_same n a p q h k l e = go (dec_lt p a) (dec_lt q a)
  where
    go : Dec (p < a) → Dec (q < a) → p ≡ q
    go (yes u) (yes v) = omega (arith, steps_back n a p u, steps_back n a q v)
    go (yes u) (no v) = absurd (omega (arith, steps_back n a p u, steps_on n a q (omega arith)))
    go (no u) (yes v) = absurd (omega (arith, steps_on n a p (omega arith), steps_back n a q v))
    go (no u) (no v) = omega (arith, steps_on n a p (omega arith), steps_on n a q (omega arith))

pub steps_zero : (n a p : ℕ) → a < n → p < n → steps n a p ≡ 0 → p ≡ a
steps_zero n a p h k e = steps_same n a p a h k h (e ∙ sym (steps_none n a))

-- the next place is one step on
pub after_wraps : (n p : ℕ) → p + 1 ≡ n → after n p ≡ 0
unfolding after
after_wraps n p e = rw (eq-eqb (p + 1) n e)

pub after_next : (n p : ℕ) → (p + 1 ≡ n → ⊥) → after n p ≡ p + 1
unfolding after
after_next n p e = rw (ne_eqb (p + 1) n e)

pub after_in : (n p : ℕ) → p < n → after n p < n
after_in n p h =
    elim (ℕ_discrete (p + 1) n) [ yes e ↦ omega (arith, after_wraps n p e) | no e ↦ omega (arith, after_next n p e) ]

pub steps_after : (n a p : ℕ) → a < n → p < n → steps n a p + 1 < n → steps n a (after n p) ≡ steps n a p + 1
steps_after n a p h k l = go (ℕ_discrete (p + 1) n) (dec_lt p a)
  where
    go : Dec (p + 1 ≡ n) → Dec (p < a) → steps n a (after n p) ≡ steps n a p + 1
    go (yes e) (yes u) = absurd (omega arith)
    go (yes e) (no u) = let o = steps_on n a p (omega arith) in rw (after_wraps n p e) (omega (arith, steps_back n a 0 (omega arith)))
    go (no e) (yes u) = rw (after_next n p e) (next (dec_lt (p + 1) a))
      where
        next : Dec (p + 1 < a) → steps n a (p + 1) ≡ steps n a p + 1
        next (yes w) = omega (arith, steps_back n a p u, steps_back n a (p + 1) w)
        next (no w) = absurd (omega (arith, steps_back n a p u))
    go (no e) (no u) = rw (after_next n p e) (omega (arith, steps_on n a p (omega arith), steps_on n a (p + 1) (omega arith)))
