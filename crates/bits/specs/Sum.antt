-- Sums over a run of numbers. Assumes nothing.
use Rattle.std.specs.Prelude.{ℕ, zero, suc, ◌+◌, cond, eqb}

-- f a + f (a + 1) + .. , n of them.
unfoldable pub sum_over : ℕ → ℕ → (ℕ → ℕ) → ℕ
sum_over a zero f = 0
sum_over a (suc n) f = sum_over a n f + f (a + n)

-- 1 where a is b, else 0.
unfoldable pub same : ℕ → ℕ → ℕ
same a b = cond (eqb a b) 1 0
