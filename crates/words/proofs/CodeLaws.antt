-- The inner places as the code makes them. Assumes nothing.
use Prim.Native.Nat.{ℕ, ◌+◌, ◌-◌, ◌*◌, ◌/◌, ◌%◌, ◌^◌, ◌≤◌, ◌<◌}
use mathlib.Core.Path.{◌≡◌}
use native.Mathlib.Omega.{arith}
use native.Mathlib.Nat.{mod-eq_of_lt}
use lib.Pow.{pow_pos, pow-lt, shl_exact}
use Rattle.rules.specs.Size.{Size}
use Rattle.words.specs.Word.{inner_places}
use Rattle.words.proofs.WordFacts.{inner_small}

-- `1 << k` of 32 bits
pub shl_one : (k : ℕ) → k < 32 → 1 * 2 ^ k % 4294967296 ≡ 2 ^ k
shl_one k h = let z : 1 * 2 ^ k ≡ 2 ^ k = omega arith in rw z (mod-eq_of_lt (pow-lt h))

-- ---- the inner places

module _ (n len start : ℕ) (z : Size n) (l : len + 2 ≤ n) (h : start < n) where
  pub run_enough : 1 ≤ 1 * 2 ^ len % 4294967296
  run_enough = rw (shl_one len (omega (arith, z.high))) (pow_pos len)

  pub run_fits : (1 * 2 ^ len % 4294967296 - 1) * 2 ^ (start + 1) % 4294967296 ≡ (2 ^ len - 1) * 2 ^ (start + 1)
  run_fits =
      rw (shl_one len (omega (arith, z.high)))
      (shl_exact {a = 2 ^ len - 1} len (start + 1) 32 (omega (arith, pow_pos len)) (omega (arith, z.high)))

  pub line_positive : 0 < 1 * 2 ^ n % 4294967296
  line_positive = rw (shl_one n (omega (arith, z.high))) (pow_pos n)

  pub inner_code :
      (1 * 2 ^ len % 4294967296 - 1) * 2 ^ (start + 1) % 4294967296 % (1 * 2 ^ n % 4294967296) + (1 * 2 ^ len % 4294967296 - 1) * 2 ^ (start + 1) %
      4294967296 / 2 ^ n
      ≡ inner_places n len start
  unfolding inner_places
  inner_code = rw (run_fits, shl_one n (omega (arith, z.high)))

  pub inner_fits :
      (1 * 2 ^ len % 4294967296 - 1) * 2 ^ (start + 1) % 4294967296 % (1 * 2 ^ n % 4294967296) + (1 * 2 ^ len % 4294967296 - 1) * 2 ^ (start + 1) %
      4294967296 / 2 ^ n < 512
  inner_fits = rw inner_code (inner_small n len start z l h)
