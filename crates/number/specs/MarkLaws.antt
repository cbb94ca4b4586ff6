-- A mark and its opposite. Assumes nothing.
use Rattle.std.specs.Prelude.{ℕ, ◌+◌, ◌-◌, ◌/◌, ◌%◌, ◌<◌, ◌≡◌, refl, Bool, true, false, not, cond, List}
use Rattle.std.proofs.Common.{arith}
use Rattle.std.proofs.Math.Decide.{dec_lt}
use Rattle.rules.specs.Mark.{rejects, keeps_mark}

-- the mark of the other kind on the same value of the same cell
unfoldable pub opposite : ℕ → ℕ
opposite m = cond (rejects m) (m - 32768) (m + 32768)

-- the kind decides between a test and its opposite
kinds : (a x : Bool) → cond (not a) (not x) x ≡ not (cond a (not x) x)
kinds true true = refl
kinds true false = refl
kinds false x = refl

-- two marks that differ in the kind alone
other_kind : (n : ℕ) (g : List ℕ) (m k : ℕ) → m ≡ k + 32768 → k < 32768 → keeps_mark n g m ≡ not (keeps_mark n g k)
unfolding keeps_mark rejects
other_kind n g m k e h = rw (rows, columns, values, high, low)
  where
    rows : m / 2048 % 16 ≡ k / 2048 % 16
    rows = omega arith

    columns : m / 128 % 16 ≡ k / 128 % 16
    columns = omega arith

    values : m / 8 % 16 ≡ k / 8 % 16
    values = omega arith

    high : m / 32768 % 2 ≡ 1
    high = omega arith

    low : k / 32768 % 2 ≡ 0
    low = omega arith

not_not : (b : Bool) → b ≡ not (not b)
not_not true = refl
not_not false = refl

-- a grid keeps the opposite of a mark exactly where it does not keep the mark
pub keeps_opposite : (n : ℕ) (g : List ℕ) (m : ℕ) → m < 65536 → keeps_mark n g (opposite m) ≡ not (keeps_mark n g m)
unfolding opposite rejects
keeps_opposite n g m h =
    elim (dec_lt m 32768) [
      | yes l ↦ let low : m / 32768 % 2 ≡ 0 = omega arith in rw low (other_kind n g (m + 32768) m refl l)
      | no l ↦
          let high : m / 32768 % 2 ≡ 1 = omega arith in
          let e = other_kind n g m (m - 32768) (omega arith) (omega arith) in
          rw (high, e) (not_not (keeps_mark n g (m - 32768)))
    ]
