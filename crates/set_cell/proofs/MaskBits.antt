-- The bits of a mask, by a test of all sixteen. Assumes nothing.
use Prim.Native.Nat.{ℕ, ◌<◌}
use mathlib.Core.Path.{◌≡◌, refl, sym, ap, ◌∙◌}
use mathlib.Core.Bool.{Bool, true, false, cond}
use native.Mathlib.Omega.{arith}
use lib.Dec.{eqb}
use borrow.Author.Tests.{eqb-true}
use Rattle.tally.specs.Tally.{span, all}
use Rattle.tally.proofs.TallyLaws.{span_mem}
use Rattle.tally.proofs.WayLaws.{all_each}
use Rattle.bits.specs.Bit.{bit}

-- A mask has exactly the bits that pass a test.
pub record MaskIs (m : ℕ) (q : ℕ → Bool) : Type 0 where
  pub has : (w : ℕ) → w < 16 → q w ≡ true → bit w m ≡ 1
  pub only : (w : ℕ) → w < 16 → bit w m ≡ 1 → q w ≡ true

-- The test of one bit.
unfoldable pub bit_test : ℕ → (ℕ → Bool) → ℕ → Bool
bit_test m q w = eqb (bit w m) (cond (q w) 1 0)

is_one : (b : Bool) → ◌≡◌ {A = ℕ} (cond b 1 0) 1 → b ≡ true
is_one true e = refl
is_one false e = absurd (omega arith)

pub mask_is : (m : ℕ) (q : ℕ → Bool) → all (bit_test m q) (span 0 16) ≡ true → MaskIs m q
unfolding bit_test
mask_is m q t =
    record { has = λ w h e. at w h ∙ ap (λ (b : Bool). cond b 1 0) e; only = λ w h e. is_one (q w) (sym (at w h) ∙ e) }
  where
    at : (w : ℕ) → w < 16 → bit w m ≡ cond (q w) 1 0
    at w h = eqb-true (bit w m) (cond (q w) 1 0) (all_each (bit_test m q) (span_mem 0 16 w (omega arith) (omega arith)) t)
