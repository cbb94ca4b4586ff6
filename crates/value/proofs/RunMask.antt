-- The mask of a run: the bits from a to b - 1. Assumes nothing.
use Prim.Native.Nat.{ℕ, ◌+◌, ◌-◌, ◌*◌, ◌%◌, ◌^◌, ◌≤◌, ◌<◌}
use mathlib.Core.Path.{◌≡◌, refl, sym, ◌∙◌}
use mathlib.Core.Bool.{Bool, true, false, ◌&&◌, cond}
use native.Mathlib.Omega.{arith}
use lib.Dec.{eqb, ltb, leb}
use borrow.Author.Tests.{eqb-true, leb-true, ltb-true, le-leb, lt-ltb}
use Rattle.tally.specs.Tally.{span, all}
use Rattle.tally.proofs.TallyLaws.{span_mem}
use Rattle.tally.proofs.WayLaws.{all_each}
use Rattle.bits.specs.Bit.{bit}
use Rattle.bits.proofs.BitLaws.{shl_one}

-- computed at each run within nine bits
run_test : ℕ → ℕ → ℕ → Bool
run_test b a p = eqb (bit p (2 ^ b - 2 ^ a)) (cond (leb a p && ltb p b) 1 0)

run_right : all (λ b. all (λ a. all (run_test b a) (span 0 16)) (span 0 (b + 1))) (span 0 10) ≡ true
unfolding run_test span all bit
run_right = refl

pub run_bits : (a b p : ℕ) → a ≤ b → b ≤ 9 → p < 16 → bit p (2 ^ b - 2 ^ a) ≡ cond (leb a p && ltb p b) 1 0
unfolding run_test
run_bits a b p h k n =
    eqb-true (bit p (2 ^ b - 2 ^ a)) (cond (leb a p && ltb p b) 1 0)
    (all_each (run_test b a) (span_mem 0 16 p (omega arith) n)
    (all_each (λ a. all (run_test b a) (span 0 16)) (span_mem 0 (b + 1) a (omega arith) (omega arith))
    (all_each (λ b. all (λ a. all (run_test b a) (span 0 16)) (span 0 (b + 1))) (span_mem 0 10 b (omega arith) (omega arith)) run_right)))

-- as the code writes it
abbrev pub run_mask : ℕ → ℕ → ℕ
run_mask a b = 1 * 2 ^ b % 65536 - 1 * 2 ^ a % 65536

written_bits : (a b p : ℕ) → a ≤ b → b ≤ 9 → p < 16 → bit p (run_mask a b) ≡ cond (leb a p && ltb p b) 1 0
written_bits a b p h k n = rw (shl_one b (omega arith), shl_one a (omega arith)) (run_bits a b p h k n)

pub in_run : (a b p : ℕ) → a ≤ b → b ≤ 9 → p < 16 → bit p (run_mask a b) ≡ 1 → (a ≤ p) × (p < b)
in_run a b p h k n e = go (leb a p) refl (ltb p b) refl (sym (written_bits a b p h k n) ∙ e)
  where
    go : (x : Bool) → leb a p ≡ x → (y : Bool) → ltb p b ≡ y → ◌≡◌ {A = ℕ} (cond (leb a p && ltb p b) 1 0) 1 → (a ≤ p) × (p < b)
    go true x true y q = (leb-true a p x, ltb-true p b y)
    go false x t y q = absurd (let z = rw x at q in omega arith)
    go true x false y q = absurd (let z = rw (x, y) at q in omega arith)

pub run_in : (a b p : ℕ) → a ≤ p → p < b → b ≤ 9 → bit p (run_mask a b) ≡ 1
run_in a b p h k m = written_bits a b p (omega arith) m (omega arith) ∙ rw (le-leb a p h, lt-ltb p b k) refl
