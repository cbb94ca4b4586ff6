-- The bits that a walk over a mask gave are bits of the mask. Assumes nothing.
use Rattle.std.specs.Prelude.{true, Option, Some, None, MatchOption, IsSomeAnd}
use Prim.Native.Nat.{ℕ, zero, suc, ◌<◌}
use mathlib.Core.Path.{◌≡◌, sym, ap, ◌∙◌}
use mathlib.Core.List.{List, [], ◌∷◌}
use native.Mathlib.Omega.{arith}
use native.Mathlib.Decide.{ℕ_discrete}
use lib.ListN.{length}
use Rattle.std.specs.Iterator.{Yields}
use Rattle.std.specs.Iterator.Runs.{Run, YieldsRun, WholeRun, AnyItem}
use Rattle.std.specs.Option.{option_map}
use Rattle.std.specs.Prelude.{slice_index_or}
use Rattle.bits.specs.Bit.{bit}
use Rattle.value.specs.declared.Bits.{Bits}
use Rattle.value.specs.Mask.{LowestOf}
use Rattle.value.specs.Walk.{LowestFirst}
use Rattle.value.proofs.LowestLaws.{rest_keeps}

in_mask : {m v rest : ℕ} (w : ℕ) → LowestOf m v rest → bit w rest ≡ 1 → bit w m ≡ 1
in_mask {m} {v} w l e =
    elim (ℕ_discrete w v) [ yes q ↦ ap (λ y. bit y m) q ∙ l.here | no q ↦ sym (rest_keeps l w q) ∙ e ]

yields_bit : (s t : Bits) (xs : List ℕ) → Yields LowestFirst s xs t → (k : ℕ) → k < length xs →
    (slice_index_or xs k 0 < 16) × (bit (slice_index_or xs k 0) s.rest ≡ 1)
yields_bit s t [] y k h = absurd (omega arith)
yields_bit s t (x ∷ xs) (j, g, y) zero h = (g.value, g.here)
yields_bit s t (x ∷ xs) (j, g, y) (suc k) h = let r = yields_bit j t xs y k (omega arith) in (r.0, in_mask _ g r.1)

module _ (m z : ℕ) where
  of_at : (o : Option ℕ) → IsSomeAnd o (λ x. x ≡ m) → option_map (λ y. y) o ≡ Some z → z ≡ m
  of_at (Some x) e q = cc
  of_at None e q = absurd e

run_bit : (p : Run LowestFirst) (m : ℕ) → AnyItem p (λ x. x ≡ m) → (m < 16) × (bit m p.from.rest ≡ 1)
unfolding YieldsRun
run_bit p m (k, h, e) =
    rw (of_at m _ (p.at k) e (p.reads k 0 h)) at (yields_bit p.from p.gave.0.0 p.items p.gave.0.1 k (omega (arith, p.long)))

none_left : (s t : Bits) (xs : List ℕ) → Yields LowestFirst s xs t → length xs ≡ 0 → t.rest ≡ 0 → s.rest ≡ 0
none_left s t [] y z e = ap (λ (b : Bits). b.rest) y ∙ e
none_left s t (x ∷ xs) y z e = absurd (omega arith)

run_none : (p : Run LowestFirst) → p.whole ≡ true → p.len ≡ 0 → p.from.rest ≡ 0
unfolding YieldsRun
run_none p w z = none_left p.from p.gave.0.0 p.items p.gave.0.1 (omega (arith, p.long)) (p.gave.0.2 w).1.0

-- what is picked among the bits of a mask is one of them
pub one_of : (s : Bits) (r : Option ℕ) (Q : Run LowestFirst → ℕ → Type 0) →
    WholeRun LowestFirst s (λ p. MatchOption r (p.len ≡ 0) (λ m. AnyItem p (λ x. x ≡ m) × Q p m)) →
    MatchOption r (s.rest ≡ 0) (λ m. (m < 16) × (bit m s.rest ≡ 1))
one_of s (Some m) Q (p, e, w, f) = rw e at (run_bit p m f.0)
one_of s None Q (p, e, w, f) = rw e at (run_none p w f)
