-- A list that is written row by row. Assumes nothing.
use Prim.Native.Nat.{ℕ, ◌+◌, ◌-◌, ◌*◌, ◌/◌, ◌%◌, ◌≤◌, ◌<◌}
use mathlib.Core.Path.{◌≡◌, refl, sym, ◌∙◌, subst}
use mathlib.Core.List.{List, map}
use native.Mathlib.Omega.{arith}
use native.Mathlib.Nat.{mul-le-mul_right, mod-lt}
use native.Mathlib.Decide.{dec_lt}
use lib.ListN.{length, get_or, length-map}
use lib.Seq.{ext_get_or}
use borrow.Rule.Slice.PartMut.{put_mid, mid_of}
use Rattle.std.proofs.lemmas.List.{places}
use Rattle.std.proofs.lemmas.Nat.{div_below}
use Rattle.rules.proofs.GridLaws.{place_size}
use Rattle.tally.specs.Tally.{span}
use Rattle.tally.proofs.TallyLaws.{span_length, map_at}

module _ {X : Type 0} (a k : ℕ) (l part : List X) (e : length part ≡ length (mid_of a k l)) where
  -- what stands in a list before a part that comes back, and in that part
  before_part : (i : ℕ) (d : X) → i < a → a ≤ length l → get_or (put_mid a k l part) i d ≡ get_or l i d
  before_part i d h g = grind (arith, places)

  in_part : (i c : ℕ) (d : X) → i ≡ a + c → c < length part → a ≤ length l → get_or (put_mid a k l part) i d ≡ get_or part c d
  in_part i c d q h g = grind (arith, places)

-- one row more
pub rows_next : {X : Type 0} (P : ℕ → ℕ → X → Type 0) (n r : ℕ) (l part : List X) → r < n → length l ≡ n * n →
    length part ≡ length (mid_of (r * n) (r * n + n - r * n) l) →
    ((i c : ℕ) (d : X) → i < r → c < n → P i c (get_or l (i * n + c) d)) →
    ((c : ℕ) (d : X) → c < length (mid_of (r * n) (r * n + n - r * n) l) → P r c (get_or part c d)) →
    (i c : ℕ) (d : X) → i < r + 1 → c < n → P i c (get_or (put_mid (r * n) (r * n + n - r * n) l part) (i * n + c) d)
rows_next P n r l part h z e old new i c d u v =
    let k : ℕ = r * n + n - r * n in
    let inside : r * n + n ≤ n * n = omega (arith, mul-le-mul_right n h) in
    let size : length part ≡ n = grind (arith, places) in
    elim (dec_lt i r) [
      | yes q ↦
          let before : i * n + c < r * n = omega (arith, mul-le-mul_right n q) in
          subst (P i c) (sym (before_part (r * n) k l part e (i * n + c) d before (omega arith))) (old i c d q v)
      | no q ↦
          let same : i ≡ r = omega arith in
          rw (same, in_part (r * n) k l part e (r * n + c) c d refl (omega arith) (omega arith)) (new c d (omega arith))
    ]

-- a list of n rows is told by their entries
pub rows_are : (n : ℕ) (f : ℕ → ℕ → ℕ) (l : List ℕ) → length l ≡ n * n → ((r c : ℕ) → r < n → c < n → get_or l (r * n + c) 0 ≡ f r c) →
    l ≡ map (λ i. f (i / n) (i % n)) (span 0 (n * n))
rows_are n f l z e =
    let entry : ℕ → ℕ = λ i. f (i / n) (i % n) in
    let long : length (map entry (span 0 (n * n))) ≡ n * n = length-map (span 0 (n * n)) entry ∙ span_length 0 (n * n) in
    ext_get_or 0 l (map entry (span 0 (n * n))) (z ∙ sym long)
    (λ i h.
    let some : 0 < n = place_size n i (omega arith) in
    let whole : i / n * n + i % n ≡ i = grind arith in
    let zero : 0 + i ≡ i = omega arith in
    rw whole at (e (i / n) (i % n) (div_below i n n some (omega arith)) (mod-lt i some)) ∙ sym (rw zero at (map_at entry 0 (n * n) i (omega arith))))
