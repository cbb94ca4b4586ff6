-- The number by way of a mark and its opposite. These laws rest on `keeps_opposite` of specs/MarkLaws.antt. Assumes nothing.
use Rattle.std.specs.Prelude.{ℕ, ◌+◌, ◌-◌, ◌<◌, ◌≡◌, refl, Bool, true, false, not, ◌&&◌}
use Rattle.std.proofs.Common.{sym, ap₂, ◌∙◌, true≢false, arith}
use mathlib.Core.List.{List, ◌∷◌, Memᴰ}
use Rattle.tally.specs.Tally.{all}
use Rattle.tally.proofs.TallyLaws.{and_right, count_split, count_ext, count_never, test_ext}
use Rattle.tally.proofs.WayLaws.{all_each}
use Rattle.rules.specs.Grid.{Puzzle, keeps}
use Rattle.rules.specs.Mark.{keeps_mark}
use Rattle.rules.specs.Number.{grids, solves, number, capped}
use Rattle.number.specs.MarkLaws.{opposite, keeps_opposite}

both_kinds : (b : Bool) → b ≡ true → not b ≡ true → ⊥
both_kinds b t u = let z : not true ≡ true = rw t at u in true≢false (sym z)

-- OPPOSITES: a mark and its opposite in one list leave nothing
pub number_opposite : (p : Puzzle) {m : ℕ} {ms : List ℕ} → m < 65536 → Memᴰ m ms → Memᴰ (opposite m) ms → number p ms ≡ 0
unfolding number solves
number_opposite p {m} {ms} h k j =
    count_ext
    (λ g. test_ext (keeps p g && all (keeps_mark p.size g) ms) false
    (λ t. let u = and_right (keeps p g) _ t in
    let o = all_each (keeps_mark p.size g) j u in
    absurd (both_kinds (keeps_mark p.size g m) (all_each (keeps_mark p.size g) k u) (sym (keeps_opposite p.size g m h) ∙ o))) (λ t. absurd (true≢false (sym t))))
    (grids p.size)
    ∙ count_never (grids p.size)

and_rotate : (a b c : Bool) → (a && (b && c)) ≡ (a && c && b)
and_rotate true true true = refl
and_rotate true true false = refl
and_rotate true false true = refl
and_rotate true false false = refl
and_rotate false b c = refl

-- SPLITTING: each grid keeps a mark or its opposite, and not both
pub number_split : (p : Puzzle) (m : ℕ) (ms : List ℕ) → m < 65536 → number p ms ≡ number p (m ∷ ms) + number p (opposite m ∷ ms)
unfolding number solves all
number_split p m ms h =
    count_split (λ g. keeps p g && all (keeps_mark p.size g) ms) (λ g. keeps_mark p.size g m) (grids p.size)
    ∙ ap₂ ◌+◌ (count_ext (λ g. sym (and_rotate (keeps p g) (keeps_mark p.size g m) (all (keeps_mark p.size g) ms))) (grids p.size))
    (count_ext (λ g. sym (other g)) (grids p.size))
  where
    other : (g : List ℕ) → (keeps p g && (keeps_mark p.size g (opposite m) && all (keeps_mark p.size g) ms)) ≡ (keeps p g && all (keeps_mark p.size g) ms && not (keeps_mark p.size g m))
    other g = rw (keeps_opposite p.size g m h) (and_rotate (keeps p g) (not (keeps_mark p.size g m)) (all (keeps_mark p.size g) ms))

-- so a count goes by way of a mark: first with the mark, then with its opposite under what is left of the cap
pub capped_split : (p : Puzzle) (m : ℕ) (ms : List ℕ) (c : ℕ) → m < 65536 → capped c p ms ≡ capped c p (m ∷ ms) + capped (c - capped c p (m ∷ ms)) p (opposite m ∷ ms)
unfolding capped
capped_split p m ms c h = omega (arith, number_split p m ms h)
