-- The number under other lists of marks. Assumes nothing.
use Rattle.std.specs.Prelude.{ℕ, ◌≤◌, ◌≡◌, true, ◌&&◌}
use Rattle.std.proofs.Common.{ap}
use mathlib.Core.List.{List, ◌∷◌, ◌++◌, Permᴰ, Memᴰ}
use Rattle.tally.specs.Tally.{all}
use Rattle.tally.proofs.TallyLaws.{and_right, and_map, all_less, all_perm, count_le, count_ext, test_ext}
use Rattle.tally.proofs.WayLaws.{all_each}
use Rattle.rules.specs.Grid.{Puzzle, keeps}
use Rattle.rules.specs.Mark.{keeps_mark}
use Rattle.rules.specs.Short.{keeps_marks}
use Rattle.rules.specs.Number.{grids, solves, number}

-- marks that ask no less have no greater number
pub number_stronger : (p : Puzzle) (ms ns : List ℕ) → ((g : List ℕ) → keeps_marks p.size ms g ≡ true → keeps_marks p.size ns g ≡ true) → number p ms ≤ number p ns
unfolding number solves
number_stronger p ms ns h = count_le (λ g. and_map {a = keeps p g} (λ t. t) (h g)) (grids p.size)

-- marks that ask the same have the same number
pub number_same : (p : Puzzle) (ms ns : List ℕ) → ((g : List ℕ) → keeps_marks p.size ms g ≡ keeps_marks p.size ns g) → number p ms ≡ number p ns
unfolding number solves
number_same p ms ns h = count_ext (λ g. ap (λ b. keeps p g && b) (h g)) (grids p.size)

-- ORDER: the same marks in any order give the same number
pub number_order : (p : Puzzle) {ms ns : List ℕ} → Permᴰ ms ns → number p ms ≡ number p ns
number_order p {ms} {ns} d = number_same p ms ns (λ g. all_perm (keeps_mark p.size g) d)

-- ONE MARK MORE, anywhere, never raises the number
pub number_more : (p : Puzzle) (ms : List ℕ) (m : ℕ) (ns : List ℕ) → number p (ms ++ m ∷ ns) ≤ number p (ms ++ ns)
number_more p ms m ns = number_stronger p (ms ++ m ∷ ns) (ms ++ ns) (λ g. all_less (keeps_mark p.size g) ms m ns)

-- REPEATS: a mark that is in the list already changes nothing
pub number_repeat : (p : Puzzle) {m : ℕ} {ms : List ℕ} → Memᴰ m ms → number p (m ∷ ms) ≡ number p ms
unfolding all
number_repeat p {m} {ms} k =
    number_same p (m ∷ ms) ms (λ g. test_ext (keeps_mark p.size g m && all (keeps_mark p.size g) ms) (all (keeps_mark p.size g) ms)
    (and_right (keeps_mark p.size g m) _) (λ t. rw (all_each (keeps_mark p.size g) k t, t)))
