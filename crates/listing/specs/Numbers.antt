-- The numbers of a line's arrangements, in the order in which they are listed. Assumes nothing.
use Rattle.std.specs.Prelude.{ℕ, ◌+◌, ◌-◌, ◌*◌, Bool, true, false, List, [], ◌∷◌, ◌++◌, map}
use Rattle.tally.specs.Tally.{span, keep, join}
use Rattle.rules.specs.Check.{max_target}
use Rattle.subset_table.specs.Subsets.{subset, of_size, size_in, from_sum}
use Rattle.words.specs.Word.{on_side}

-- What f lists for the numbers from a up to m that pass a test.
unfoldable pub scan : (ℕ → List ℕ) → (ℕ → Bool) → ℕ → ℕ → List ℕ
scan f ok a m = join (map f (keep ok (span a (m - a))))

-- The arrangements of subset s, that has len digits, from start a on.
unfoldable pub starts_from : ℕ → Bool → ℕ → ℕ → ℕ → List ℕ
starts_from n outside s len a = scan (λ i. (s * 9 + i) ∷ []) (λ i. on_side n outside (i + len + 2)) a n

-- The arrangements of one side from the subsets s to m - 1 whose digits are of size n.
unfoldable pub side_from : ℕ → Bool → ℕ → ℕ → List ℕ
side_from n outside s m = scan (λ i. starts_from n outside i (size_in i) 0) (λ i. of_size n (subset i)) s m

-- Those whose digits have the sum that is wanted.
unfoldable pub side_of : ℕ → Bool → ℕ → List ℕ
side_of n outside want = side_from n outside (from_sum want) (from_sum (want + 1))

-- All arrangements of a line with target t: the inside ones, then the outside ones.
unfoldable pub numbers_for : ℕ → ℕ → List ℕ
numbers_for n t = side_of n false t ++ side_of n true (max_target n - t)
