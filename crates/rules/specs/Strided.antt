-- A line read by its start and its stride, so that rows and columns are one case. Assumes nothing.
use Rattle.std.specs.Prelude.{ℕ, ◌+◌, ◌*◌, List, map, get_or}
use Rattle.tally.specs.Tally.{span}

-- the first k cells from a start on, a stride apart
unfoldable pub strided : ℕ → ℕ → List ℕ → ℕ → List ℕ
strided start stride g k = map (λ j. get_or g (start + j * stride) 0) (span 0 k)

-- what f says of each of the first k lines
unfoldable pub each : {A : Type 0} → (List ℕ → A) → ℕ → ℕ → List ℕ → ℕ → ℕ → List A
each f step stride g n k = map (λ i. f (strided (i * step) stride g n)) (span 0 k)
