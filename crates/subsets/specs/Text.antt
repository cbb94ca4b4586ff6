-- What the program `subsets` prints. Assumes nothing.
use Rattle.std.specs.Prelude.{ℕ, List, [], ◌∷◌, ◌++◌, flat_map, decimal}
use Rattle.table.specs.Closed.{printed}
use Rattle.subset_table.specs.declared.Subset.{Subset}
use Rattle.subset_table.specs.Subsets.{subset_of}

-- The line of a subset: mask, sum and size in decimal, a space (32) between, and byte 10 at its end.
unfoldable pub subset_line : Subset → List ℕ
subset_line s = decimal s.mask ++ 32 ∷ (decimal s.sum ++ 32 ∷ (decimal s.size ++ 10 ∷ []))

-- The lines of the subsets of the digits 1 to 7, as they are printed.
unfoldable pub printed_text : List ℕ
printed_text = flat_map (λ s. subset_line (subset_of s)) (printed 9)
