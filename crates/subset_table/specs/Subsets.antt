-- The table of the subsets of the digits 1 to 7, and those of each sum and size in it. Assumes nothing.
use Rattle.std.specs.Prelude.{ℕ, ◌-◌, ◌^◌, Bool, List, ltb, length, get_or}
use Rattle.tally.specs.Tally as tally
use Rattle.table.specs.Table.{mask_of}
use Rattle.subset_table.specs.declared.Subset.{Subset}
use Rattle.subset_table.specs.declared.TheConstants.{SUBSETS}

-- What is printed of a set of digits: its mask (digit d is bit d), the sum of the digits, and how many they are.
unfoldable pub subset_of : List ℕ → Subset
subset_of s = record { mask = mask_of s; sum = tally.sum s; size = length s }

-- No digits.
abbrev pub no_digits : Subset
no_digits = record { mask = 0; sum = 0; size = 0 }

-- Subset s of the table.
unfoldable pub subset : ℕ → Subset
subset s = get_or SUBSETS s no_digits

-- The mask of subset s.
abbrev pub mask_in : ℕ → ℕ
mask_in s = (subset s).mask

-- How many digits subset s has.
abbrev pub size_in : ℕ → ℕ
size_in s = (subset s).size

-- All digits of a subset are of size n.
unfoldable pub of_size : ℕ → Subset → Bool
of_size n s = ltb s.mask (2 ^ (n - 1))

-- Where the subsets of sum k begin: behind those of a smaller sum.
unfoldable pub from_sum : ℕ → ℕ
from_sum k = tally.count (λ s. ltb s.sum k) SUBSETS
