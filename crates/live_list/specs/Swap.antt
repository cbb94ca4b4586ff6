-- What a swap-removal does to a list: two entries change places, and nothing else moves. Assumes nothing.
use Rattle.std.specs.Prelude.{ℕ, List, get_or, set}
use Rattle.live_list.specs.declared.Place.{Place}

-- What stands past the end of a list: never reached, since both places are asked to be in range.
abbrev pub none : Place
none = record { arrangement = 0 }

-- The records at i and j change places.
abbrev pub swapped : List Place → ℕ → ℕ → List Place
swapped xs i j = set (set xs i (get_or xs j none)) j (get_or xs i none)

-- The same of a list of numbers.
abbrev pub exchanged : List ℕ → ℕ → ℕ → List ℕ
exchanged xs i j = set (set xs i (get_or xs j 0)) j (get_or xs i 0)
