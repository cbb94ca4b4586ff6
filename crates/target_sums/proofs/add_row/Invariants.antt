-- What holds in the loop of `target_sums::add_row`: the first j cells of the row are added, each to the tally of its column too.
use Prim.Native.Nat.{◌+◌, ◌*◌, ◌≤◌, ◌<◌, ℕ}
use mathlib.Core.Path.{◌≡◌}
use lib.ListN.{get_or}
use Rattle.rules.specs.Strided.{strided}
use Rattle.target_sums.specs.Tally.{Seen, OneMore}
use Rattle.target_sums.proofs.add_row.Given as goal

abbrev pub invariant-loop-j : goal.invariant-loop-j
invariant-loop-j l =
    Seen l.t l.j (strided l.row.start l.row.stride l.row.cells.now l.j)
    × ((i : ℕ) → i < l.j → OneMore (get_or l.initial.down i 0) (get_or l.row.cells.now (l.row.start + i * l.row.stride) 0) (get_or l.down i 0))
    × ((i : ℕ) → l.j ≤ i → get_or l.down i 0 ≡ get_or l.initial.down i 0)
