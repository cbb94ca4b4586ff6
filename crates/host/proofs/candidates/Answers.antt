-- `host::candidates` meets its contract. Assumes nothing.
use Prim.Native.Nat.{◌≤◌, min}
use mathlib.Core.Path.{sym, ap, ◌∙◌}
use native.Mathlib.Omega.{arith}
use native.Mathlib.Nat.{min-eq_left}
use lib.ListN.{length-take}
use Rattle.table_bytes.specs.Entries.{most_lent}
use Rattle.table_bytes.proofs.EntryLaws.{entries_length}
use Rattle.host.proofs.candidates.Goals as goal

pub slice_bounds-candidates_by_entries-end : goal.slice_bounds-candidates_by_entries-end
slice_bounds-candidates_by_entries-end c =
    let q : c.lent_count-count.result ≤ most_lent = omega (arith, c.lent_count-count.ensures) in sym (length-take _ _ ∙ min-eq_left q)

pub candidates_by_entries-requires : goal.candidates_by_entries-requires
candidates_by_entries-requires c =
    let n = c.lent_count-count.result in
    let q : n ≤ most_lent = omega (arith, c.lent_count-count.ensures) in
    length-take _ _ ∙ min-eq_left q ∙ c.lent_count-count.ensures ∙ ap (λ k. min k most_lent) (sym (entries_length _))
