-- What holds in the loop of `subsets::write_subsets`.
use Rattle.std.proofs.Common.{◌≡◌, ◌≤◌, ◌+◌, ◌*◌, ◌++◌, take}
use Rattle.arrayvec.specs.ArrayVec.{array_vec_len}
use Rattle.std.specs.Prelude.{flat_map}
use Rattle.subset_table.specs.declared.TheConstants.{SUBSETS}
use Rattle.subsets.specs.Text.{subset_line}
use Rattle.subsets.proofs.write_subsets.Given as goal

abbrev pub invariant-loop-subset : goal.invariant-loop-subset
invariant-loop-subset g l =
    (l.out.items ≡ l.initial.out.items ++ flat_map subset_line (take l.subset-index SUBSETS))
    × (array_vec_len l.out ≤ array_vec_len l.initial.out + 12 * l.subset-index)
