-- `subset_table::Subset::is_of_size` meets its contract. Assumes nothing.
use Prim.Native.Nat.{◌-◌}
use mathlib.Core.Path.{ap₂}
use native.Mathlib.Omega.{arith}
use lib.Dec.{ltb}
use Rattle.bits.proofs.BitLaws.{shl_one}
use Rattle.subset_table.specs.Subsets.{of_size}
use Rattle.subset_table.proofs.Subset.is_of_size.Goals as goal

pub returns : goal.returns
unfolding of_size
returns c = ap₂ ltb c.from.ensures (omega (arith, shl_one (c.args.size.n - 1) (omega (arith, c.args.size.fits.high))))
