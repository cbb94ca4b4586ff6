-- `sheet_marking::byte_place` meets its contract. Assumes nothing.
use Prim.Native.Nat.{◌+◌, ◌%◌}
use native.Mathlib.Omega.{arith}
use borrow.Author.Rules.{rules}
use Rattle.sheet_marking.proofs.CountLaws.{place_low, place_high}
use Rattle.sheet_marking.proofs.byte_place.Goals as goal

pub returns-then-v-lt9 : goal.returns-then-v-lt9
returns-then-v-lt9 c = place_low _ _ (search rules) (omega arith) (search rules)

pub returns-else-v-lt9 : goal.returns-else-v-lt9
returns-else-v-lt9 c = place_high _ ((c.from.result + 1) % 256) (search rules) (omega arith) (search rules)
