-- Where the place of a black begins in a word. Assumes nothing.
use Prim.Native.Nat.{ℕ, ◌<◌}
use mathlib.Core.Path.{◌≡◌}
use native.Mathlib.Omega.{arith}
use Rattle.std.proofs.lemmas.Grind.{common_steps}
use Rattle.words.specs.Word.{shift_of}

pub shift_small : (k v s : ℕ) → s ≡ shift_of k v → s < 32
unfolding shift_of
shift_small k v s e = grind (arith, common_steps)
