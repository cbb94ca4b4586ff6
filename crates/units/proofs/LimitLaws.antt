-- What a limit says, behind the match that finds it, and of a shorter list. Assumes nothing.
use Prim.Native.Nat.{ℕ, ◌≤◌}
use mathlib.Core.Path.{◌≡◌, refl, sym, ap}
use mathlib.Core.Bool.{true}
use native.Mathlib.Omega.{arith}
use lib.Dec.{leb}
use borrow.Author.Tests.{leb-true, le-leb}
use Rattle.std.specs.Prelude.{Option, None, Some}
use Rattle.units.specs.Limits.{within}

pub within_marks : {limit : Option ℕ} {most : ℕ} → limit ≡ Some most → (marks : ℕ) → leb marks most ≡ within limit marks
within_marks e marks = ap (λ l. within l marks) (sym e)

pub within_shorter : (limit : Option ℕ) (a b : ℕ) → a ≤ b → within limit b ≡ true → within limit a ≡ true
within_shorter None a b h e = refl
within_shorter (Some most) a b h e = le-leb a most (let l = leb-true b most e in omega arith)
