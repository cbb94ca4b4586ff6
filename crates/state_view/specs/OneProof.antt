-- That a state is of a size has one proof at most, as a fact in a type has to: no value is both a digit and a black. It stands in specs/, since the type
-- names it. Assumes nothing.
use Rattle.std.specs.Prelude.{ℕ, List}
use Rattle.std.specs.Coded.{×_prop, le_prop}
use mathlib.Core.Path.{ap}
use mathlib.Core.Logic.{inl, inr}
use native.Mathlib.Omega.{arith}
use native.Mathlib.Nat.{ℕ_set}
use Rattle.rules.specs.Size.{Size}
use Rattle.table.specs.Value.{ValueOf}
use Rattle.queue_state.specs.Ready.{Ready}

value_prop : (n v : ℕ) → Size n → IsProp (ValueOf n v)
unfolding ValueOf
value_prop n v s (inl a) (inl b) = ap inl (×_prop le_prop le_prop a b)
value_prop n v s (inl a) (inr b) = absurd (omega (arith, s.high, a, b))
value_prop n v s (inr a) (inl b) = absurd (omega (arith, s.high, a, b))
value_prop n v s (inr a) (inr b) = ap inr (×_prop le_prop le_prop a b)

pub ready_prop : (n : ℕ) (l : List ℕ) → IsProp (Ready n l)
ready_prop n l = hlevel (le_prop, ℕ_set, value_prop)
