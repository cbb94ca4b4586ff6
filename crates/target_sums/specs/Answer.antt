-- What the call for target sums leaves. Assumes nothing.
use Rattle.std.specs.Prelude.{ℕ, ⊤, ◌≡◌, List, Result}
use Rattle.refusal.specs.declared.Refusal.{Refusal}
use Rattle.refusal.specs.Number.{number_of}

-- A call answered by the number and left the two target slices as a definition says.
pub record SumsAnswered (given : ℕ × List ℕ × List ℕ) (answer : Result ⊤ Refusal) (rows columns : List ℕ) : Type 0 where
  pub answer_is : number_of answer ≡ given.0
  pub rows_are : rows ≡ given.1
  pub columns_are : columns ≡ given.2
