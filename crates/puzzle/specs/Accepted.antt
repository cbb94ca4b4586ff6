-- A puzzle that a call goes on with. Assumes nothing.
use Rattle.std.specs.Prelude.{◌≡◌, true, leb, length, List, Result, Ok, Err}
use Rattle.tally.specs.Tally.{all}
use Rattle.refusal.specs.declared.Refusal.{Refusal}
use Rattle.rules.specs.Grid.{Puzzle}
use Rattle.rules.specs.Check.{Check, checked, max_target}
use Rattle.rules.specs.Size.{Size}

-- It has a size from 2 to 9, as many targets each way, and none above the greatest.
pub record AcceptedPuzzle (p : Puzzle) : Type 0 where
  pub size : Size p.size
  pub rows_long : length p.rows ≡ p.size
  pub columns_long : length p.columns ≡ p.size
  pub rows_within : all (λ t. leb t (max_target p.size)) p.rows ≡ true
  pub columns_within : all (λ t. leb t (max_target p.size)) p.columns ≡ true

-- What a function gives that makes the checks: something of which P holds where nothing is refused, else the refusal.
abbrev pub Passed : {A : Type 0} → List Check → (A → Type 0) → Result A Refusal → Type 0
Passed cs P (Ok x) = (Ok tt ≡ checked cs) × P x
Passed cs P (Err k) = Err k ≡ checked cs
