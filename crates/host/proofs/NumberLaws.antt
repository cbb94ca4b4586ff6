-- From an answer to its numbers. Assumes nothing.
use Prim.Native.Nat.{ℕ}
use mathlib.Core.List.{List}
use mathlib.Core.Path.{◌≡◌, ap}
use Rattle.std.specs.Prelude.{Result, Ok, Err}
use Rattle.refusal.specs.declared.Refusal.{Refusal}
use Rattle.refusal.specs.Number.{refusal_number}
use Rattle.host.specs.Number.{count_out}

pub count_refused : {b : Result ℕ Refusal} {k : Refusal} (old : ℕ) → Err k ≡ b → (refusal_number k, old) ≡ count_out b old
count_refused old e = ap (λ b. count_out b old) e

pub count_done : {b : Result ℕ Refusal} {c : ℕ} (old : ℕ) → Ok c ≡ b → (0, c) ≡ count_out b old
count_done old e = ap (λ b. count_out b old) e

pub sums_given : {k : ℕ} {rows columns : List ℕ} {given : ℕ × List ℕ × List ℕ} → k ≡ given.0 → rows ≡ given.1 → columns ≡ given.2 → (k, rows, columns) ≡ given
sums_given {given = given} e r c = rw (e, r, c)
