-- What a handler of a strike asks and gives. Assumes nothing.
use Prim.Native.Nat.{ℕ, ◌+◌, ◌*◌, ◌/◌, ◌%◌, ◌<◌}
use mathlib.Core.Path.{◌≡◌}
use mathlib.Core.List.{List}
use native.Mathlib.Omega.{arith}
use Rattle.queue_state.specs.Slab.{Grown}
use Rattle.queue_state.proofs.ReadyLaws.{ready_grown, next_grown}
use Rattle.queue_state.specs.Ready.{Ready, Next}
use Rattle.counters.proofs.CounterLaws.{next_valid}
use Rattle.line_laws.proofs.CellValues.{value_range}
use Rattle.singles.specs.Handling.{Handling}

-- the next strike of the queue is one
pub handling : {n h x v : ℕ} {l : List ℕ} → Ready n l → Next l h x v → v < 16 → Handling n l (x / 9) (x % 9) v h
handling {x = x} r k m =
    let u = next_valid r k m in
    let e : x / 9 * 9 + x % 9 ≡ x = omega arith in
    record { ready = r; row = u.row; column = u.column; value = u.value; next = rw e k }

pub handling_grown : {n r c v h : ℕ} {l l' : List ℕ} → Grown l l' → Handling n l r c v h → Handling n l' r c v h
handling_grown g a = record { ready = ready_grown g a.ready; row = a.row; column = a.column; value = a.value; next = next_grown g a.next }

-- another strike of the same candidate
pub handling_at : {n r c v h : ℕ} {l : List ℕ} → Handling n l r c v h → (k : ℕ) → Next l k (r * 9 + c) v → Handling n l r c v k
handling_at a k x = record { ready = a.ready; row = a.row; column = a.column; value = a.value; next = x }

-- and in a grown state
pub handling_now : {n r c v h : ℕ} {l l' : List ℕ} → Grown l l' → Handling n l r c v h → (k : ℕ) → Next l k (r * 9 + c) v → Handling n l' r c v k
handling_now g a k x = handling_grown g (handling_at a k x)

pub handling_cell : {n r c v h : ℕ} {l : List ℕ} → Handling n l r c v h → r * 9 + c < 81
handling_cell a = omega (arith, a.row, a.column, a.ready.size.high)

pub handling_value : {n r c v h : ℕ} {l : List ℕ} → Handling n l r c v h → v < 12
handling_value a = (value_range a.ready.size.high a.value).1

-- the row and the column of a place
pub row_back : (r c : ℕ) → c < 9 → (r * 9 + c) / 9 ≡ r
row_back r c h = omega arith

pub column_back : (r c : ℕ) → c < 9 → (r * 9 + c) % 9 ≡ c
column_back r c h = omega arith
