-- The state of a size, the strike that is handled next, and what stays while strikes are made. Assumes nothing.
use Prim.Native.Nat.{ℕ, suc, ◌+◌, ◌-◌, ◌*◌, ◌≤◌, ◌<◌}
use mathlib.Core.Path.{◌≡◌, ap, ◌∙◌}
use mathlib.Core.Logic.{⊎_elim}
use mathlib.Core.List.{List}
use native.Mathlib.Omega.{arith}
use native.Mathlib.Decide.{ℕ_discrete}
use Rattle.bits.specs.Sum.{sum_over, same}
use Rattle.bits.proofs.SumLaws.{sum_first}
use Rattle.queue_state.specs.Slab.{cand, tail, entry, waits, lag, Grown}
use Rattle.queue_state.proofs.SlabLaws.{cand_lt}
use Rattle.queue_state.proofs.StruckLaws.{grown_sized}
use Rattle.table.specs.Value.{ValueOf}
use Rattle.queue_state.specs.Ready.{Valid, Ready, Next}

pub ready_grown : {n : ℕ} {l l' : List ℕ} → Grown l l' → Ready n l → Ready n l'
ready_grown g r =
    record {
      sized = grown_sized g r.sized;
      size = r.size;
      proper = λ x v h k. r.proper x v h (omega (arith, g.lags 0 x v (omega arith) h));
    }

-- what the table has is a candidate of the size
pub ready_valid : {n : ℕ} {l : List ℕ} → Ready n l → (x v : ℕ) → v < 16 → cand l x v ≡ 1 → Valid n x v
unfolding lag
ready_valid r x v h e = r.proper x v h (omega arith)

-- a digit that the size has not is no candidate
pub ready_unused : {n : ℕ} {l : List ℕ} → Ready n l → (x v : ℕ) → n - 1 ≤ v → v < 8 → cand l x v ≡ 0
unfolding ValueOf
ready_unused {n} {l} s x v h g = go (ℕ_discrete (cand l x v) 1)
  where
    go : Dec (cand l x v ≡ 1) → cand l x v ≡ 0
    go (yes e) = absurd (⊎_elim (λ w. omega (arith, w)) (λ w. omega (arith, w)) (ready_valid s x v (omega arith) e).value)
    go (no e) = omega (arith, cand_lt l x v)

pub next_grown : {l l' : List ℕ} {h x v : ℕ} → Grown l l' → Next l h x v → Next l' h x v
next_grown {h = h} g n = record { waiting = omega (arith, g.grows, n.waiting); is = g.old h n.waiting ∙ n.is }

-- handling a strike lowers one lag by one
pub lag_pop : {l : List ℕ} {h x v : ℕ} → Next l h x v → (y w : ℕ) → lag l h y w ≡ lag l (h + 1) y w + same (y * 16 + w) (x * 16 + v)
unfolding lag waits
lag_pop {l} {h} {x} {v} n y w =
    let m : tail l - h ≡ suc (tail l - (h + 1)) = omega (arith, n.waiting) in
    let s : suc h ≡ h + 1 = omega arith in
    let f = sum_first h (tail l - (h + 1)) (λ (i : ℕ). same (y * 16 + w) (entry l i)) in
    let e : same (y * 16 + w) (entry l h) ≡ same (y * 16 + w) (x * 16 + v) = ap (same (y * 16 + w)) n.is in
    let g = rw s at f in
    rw m (omega arith)

-- where nothing waits, the lag is the candidate
pub lag_rest : (l : List ℕ) (x v : ℕ) → lag l (tail l) x v ≡ cand l x v
unfolding lag waits sum_over
lag_rest l x v = let z : tail l - tail l ≡ 0 = omega arith in rw z (omega arith)
