-- Strikes one after the other. Assumes nothing.
use Prim.Native.Nat.{ℕ, ◌+◌, ◌-◌, ◌*◌, ◌/◌, ◌%◌, ◌≤◌, ◌<◌}
use mathlib.Core.Path.{◌≡◌, refl, ap, ◌∙◌}
use mathlib.Core.Logic.{◌⊎◌, inl, inr, ⊎_elim}
use mathlib.Core.List.{List}
use native.Mathlib.Omega.{arith}
use native.Mathlib.Decide.{ℕ_discrete}
use native.Mathlib.Nat.{le_trans}
use lib.ListN.{get_or, set, length-set}
use lib.Seq.{get_or-set_other}
use Rattle.bits.specs.Sum.{same}
use Rattle.bits.proofs.SumLaws.{sum_same}
use Rattle.queue_state.specs.Layout.{entry_place, tail_at, counters_at}
use Rattle.queue_state.specs.Slab.{cand, tail, entry, waits, lag, candidates_left, Sized, Grown, Struck}
use Rattle.queue_state.proofs.SlabLaws.{cand_lt, cand_same, mirrored_same}

pub grown_refl : (l : List ℕ) → Grown l l
grown_refl l =
    record { size = refl; balance = refl; grows = omega arith; old = λ i h. refl; lags = λ h x v p q. refl; sub = λ x v h. omega arith; masks = λ m. m }

pub grown_trans : {a b c : List ℕ} → Grown a b → Grown b c → Grown a c
grown_trans p q =
    record {
      size = q.size ∙ p.size;
      balance = q.balance ∙ p.balance;
      grows = le_trans p.grows q.grows;
      old = λ i h. q.old i (omega (arith, p.grows)) ∙ p.old i h;
      lags = λ h x v k n. q.lags h x v (omega (arith, p.grows)) n ∙ p.lags h x v k n;
      sub = λ x v h. le_trans (q.sub x v h) (p.sub x v h);
      masks = λ m. q.masks (p.masks m);
    }

-- the state stays as large, with room
pub grown_sized : {l l' : List ℕ} → Grown l l' → Sized l → Sized l'
grown_sized g s = record { size = g.size ∙ s.size; room = omega (arith, g.balance, s.room); masks = g.masks s.masks }

-- what is gone stays gone
pub grown_gone : {l l' : List ℕ} → Grown l l' → (x v : ℕ) → v < 16 → cand l x v ≡ 0 → cand l' x v ≡ 0
grown_gone g x v h e = omega (arith, g.sub x v h)

pub struck_none : (l : List ℕ) (Hit : ℕ → ℕ → Type 0) → ((x v : ℕ) → v < 16 → Hit x v → cand l x v ≡ 0) → Struck l l Hit
struck_none l Hit e =
    record { grown = grown_refl l; gone = e; only = λ x v h c d. absurd (omega arith); rest = λ p h. refl }

pub struck_both : {a b c : List ℕ} {H K : ℕ → ℕ → Type 0} → Struck a b H → Struck b c K → Struck a c (λ x v. H x v ⊎ K x v)
struck_both {a} {b} {c} {H} {K} p q =
    record {
      grown = grown_trans p.grown q.grown;
      gone = λ x v h. ⊎_elim (λ u. grown_gone q.grown x v h (p.gone x v h u)) (q.gone x v h);
      only = λ x v h e f. go x v h e f (ℕ_discrete (cand b x v) 0);
      rest = λ i h. q.rest i h ∙ p.rest i h;
    }
  where
    go : (x v : ℕ) → v < 16 → cand a x v ≡ 1 → cand c x v ≡ 0 → Dec (cand b x v ≡ 0) → H x v ⊎ K x v
    go x v h e f (yes z) = inl (p.only x v h e z)
    go x v h e f (no z) = inr (q.only x v h (omega (arith, cand_lt b x v)) f)

-- the same strikes, said otherwise
pub struck_as : {l l' : List ℕ} {H K : ℕ → ℕ → Type 0} → Struck l l' H → ((x v : ℕ) → v < 16 → H x v → K x v) → ((x v : ℕ) → v < 16 → K x v → H x v ⊎ (cand l x v ≡ 0)) → Struck l l' K
struck_as s f g =
    record {
      grown = s.grown;
      gone = λ x v h k. ⊎_elim (s.gone x v h) (grown_gone s.grown x v h) (g x v h k);
      only = λ x v h e z. f x v h (s.only x v h e z);
      rest = s.rest;
    }

-- a counter that moves leaves the table and the queue
module _ (l : List ℕ) (p k : ℕ) (s : Sized l) (h : counters_at ≤ p) where
  other : (i : ℕ) → i < counters_at → get_or (set l p k) i 0 ≡ get_or l i 0
  other i n = get_or-set_other l p i k 0 (λ e. omega arith)

  pub set_cand : (x v : ℕ) → cand (set l p k) x v ≡ cand l x v
  set_cand x v = cand_same l (set l p k) (λ i n. other i (omega arith)) x v

  set_tail : tail (set l p k) ≡ tail l
  set_tail = other tail_at (omega arith)

  set_entry : (i : ℕ) → i < tail l → entry (set l p k) i ≡ entry l i
  set_entry i n = other (entry_place i) (omega (arith, s.room))

  set_left : candidates_left (set l p k) ≡ candidates_left l
  unfolding candidates_left
  set_left = sum_same 0 1296 (λ i. cand (set l p k) (i / 16) (i % 16)) (λ i. cand l (i / 16) (i % 16)) (λ i a b. set_cand (i / 16) (i % 16))

  set_waits : (j e : ℕ) → waits (set l p k) j e ≡ waits l j e
  unfolding waits
  set_waits j e =
      rw set_tail (sum_same j (tail l - j) (λ i. same e (entry (set l p k) i)) (λ i. same e (entry l i)) (λ i a b. ap (same e) (set_entry i (omega arith))))

  pub set_grown : Grown l (set l p k)
  unfolding lag
  set_grown =
      record {
        size = length-set l p k;
        balance = omega (arith, set_tail, set_left);
        grows = omega (arith, set_tail);
        old = set_entry;
        lags = λ j x v n m. omega (arith, set_cand x v, set_waits j (x * 16 + v));
        sub = λ x v n. omega (arith, set_cand x v);
        masks = mirrored_same l (set l p k) (λ i n. other i (omega arith)) (λ i _ n. other i n);
      }
