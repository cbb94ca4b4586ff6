-- The laws of every family of counters. Assumes nothing.
use Prim.Native.Nat.{ℕ, ◌+◌, ◌-◌, ◌*◌, ◌≤◌, ◌<◌}
use mathlib.Core.Path.{◌≡◌, refl, sym, ap, ◌∙◌}
use mathlib.Core.Logic.{◌⊎◌, inl, inr, ⊎_elim}
use mathlib.Core.List.{List}
use native.Mathlib.Omega.{arith}
use native.Mathlib.Decide.{ℕ_discrete}
use lib.ListN.{get_or, set}
use lib.Seq.{get_or-set_same, get_or-set_other}
use Rattle.bits.specs.Sum.{sum_over, same}
use Rattle.bits.proofs.SumLaws.{same_yes, same_no, sum_same, sum_add, sum_one, sum_le, sum_has}
use Rattle.queue_state.specs.Layout.{counters_at}
use Rattle.queue_state.specs.Slab.{cand, tail, entry, waits, lag, Sized, Grown, Struck, CounterAsk}
use Rattle.queue_state.proofs.StruckLaws.{grown_refl, grown_trans, set_grown}
use Rattle.queue_state.proofs.ReadyLaws.{lag_pop, lag_rest}
use Rattle.queue_state.specs.Ready.{Valid, Ready, Next, Moved}
use Rattle.counters.specs.Counters.{Fam, Ruled, Fell}

-- ---- a counter that falls

pub fell_lower : {l l' : List ℕ} {p : ℕ} → Sized l → CounterAsk l p → l' ≡ set l p (get_or l p 0 - 1) → Fell l l' p
fell_lower {l} {l'} {p} s a e = rw e (record {
  grown = set_grown l p (get_or l p 0 - 1) s a.from;
  here = omega (arith, get_or-set_same l p (get_or l p 0 - 1) 0 (omega (arith, a.to, a.size)), a.positive);
  rest = λ q h d. get_or-set_other l p q (get_or l p 0 - 1) 0 d;
})

pub fell_struck : {l l₁ l₂ : List ℕ} {p : ℕ} {Hit : ℕ → ℕ → Type 0} → counters_at ≤ p → Fell l l₁ p → Struck l₁ l₂ Hit → Fell l l₂ p
fell_struck {p = p} h f s =
    record {
      grown = grown_trans f.grown s.grown;
      here = rw (s.rest p h) f.here;
      rest = λ q k d. s.rest q k ∙ f.rest q k d;
    }

pub fell_moved : {l l' : List ℕ} {p a b : ℕ} → Fell l l' p → a ≤ p → p < b → Moved l l' a b
fell_moved f h k = record { grown = f.grown; rest = λ q u o. f.rest q u (⊎_elim (λ x. λ e. omega arith) (λ x. λ e. omega arith) o) }

pub moved_refl : {a b : ℕ} (l : List ℕ) → Moved l l a b
moved_refl l = record { grown = grown_refl l; rest = λ q u o. refl }

-- strikes alone
pub moved_struck : {a b : ℕ} {l l' : List ℕ} {Hit : ℕ → ℕ → Type 0} → Struck l l' Hit → Moved l l' a b
moved_struck s = record { grown = s.grown; rest = λ q u o. s.rest q u }

pub moved_wide : {l l' : List ℕ} {a b a' b' : ℕ} → Moved l l' a b → a' ≤ a → b ≤ b' → Moved l l' a' b'
moved_wide m h k = record { grown = m.grown; rest = λ q u o. m.rest q u (⊎_elim (λ x. inl (omega arith)) (λ x. inr (omega arith)) o) }

pub moved_both : {l l₁ l₂ : List ℕ} {a b : ℕ} → Moved l l₁ a b → Moved l₁ l₂ a b → Moved l l₂ a b
moved_both m k = record { grown = grown_trans m.grown k.grown; rest = λ q u o. k.rest q u o ∙ m.rest q u o }

-- ---- the strike that is handled

-- it is of a candidate of the size
pub next_valid : {n h x v : ℕ} {l : List ℕ} → Ready n l → Next l h x v → v < 16 → Valid n x v
unfolding lag waits
next_valid {n} {h} {x} {v} {l} r k m =
    let z : tail l - 0 ≡ tail l = omega arith in
    let s : same (x * 16 + v) (entry l h) ≡ 1 = same_yes (x * 16 + v) (entry l h) (sym k.is) in
    let q = sum_has 0 (tail l - 0) h (λ (i : ℕ). same (x * 16 + v) (entry l i)) (omega arith) (omega (arith, k.waiting)) in
    r.proper x v m (omega arith)

-- ---- what a family has to show once

pub record Fine (F : Fam) (Rule : List ℕ → ℕ → Type 0) : Type 0 where
  pub from : counters_at ≤ F.base
  pub within : (n i : ℕ) → n ≤ 9 → F.used n i → i < F.size
  pub narrow : (i j : ℕ) → i < F.size → j < F.n → F.value i j < 16
  pub once : (i j i' j' : ℕ) → i < F.size → j < F.n → i' < F.size → j' < F.n → F.cell i j ≡ F.cell i' j' → F.value i j ≡ F.value i' j' → (i ≡ i') ×
      (j ≡ j')
  pub down : (l l' : List ℕ) (i : ℕ) → i < F.size → Grown l l' → Rule l i → Rule l' i

module _ (F : Fam) (low : ℕ) (Rule : List ℕ → ℕ → Type 0) (p : Fine F Rule) (n : ℕ) (hn : n ≤ 9) where
  lags : List ℕ → ℕ → ℕ → ℕ → ℕ
  lags l h i j = lag l h (F.cell i j) (F.value i j)

  cands : List ℕ → ℕ → ℕ → ℕ
  cands l i j = cand l (F.cell i j) (F.value i j)

  lags_grown : {l l' : List ℕ} {h : ℕ} → Grown l l' → h ≤ tail l → (i : ℕ) → F.used n i → sum_over 0 F.n (lags l h i) ≡ sum_over 0 F.n (lags l' h i)
  unfolding lags
  lags_grown {l} {l'} {h} g k i u =
      sum_same 0 F.n (lags l h i) (lags l' h i)
      (λ j a b. sym (g.lags h (F.cell i j) (F.value i j) k (p.narrow i j (p.within n i hn u) (omega arith))))

  -- strikes keep it where its counters stay
  pub ruled_kept : {l l' : List ℕ} {h : ℕ} → Grown l l' → h ≤ tail l → ((i : ℕ) → F.used n i → get_or l' (F.base + i) 0 ≡ get_or l (F.base + i) 0) →
      Ruled F low Rule n l h → Ruled F low Rule n l' h
  unfolding lags
  ruled_kept g k e w =
      record {
        counts = λ i u. e i u ∙ w.counts i u ∙ lags_grown g k i u;
        rule = λ i u m. p.down _ _ i (p.within n i hn u) g (w.rule i u (omega (arith, e i u)));
      }

  pub ruled_moved : {l l' : List ℕ} {a b h : ℕ} → Moved l l' a b → (F.base + F.size ≤ a) ⊎ (b ≤ F.base) → h ≤ tail l → Ruled F low Rule n l h →
      Ruled F low Rule n l' h
  ruled_moved m d k w =
      ruled_kept m.grown k
      (λ i u. m.rest (F.base + i) (omega (arith, p.from)) (⊎_elim (λ x. inl (omega (arith, p.within n i hn u))) (λ x. inr (omega arith)) d)) w

  -- at rest a counter is the number of its candidates in the table
  pub ruled_rest : {l : List ℕ} → Ruled F low Rule n l (tail l) → (i : ℕ) → F.used n i → get_or l (F.base + i) 0 ≡ sum_over 0 F.n
      (λ (j : ℕ). cand l (F.cell i j) (F.value i j))
  unfolding lags cands
  ruled_rest {l} w i u = w.counts i u ∙ sum_same 0 F.n (lags l (tail l) i) (cands l i) (λ j a b. lag_rest l (F.cell i j) (F.value i j))

  -- the strike at h, of the candidate v of the cell at place x, is handled
  module _ {l : List ℕ} {h x v : ℕ} (hv : v < 16) (next : Next l h x v) (w : Ruled F low Rule n l h) where
    -- a counter that does not count the candidate
    off : (i : ℕ) → F.used n i → ((j : ℕ) → j < F.n → F.cell i j ≡ x → F.value i j ≡ v → ⊥) → get_or l (F.base + i) 0 ≡ sum_over 0 F.n (lags l (h + 1) i)
    unfolding lags
    off i u d =
        w.counts i u
        ∙ sum_same 0 F.n (lags l h i) (lags l (h + 1) i)
        (λ j a b.
        let c = p.narrow i j (p.within n i hn u) (omega arith) in
        lag_pop next (F.cell i j) (F.value i j)
        ∙ omega (arith, same_no (F.cell i j * 16 + F.value i j) (x * 16 + v) (λ e. d j (omega arith) (omega arith) (omega arith))))

    -- the family does not count it
    pub ruled_pass : ((i j : ℕ) → F.used n i → j < F.n → F.cell i j ≡ x → F.value i j ≡ v → ⊥) → Ruled F low Rule n l (h + 1)
    unfolding lags
    ruled_pass d = record { counts = λ i u. off i u (λ j k. d i j u k); rule = w.rule }

    -- the family counts it
    module _ (i₀ j₀ : ℕ) (u₀ : F.used n i₀) (k₀ : j₀ < F.n) (ex : F.cell i₀ j₀ ≡ x) (ev : F.value i₀ j₀ ≡ v) where
      on : get_or l (F.base + i₀) 0 ≡ sum_over 0 F.n (lags l (h + 1) i₀) + 1
      unfolding lags
      on =
          let k = p.within n i₀ hn u₀ in
          let d : ℕ → ℕ = λ (j : ℕ). same (F.cell i₀ j * 16 + F.value i₀ j) (x * 16 + v) in
          let o : sum_over 0 F.n d ≡ 1 =
          sum_one 0 F.n j₀ d (omega arith) (omega arith) (same_yes _ _ (omega arith))
          (λ j a b ne. same_no _ _
          (λ e. let c = p.narrow i₀ j k (omega arith) in ne (p.once i₀ j i₀ j₀ k (omega arith) k k₀ (omega arith) (omega arith)).1)) in
          w.counts i₀ u₀
          ∙ sum_add 0 F.n (lags l h i₀) (lags l (h + 1) i₀) d (λ j a b. lag_pop next (F.cell i₀ j) (F.value i₀ j))
          ∙ ap (λ (y : ℕ). sum_over 0 F.n (lags l (h + 1) i₀) + y) o

      pub ruled_positive : 0 < get_or l (F.base + i₀) 0
      ruled_positive = omega (arith, on)

      module _ {l₂ : List ℕ} (f : Fell l l₂ (F.base + i₀)) where
        -- the counter is then at least the number of its candidates in the table
        pub ruled_most : sum_over 0 F.n (λ (j : ℕ). cand l (F.cell i₀ j) (F.value i₀ j)) ≤ get_or l₂ (F.base + i₀) 0
        unfolding lags lag cands
        ruled_most = omega (arith, f.here, on, sum_le 0 F.n (cands l i₀) (lags l (h + 1) i₀) (λ j. omega arith))

        -- it fell, strikes may have followed, and where it is low its rule holds
        pub ruled_done : (get_or l₂ (F.base + i₀) 0 ≤ low → Rule l₂ i₀) → Ruled F low Rule n l₂ (h + 1)
        unfolding lags
        ruled_done r =
            record {
              counts = λ i u. count i u (ℕ_discrete i i₀) ∙ lags_grown {h = h + 1} f.grown (omega (arith, next.waiting)) i u;
              rule = λ i u. rule i u (ℕ_discrete i i₀);
            }
          where
            there : (i : ℕ) → F.used n i → (i ≡ i₀ → ⊥) → get_or l₂ (F.base + i) 0 ≡ get_or l (F.base + i) 0
            there i u d = f.rest (F.base + i) (omega (arith, p.from)) (λ e. d (omega arith))

            count : (i : ℕ) → F.used n i → Dec (i ≡ i₀) → get_or l₂ (F.base + i) 0 ≡ sum_over 0 F.n (lags l (h + 1) i)
            count i u (yes d) = rw d (omega (arith, on, f.here))
            count i u (no d) =
                there i u d
                ∙ off i u (λ j k a b. d (p.once i j i₀ j₀ (p.within n i hn u) k (p.within n i₀ hn u₀) k₀ (a ∙ sym ex) (b ∙ sym ev)).0)

            rule : (i : ℕ) → F.used n i → Dec (i ≡ i₀) → get_or l₂ (F.base + i) 0 ≤ low → Rule l₂ i
            rule i u (yes d) m = rw d (r (rw d at m))
            rule i u (no d) m = p.down _ _ i (p.within n i hn u) f.grown (w.rule i u (omega (arith, there i u d)))
