-- Lines one after the other: what they keep for each other. Assumes nothing.
use Prim.Native.Nat.{ℕ, ◌+◌, ◌≤◌, ◌<◌}
use mathlib.Core.Path.{◌≡◌, sym, ◌∙◌, subst}
use mathlib.Core.Logic.{◌⊎◌, inl, inr, ⊎_elim}
use mathlib.Core.Bool.{Bool}
use mathlib.Core.List.{List}
use native.Mathlib.Omega.{arith}
use native.Mathlib.Decide.{ℕ_discrete}
use native.Mathlib.Nat.{le_trans}
use lib.ListN.{length, get_or, get_or-eq_default}
use Rattle.rules.specs.Size.{Size}
use Rattle.queue_state.specs.Layout.{slab_size}
use Rattle.queue_state.specs.Slab.{cand, tail, Grown}
use Rattle.queue_state.proofs.SlabLaws.{cand_lt}
use Rattle.queue_state.proofs.StruckLaws.{grown_trans}
use Rattle.queue_state.specs.Ready.{Next}
use Rattle.words.specs.Word.{word_of, part}
use Rattle.arcs.specs.Arc.{lives, live, Tallied, DeadArrangement, Listed, Fewer, Older, Holding, Unsupported, Pruned}
use Rattle.table.specs.Lines.{cell_at, black_at, LineOf}
use Rattle.arcs.proofs.LineLaws.{line_in, dead_kept, unsupported_kept}
use Rattle.arcs.proofs.AliveLaws.{alive_next, tallied_same, all_alive_same, holding_same}
use Rattle.arcs.specs.Sweep.{untouched, AllAlive, Same, LineDone}

-- ---- one line is handled

module _ {n ℓ p v : ℕ} {l l' : List ℕ} (z : Size n) (long : length l ≡ slab_size) (of : LineOf n ℓ) (t : (m : ℕ) → LineOf n m → Tallied n m (lives l m) l)
    (d : LineDone n ℓ p v l l') where
  other : (m : ℕ) → LineOf n m → (m ≡ ℓ → ⊥) → Same m l l'
  other m o e = d.others m (line_in z o) e

  -- all tallies stand
  pub line_tallied : (m : ℕ) → LineOf n m → Tallied n m (lives l' m) l'
  line_tallied m o = go (ℕ_discrete m ℓ)
    where
      go : Dec (m ≡ ℓ) → Tallied n m (lives l' m) l'
      go (yes e) = subst (λ m. Tallied n m (lives l' m) l') (sym e) d.tallied
      go (no e) =
          let s = other m o e in
          subst (λ k. Tallied n m k l') (sym s.count) (tallied_same d.grown s.list s.tally z (t m o))

  -- the other lines stay alive at h
  pub line_alive : (m h : ℕ) → LineOf n m → (m ≡ ℓ → ⊥) → h ≤ tail l → AllAlive n m l h → AllAlive n m l' h
  line_alive m h o e b f = all_alive_same n m h d.grown b (other m o e) (t m o).room f

  line_listed : (m j : ℕ) → (s : Same m l l') → LineOf n m → j < lives l m → Listed m (lives l' m) l' (live l m j)
  line_listed m j s o b = record { index = j; among = omega (arith, s.count); is = s.list j (omega (arith, (t m o).room)) }

  pub line_pruned : Pruned n l l'
  unfolding Fewer Older
  line_pruned =
      record {
        moved = record { grown = d.grown; rest = λ k a b. ⊎_elim (λ c. d.rest k a c) (λ c. same k c) b };
        sinks = d.sinks;
        fewer = λ m o. fewer m o (ℕ_discrete m ℓ);
        older = λ m o. older m o (ℕ_discrete m ℓ);
        holds = λ K f m o. hold K f m o (ℕ_discrete m ℓ);
        struck = d.struck;
      }
    where
      same : (k : ℕ) → slab_size ≤ k → get_or l' k 0 ≡ get_or l k 0
      same k b = get_or-eq_default l' 0 (omega (arith, d.grown.size)) ∙ sym (get_or-eq_default l 0 (omega arith))

      fewer : (m : ℕ) → LineOf n m → Dec (m ≡ ℓ) → (j : ℕ) → j < lives l m → Listed m (lives l' m) l' (live l m j) ⊎ DeadArrangement n m l' (live l m j)
      fewer m o (yes e) = subst (λ m. (j : ℕ) → j < lives l m → Listed m (lives l' m) l' (live l m j) ⊎ DeadArrangement n m l' (live l m j)) (sym e) d.fewer
      fewer m o (no e) = λ j b. inl (line_listed m j (other m o e) o b)

      older : (m : ℕ) → LineOf n m → Dec (m ≡ ℓ) → (j : ℕ) → j < lives l' m → Listed m (lives l m) l (live l' m j)
      older m o (yes e) = subst (λ m. (j : ℕ) → j < lives l' m → Listed m (lives l m) l (live l' m j)) (sym e) d.older
      older m o (no e) = λ j b.
          let s = other m o e in
          record { index = j; among = omega (arith, s.count); is = sym (s.list j (omega (arith, s.count, (t m o).room))) }

      hold : (K : ℕ → ℕ → Bool) → ((m : ℕ) → LineOf n m → Holding n m (lives l m) l K) → (m : ℕ) → LineOf n m → Dec (m ≡ ℓ) → Holding n m (lives l' m) l' K
      hold K f m o (yes e) = subst (λ m. Holding n m (lives l' m) l' K) (sym e) (d.holds K (f ℓ of))
      hold K f m o (no e) = holding_same (other m o e) (t m o).room (d.holds K (f ℓ of)).has (f m o)

-- ---- one after the other

fewer_trans : (n ℓ la lb lc : ℕ) (a b c : List ℕ) → Grown b c → Fewer n ℓ la a lb b → Fewer n ℓ lb b lc c → Fewer n ℓ la a lc c
unfolding Fewer
fewer_trans n ℓ la lb lc a b c g f h j q = go (f j q)
  where
    go : Listed ℓ lb b (live a ℓ j) ⊎ DeadArrangement n ℓ b (live a ℓ j) → Listed ℓ lc c (live a ℓ j) ⊎ DeadArrangement n ℓ c (live a ℓ j)
    go (inr k) = inr (dead_kept g k)
    go (inl k) = subst (λ x. Listed ℓ lc c x ⊎ DeadArrangement n ℓ c x) k.is (h k.index k.among)

older_trans : (ℓ la lb lc : ℕ) (a b c : List ℕ) → Older ℓ la a lb b → Older ℓ lb b lc c → Older ℓ la a lc c
unfolding Older
older_trans ℓ la lb lc a b c f h j q = let k = h j q in subst (Listed ℓ la a) k.is (f k.index k.among)

pub pruned_trans : {n : ℕ} {a b c : List ℕ} → Size n → Pruned n a b → Pruned n b c → Pruned n a c
pruned_trans {n} {a} {b} {c} z s t =
    record {
      moved = record { grown = grown_trans s.moved.grown t.moved.grown; rest = λ k p q. t.moved.rest k p q ∙ s.moved.rest k p q };
      sinks = λ y v p q. le_trans (t.sinks y v p q) (s.sinks y v p q);
      fewer = λ ℓ o. fewer_trans n ℓ (lives a ℓ) (lives b ℓ) (lives c ℓ) a b c t.moved.grown (s.fewer ℓ o) (t.fewer ℓ o);
      older = λ ℓ o. older_trans ℓ (lives a ℓ) (lives b ℓ) (lives c ℓ) a b c (s.older ℓ o) (t.older ℓ o);
      holds = λ K f. t.holds K (s.holds K f);
      struck = λ x v h e f. go x v h e f (ℕ_discrete (cand b x v) 0);
    }
  where
    go : (x v : ℕ) → v < 16 → cand a x v ≡ 1 → cand c x v ≡ 0 → Dec (cand b x v ≡ 0) → Unsupported n c x v
    go x v h e f (yes d) = unsupported_kept z h t.sinks (s.struck x v h e d)
    go x v h e f (no d) = t.struck x v h (omega (arith, cand_lt b x v)) f

-- ---- lines that a strike does not touch

-- No arrangement of line m has the value v at the cell x.
unfoldable pub Clear : ℕ → ℕ → ℕ → ℕ → Type 0
Clear n m x v = (id q : ℕ) → q < n → x ≡ cell_at m q → part (black_at m) (word_of n id) q v ≡ 0

pub clear_alive : (n m h x v : ℕ) {l : List ℕ} → Next l h x v → v < 16 → Clear n m x v → AllAlive n m l h → AllAlive n m l (h + 1)
unfolding Clear AllAlive
clear_alive n m h x v {l} nx b f g j k = alive_next nx b (λ q c e. untouched (f (live l m j) q c e)) (g j k)
