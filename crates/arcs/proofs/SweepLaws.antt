-- The sweep of a line, one arrangement after the other. Assumes nothing.
use Prim.Native.Nat.{ℕ, ◌+◌, ◌-◌, ◌*◌, ◌≤◌, ◌<◌, suc}
use mathlib.Core.Path.{◌≡◌, refl, sym, ap, ◌∙◌, subst}
use mathlib.Core.Logic.{◌⊎◌, inl, inr}
use mathlib.Core.Bool.{Bool}
use mathlib.Core.List.{List}
use native.Mathlib.Omega.{arith}
use native.Mathlib.Decide.{ℕ_discrete, dec_lt}
use lib.ListN.{length, get_or, set}
use lib.Seq.{get_or-set_same, get_or-set_other}
use Rattle.rules.specs.Size.{Size}
use Rattle.queue_state.specs.Layout.{length_place, per_line, live_place, support_place, slab_size}
use Rattle.queue_state.specs.Slab.{cand, Sized, Grown}
use Rattle.queue_state.proofs.StruckLaws.{grown_trans, set_cand, set_grown, grown_refl}
use Rattle.queue_state.proofs.ReadyLaws.{ready_grown, next_grown}
use Rattle.queue_state.specs.Ready.{Ready, Next}
use Rattle.lane.specs.declared.Lane.{Lane}
use Rattle.words.specs.Word.{Known, word_of, part}
use Rattle.arcs.specs.Arc.{lives, live, support, Tallied, Alive, DeadArrangement, Listed, Fewer, Older, Held, Holding}
use Rattle.table.specs.Lines.{cell_at, black_at, LineOf}
use Rattle.arcs.proofs.LineLaws.{dead_kept, sum_each}
use Rattle.lane.proofs.LaneLaws.{cell_once}
use Rattle.arcs.proofs.AliveLaws.{alive_kept, alive_next, tallied_same, within_refl, within_trans, holding_drop}
use Rattle.arrangements.specs.declared.ArrangedLane.{ArrangedLane}
use Rattle.arcs.specs.Sweep.{RemoveAsk, Removed, Outlives, Aging, AllAlive, SweepAsk, Sweeping, Swept, LineDone, untouched, LineAsk}
use Rattle.bits.specs.Sum.{sum_over}
use Rattle.bits.proofs.SumLaws.{sum_none}
use Rattle.table.specs.Value.{HalfOf}
use Rattle.words.proofs.PatternLaws.{part_other}

-- its line is one of its size
pub line_of : (a : ArrangedLane) → LineOf a.lane.len a.lane.number
unfolding LineOf
line_of a = go (dec_lt a.lane.number 9)
  where
    go : Dec (a.lane.number < 9) → (a.lane.number < a.lane.len) ⊎ ((9 ≤ a.lane.number) × (a.lane.number < 9 + a.lane.len))
    go (yes h) = inl (omega (arith, a.among))
    go (no h) = inr (omega arith, omega (arith, a.among, a.lane.within))

module _ (arranged : ArrangedLane) {p v : ℕ} {l₀ : List ℕ} (a : SweepAsk arranged.lane p v l₀) where
  abbrev lane : Lane
  lane = arranged.lane

  abbrev n : ℕ
  n = lane.len

  abbrev ℓ : ℕ
  ℓ = lane.number

  z : Size n
  z = a.ready.size

  pub sweep_line : ℓ < 18
  sweep_line = lane.within

  pub sweep_place : p < 9
  sweep_place = omega (arith, a.place, a.ready.size.high)

  pub sweep_start : (len : ℕ) → len ≡ lives l₀ ℓ → Sweeping n ℓ p v l₀ l₀ 0 len
  unfolding Fewer Older AllAlive
  sweep_start len e =
      record {
        among = omega arith;
        within = within_refl n ℓ l₀;
        tallied = subst (λ k. Tallied n ℓ k l₀) (sym e) a.tallied;
        fewer = λ j h. inl (record { index = j; among = omega arith; is = refl });
        older = λ j h. record { index = j; among = omega arith; is = refl };
        holds = λ K g. subst (λ k. Holding n ℓ k l₀ K) (sym e) g;
        aging = λ h x f. record { done = λ j k. absurd (omega arith); todo = λ j b c. f j (omega arith) };
      }

  module _ {l : List ℕ} {i len : ℕ} (s : Sweeping n ℓ p v l₀ l i len) where
    pub sweep_ready : Ready n l
    sweep_ready = ready_grown s.within.grown a.ready

    pub sweep_bounds : (len ≤ per_line) × (length l ≡ slab_size)
    sweep_bounds = (s.tallied.room, sweep_ready.sized.size)

    next : (h : ℕ) → Next l₀ h (cell_at ℓ p) v → Next l h (cell_at ℓ p) v
    next h x = next_grown s.within.grown x

    module _ (b : i < len) where
      -- the word that the code reads
      pub sweep_known : Known n (live l ℓ i)
      sweep_known = s.tallied.known i b

      pub sweep_keep : Outlives n ℓ l p v (live l ℓ i) → Sweeping n ℓ p v l₀ l (i + 1) len
      sweep_keep k =
          record {
            among = omega arith;
            within = s.within;
            tallied = s.tallied;
            fewer = s.fewer;
            older = s.older;
            holds = s.holds;
            aging = λ h x f.
                let g = s.aging h x f in
                record { done = λ j c. one h x g j c (ℕ_discrete j i); todo = λ j c d. g.todo j (omega arith) d };
          }
        where
          one : (h : ℕ) → Next l₀ h (cell_at ℓ p) v → Aging n ℓ l h i len → (j : ℕ) → j < i + 1 → Dec (j ≡ i) → Alive n ℓ l (h + 1) (live l ℓ j)
          one h x g j c (no d) = g.done j (omega arith)
          one h x g j c (yes d) =
              subst (λ j. Alive n ℓ l (h + 1) (live l ℓ j)) (sym d)
              (alive_next (next h x) a.narrow (λ q hq e. subst (λ q. Outlives n ℓ l q v (live l ℓ i)) (cell_once ℓ p q e) k) (g.todo i (omega arith) b))

      pub sweep_ask : (m w : ℕ) → m ≡ len - 1 → w ≡ word_of n (live l ℓ i) → RemoveAsk lane i m w l
      sweep_ask m w e f =
          let q : len ≡ m + 1 = omega arith in
          record {
            ready = sweep_ready;
            tallied = subst (λ k. Tallied n ℓ k l) q s.tallied;
            listed = omega arith;
            word = f;
          }

      pub sweep_drop : {l' : List ℕ} (m : ℕ) → m ≡ len - 1 → DeadArrangement n ℓ l (live l ℓ i) → Removed n ℓ i m l l' → Sweeping n ℓ p v l₀ l' i m
      unfolding Fewer Older
      sweep_drop {l'} m e d r =
          record {
            among = omega arith;
            within = within_trans a.ready.size sweep_line s.within r.within;
            tallied = r.tallied;
            fewer = λ j c. fewer j (s.fewer j c);
            older = λ j c. older j c (ℕ_discrete j i);
            holds = λ K g. holding_drop a.ready.size s.tallied.room (omega arith) (omega arith) d r (s.holds K g);
            aging = λ h x f.
                let g = s.aging h x f in
                record { done = λ j c. old h x g j c; todo = λ j c q. new h x g j c q (ℕ_discrete j i) };
          }
        where
          moves : (x : ℕ) (k : Listed ℓ len l x) → Dec (k.index ≡ i) → Dec (k.index ≡ m) → Listed ℓ m l' x ⊎ DeadArrangement n ℓ l' x
          moves x k (yes q) _ = inr (dead_kept r.within.grown (subst (DeadArrangement n ℓ l) (sym (ap (live l ℓ) q) ∙ k.is) d))
          moves x k (no q) (yes o) =
              inl (record { index = i; among = omega (arith, k.among); is = r.here ∙ sym (ap (live l ℓ) o) ∙ k.is })
          moves x k (no q) (no o) =
              inl (record { index = k.index; among = omega (arith, k.among); is = r.stays k.index (omega (arith, k.among, s.tallied.room)) q ∙ k.is })

          fewer : (j : ℕ) → Listed ℓ len l (live l₀ ℓ j) ⊎ DeadArrangement n ℓ l (live l₀ ℓ j) → Listed ℓ m l' (live l₀ ℓ j) ⊎ DeadArrangement n ℓ l' (live l₀ ℓ j)
          fewer j (inl k) = moves (live l₀ ℓ j) k (ℕ_discrete k.index i) (ℕ_discrete k.index m)
          fewer j (inr k) = inr (dead_kept r.within.grown k)

          older : (j : ℕ) → j < m → Dec (j ≡ i) → Listed ℓ (lives l₀ ℓ) l₀ (live l' ℓ j)
          older j c (yes o) = subst (Listed ℓ (lives l₀ ℓ) l₀) (sym (ap (live l' ℓ) o ∙ r.here)) (s.older m (omega arith))
          older j c (no o) = subst (Listed ℓ (lives l₀ ℓ) l₀) (sym (r.stays j (omega (arith, s.tallied.room)) o)) (s.older j (omega arith))

          old : (h : ℕ) → Next l₀ h (cell_at ℓ p) v → Aging n ℓ l h i len → (j : ℕ) → j < i → Alive n ℓ l' (h + 1) (live l' ℓ j)
          old h x g j c =
              subst (Alive n ℓ l' (h + 1)) (sym (r.stays j (omega (arith, s.tallied.room)) (λ q. omega arith)))
              (alive_kept n ℓ (live l ℓ j) (h + 1) r.within.grown (omega (arith, (next h x).waiting)) (g.done j c))

          new : (h : ℕ) → Next l₀ h (cell_at ℓ p) v → Aging n ℓ l h i len → (j : ℕ) → i ≤ j → j < m → Dec (j ≡ i) → Alive n ℓ l' h (live l' ℓ j)
          new h x g j c q (yes o) =
              subst (Alive n ℓ l' h) (sym (ap (live l' ℓ) o ∙ r.here))
              (alive_kept n ℓ (live l ℓ m) h r.within.grown (omega (arith, (next h x).waiting)) (g.todo m (omega arith) (omega arith)))
          new h x g j c q (no o) =
              subst (Alive n ℓ l' h) (sym (r.stays j (omega (arith, s.tallied.room)) o))
              (alive_kept n ℓ (live l ℓ j) h r.within.grown (omega (arith, (next h x).waiting)) (g.todo j c (omega arith)))

  -- ---- the number of those that are left is stored

  module _ {l : List ℕ} {len : ℕ} (s : Swept n ℓ p v l₀ l len) where
    l' : List ℕ
    l' = set l (length_place ℓ) len

    sized : Sized l
    sized = (sweep_ready s).sized

    grown : Grown l l'
    unfolding l'
    grown = set_grown l (length_place ℓ) len sized (omega arith)

    far : (k : ℕ) → (k ≡ length_place ℓ → ⊥) → get_or l' k 0 ≡ get_or l k 0
    unfolding l'
    far k d = get_or-set_other l (length_place ℓ) k len 0 d

    count : lives l' ℓ ≡ len
    unfolding l'
    count = get_or-set_same l (length_place ℓ) len 0 (omega (arith, sized.size, sweep_line))

    list : (j : ℕ) → live l' ℓ j ≡ live l ℓ j
    list j = far (live_place ℓ j) (λ e. omega (arith, sweep_line))

    tally : (y u : ℕ) → support l' y u ≡ support l y u
    tally y u = far (support_place y u) (λ e. omega (arith, sweep_line))

    same_cand : (x u : ℕ) → cand l' x u ≡ cand l x u
    unfolding l'
    same_cand x u = set_cand l (length_place ℓ) len sized (omega arith) x u

    hold : (K : ℕ → ℕ → Bool) → Holding n ℓ len l K → Holding n ℓ (lives l' ℓ) l' K
    hold K g =
        record {
          has = λ x u b c. same_cand x u ∙ g.has x u b c;
          uses = λ q u b c d e.
              let w = g.uses q u b c d e in
              let o = sym (list w.0) in
              (w.0, omega (arith, w.1, count), subst (λ id. part (black_at ℓ) (word_of n id) q u ≡ 1) o w.2, subst (Held n ℓ K) o w.3);
        }

    pub line_swept : LineDone n ℓ p v l₀ (set l (length_place ℓ) len)
    unfolding l' Fewer Older AllAlive
    line_swept =
        record {
          grown = grown_trans s.within.grown grown;
          rest = λ k b c. far k (λ e. omega arith) ∙ s.within.rest k b (λ j h e. omega arith) (λ y u h i e. omega arith);
          others = λ m h d.
              record {
                count = far (length_place m) (λ e. d (omega arith)) ∙ s.within.rest (length_place m) (omega arith) (λ j i e. omega arith) (λ y u i g e. omega arith);
                list = λ j b. far (live_place m j) (λ e. omega (arith, sweep_line))
                    ∙ s.within.rest (live_place m j) (omega arith) (λ i g e. d (omega arith)) (λ y u i g e. omega arith);
                tally = λ q u b c. tally (m * 9 + q) u ∙ s.within.others (m * 9 + q) u (omega arith) c (λ e. d (omega arith));
              };
          sinks = λ y u b c. omega (arith, tally y u, s.within.sinks y u b c);
          struck = λ x u b c d.
              let w = s.within.struck x u b c (sym (same_cand x u) ∙ d) in
              record { line = ℓ; of = line_of arranged; at = w.at; within = w.within; there = w.there; half = w.half; none = tally (ℓ * 9 + w.at) u ∙ w.none };
          tallied = subst (λ k. Tallied n ℓ k l') (sym count)
              (tallied_same grown (λ j b. list j) (λ q u b c. tally (ℓ * 9 + q) u) a.ready.size s.tallied);
          fewer = λ j b. gone (s.fewer j b);
          older = λ j b. subst (Listed ℓ (lives l₀ ℓ) l₀) (sym (list j)) (s.older j (omega (arith, count)));
          holds = λ K g. hold K (s.holds K g);
          alive = λ h x f j b.
              subst (Alive n ℓ l' (h + 1)) (sym (list j))
              (alive_kept n ℓ (live l ℓ j) (h + 1) grown (omega (arith, (next s h x).waiting)) ((s.aging h x f).done j (omega (arith, count))));
        }
      where
        gone : {x : ℕ} → Listed ℓ len l x ⊎ DeadArrangement n ℓ l x → Listed ℓ (lives l' ℓ) l' x ⊎ DeadArrangement n ℓ l' x
        gone (inl k) = inl (record { index = k.index; among = omega (arith, k.among, count); is = list k.index ∙ k.is })
        gone (inr k) = inr (dead_kept grown k)

-- ---- with support the value is one of the line's half, and without it no live arrangement has it at the place

module _ {p v : ℕ} {lane : Lane} {l₀ : List ℕ} (a : LineAsk lane p v l₀) where
  -- the supports that the code reads
  line_bounds : (lane.number < 18) × (p < 9) × (length l₀ ≡ slab_size)
  line_bounds = (lane.within, omega (arith, a.place, a.ready.size.high), a.ready.sized.size)

  supported : support l₀ (lane.number * 9 + p) v ≡
      sum_over 0 (lives l₀ lane.number) (λ j. part (black_at lane.number) (word_of lane.len (live l₀ lane.number j)) p v)
  supported = a.tallied.supports p v line_bounds.1 a.narrow

  pub line_asked : (support l₀ (lane.number * 9 + p) v ≡ 0 → ⊥) → SweepAsk lane p v l₀
  unfolding HalfOf
  line_asked d =
      record {
        ready = a.ready;
        place = a.place;
        narrow = a.narrow;
        half = half (dec_lt v 8) (ℕ_discrete v (black_at lane.number)) (ℕ_discrete v (suc (black_at lane.number)));
        gone = a.gone;
        tallied = a.tallied;
      }
    where
      half : Dec (v < 8) → Dec (v ≡ black_at lane.number) → Dec (v ≡ suc (black_at lane.number)) →
          (v < 8) ⊎ ((black_at lane.number ≤ v) × (v < black_at lane.number + 2))
      half (yes b) _ _ = inl b
      half (no b) (yes e) _ = inr (omega arith, omega arith)
      half (no b) (no e) (yes f) = inr (omega arith, omega arith)
      half (no b) (no e) (no f) =
          absurd (d (supported ∙ sum_none 0 (lives l₀ lane.number) _
          (λ j _ _. part_other (black_at lane.number) (word_of lane.len (live l₀ lane.number j)) p v (omega arith) e f)))

  pub line_skipped : support l₀ (lane.number * 9 + p) v ≡ 0 → LineDone lane.len lane.number p v l₀ l₀
  unfolding Fewer Older AllAlive
  line_skipped e =
      record {
        grown = grown_refl l₀;
        rest = λ k b c. refl;
        others = λ m h d. record { count = refl; list = λ j b. refl; tally = λ q u b c. refl };
        sinks = λ y u b c. omega arith;
        struck = λ x u b c d. absurd (omega arith);
        tallied = a.tallied;
        fewer = λ j b. inl (record { index = j; among = b; is = refl });
        older = λ j b. record { index = j; among = b; is = refl };
        holds = λ K g. g;
        alive = λ h x f j b. alive_next x a.narrow (λ q hq o. untouched (none q (sym (cell_once lane.number p q o)) j b)) (f j b);
      }
    where
      none : (q : ℕ) → q ≡ p → (j : ℕ) → j < lives l₀ lane.number → part (black_at lane.number) (word_of lane.len (live l₀ lane.number j)) q v ≡ 0
      none q o j b =
          ap (λ q. part (black_at lane.number) (word_of lane.len (live l₀ lane.number j)) q v) o
          ∙ sum_each (lives l₀ lane.number) (λ j. part (black_at lane.number) (word_of lane.len (live l₀ lane.number j)) p v) (sym supported ∙ e) j b
