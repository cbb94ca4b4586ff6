-- One arrangement leaves a line. Assumes nothing.
use Prim.Native.Nat.{ℕ, ◌+◌, ◌*◌, ◌/◌, ◌%◌, ◌≤◌, ◌<◌}
use mathlib.Core.Path.{◌≡◌, sym, ap, ◌∙◌, subst}
use mathlib.Core.List.{List}
use native.Mathlib.Omega.{arith}
use native.Mathlib.Decide.{ℕ_discrete, dec_lt}
use lib.ListN.{length, get_or, set}
use Rattle.bits.specs.Sum.{sum_over}
use Rattle.bits.proofs.SumLaws.{sum_has, same_yes, same_no}
use Rattle.live_list.specs.Swap.{exchanged}
use Rattle.live_list.proofs.SwapLaws.{exchanged_here, exchanged_other}
use Rattle.queue_state.specs.Layout.{counters_at, per_line, live_place, support_place, slab_size}
use Rattle.queue_state.specs.Slab.{cand, Grown}
use Rattle.queue_state.proofs.StruckLaws.{grown_trans, grown_sized, grown_gone, set_cand, set_grown}
use Rattle.lane.specs.declared.Lane.{Lane}
use Rattle.words.specs.Word.{Known, Shaped, word_of, part}
use Rattle.words.proofs.PatternLaws.{part_lt}
use Rattle.words.proofs.WordLaws.{known_shaped}
use Rattle.arcs.specs.Arc.{live, support, Tallied}
use Rattle.table.specs.Value.{HalfOf}
use Rattle.table.specs.Lines.{cell_at, black_at}
use Rattle.arcs.specs.Sunk.{cell_of_place, Lost, Sunk}
use Rattle.arcs.proofs.SunkLaws.{slot_cell}
use Rattle.arcs.specs.Kill.{parts, KillAsk}
use Rattle.arcs.proofs.LineLaws.{part_half, part_place, sum_drop}
use Rattle.arcs.specs.Sweep.{RemoveAsk, UnsupportedIn, LineMoved, Removed}

module _ {i len w : ℕ} {lane : Lane} {l : List ℕ} (a : RemoveAsk lane i len w l) where
  abbrev n : ℕ
  n = lane.len

  abbrev ℓ : ℕ
  ℓ = lane.number

  -- the code's indices
  pub remove_bounds : (ℓ < 18) × (len < per_line) × (length l ≡ slab_size)
  remove_bounds = (lane.within, omega (arith, a.tallied.room), a.ready.sized.size)

  among : i < per_line
  among = omega (arith, a.listed, remove_bounds.1)

  here : ℕ
  here = live_place ℓ i

  last : ℕ
  last = live_place ℓ len

  in_state : (here < slab_size) × (last < slab_size)
  unfolding here last
  in_state = (omega (arith, among, remove_bounds.0), omega (arith, remove_bounds.1, remove_bounds.0))

  l₁ : List ℕ
  l₁ = exchanged l here last

  f : ℕ → ℕ → ℕ → ℕ
  f p v j = part (black_at ℓ) (word_of n (live l ℓ j)) p v

  leaving : Known n (live l ℓ i)
  leaving = a.tallied.known i (omega (arith, a.listed))

  between : Grown l (set l here (live l ℓ len))
  unfolding here
  between = set_grown l here (live l ℓ len) a.ready.sized (omega arith)

  grown₁ : Grown l l₁
  unfolding l₁ here last
  grown₁ = grown_trans between (set_grown (set l here (live l ℓ len)) last (live l ℓ i) (grown_sized between a.ready.sized) (omega arith))

  cand₁ : (x v : ℕ) → cand l₁ x v ≡ cand l x v
  unfolding l₁ here last
  cand₁ x v =
      set_cand (set l here (live l ℓ len)) last (live l ℓ i) (grown_sized between a.ready.sized) (omega arith) x v
      ∙ set_cand l here (live l ℓ len) a.ready.sized (omega arith) x v

  far : (k : ℕ) → (k ≡ here → ⊥) → (k ≡ last → ⊥) → get_or l₁ k 0 ≡ get_or l k 0
  unfolding l₁
  far k d e = exchanged_other l here last k d e

  no_support : (j : ℕ) → j < per_line → (y v : ℕ) → y < 162 → v < 16 → (live_place ℓ j ≡ support_place y v → ⊥)
  no_support j h y v p q e = omega (arith, remove_bounds.0)

  support₁ : (y v : ℕ) → y < 162 → v < 16 → support l₁ y v ≡ support l y v
  unfolding here last
  support₁ y v p q = far (support_place y v) (λ e. no_support i among y v p q (sym e)) (λ e. no_support len remove_bounds.1 y v p q (sym e))

  tally : (p v : ℕ) → p < 9 → v < 16 → support l (ℓ * 9 + p) v ≡ sum_over 0 (len + 1) (f p v)
  unfolding f
  tally p v h k = a.tallied.supports p v h k

  leaves : (p v : ℕ) → part (black_at ℓ) w p v ≡ f p v i
  unfolding f
  leaves p v = ap (λ x. part (black_at ℓ) x p v) a.word

  pub remove_shaped : Shaped n w
  remove_shaped = rw a.word (known_shaped n (live l ℓ i) a.ready.size leaving)

  kills : KillAsk lane w l₁
  kills =
      record {
        sized = grown_sized grown₁ a.ready.sized;
        enough = λ q v h k. omega (
          arith,
          support₁ (ℓ * 9 + q) v (omega (arith, remove_bounds.0)) k,
          leaves q v,
          tally q v h k,
          sum_has 0 (len + 1) i (f q v) (omega arith)
              (omega (arith, a.listed)),
        );
      }

  pub remove_kill : {l₂ : List ℕ} → l₂ ≡ exchanged l (live_place ℓ i) (live_place ℓ len) → KillAsk lane w l₂
  unfolding l₁ here last
  remove_kill e = subst (KillAsk lane w) (sym e) kills

  module _ {l₂ l' : List ℕ} (left : l₂ ≡ exchanged l (live_place ℓ i) (live_place ℓ len)) (killed : Sunk (parts ℓ w) l₂ l') where
    s : Sunk (parts ℓ w) l₁ l'
    unfolding l₁ here last
    s = subst (λ k. Sunk (parts ℓ w) k l') left killed

    grown : Grown l l'
    grown = grown_trans grown₁ s.grown

    stay : (k : ℕ) → counters_at ≤ k → ((y v : ℕ) → y < 162 → v < 16 → (k ≡ support_place y v → ⊥)) → (k ≡ here → ⊥) → (k ≡ last → ⊥) → get_or l' k 0 ≡ get_or l k 0
    stay k p q d e = s.rest k p q ∙ far k d e

    falls : (y v : ℕ) → y < 162 → v < 16 → support l' y v + parts ℓ w y v ≡ support l y v
    falls y v p q = s.falls y v p q ∙ support₁ y v p q

    live_here : live l' ℓ i ≡ live l ℓ len
    unfolding here last l₁
    live_here =
        s.rest here (omega arith) (no_support i among)
        ∙ exchanged_here l here last (omega (arith, in_state, a.ready.sized.size)) (omega (arith, in_state, a.ready.sized.size))

    live_other : (j : ℕ) → j < len → (j ≡ i → ⊥) → live l' ℓ j ≡ live l ℓ j
    unfolding here last
    live_other j h d = stay (live_place ℓ j) (omega arith) (no_support j (omega (arith, remove_bounds.1))) (λ e. d (omega arith)) (λ e. omega arith)

    slot_falls : (p v : ℕ) → p < 9 → v < 16 → support l' (ℓ * 9 + p) v + f p v i ≡ support l (ℓ * 9 + p) v
    slot_falls p v h k =
        let c : (ℓ * 9 + p) / 9 ≡ ℓ = omega arith in
        let d : (ℓ * 9 + p) % 9 ≡ p = omega arith in
        let o : part (black_at ℓ) w ((ℓ * 9 + p) % 9) v ≡ f p v i = ap (λ q. part (black_at ℓ) w q v) d ∙ leaves p v in
        omega (arith, falls (ℓ * 9 + p) v (omega (arith, remove_bounds.0)) k, same_yes ((ℓ * 9 + p) / 9) ℓ c, part_lt (black_at ℓ) w ((ℓ * 9 + p) % 9) v)

    new_tallied : Tallied n ℓ len l'
    unfolding f
    new_tallied =
        record {
          room = omega (arith, a.tallied.room);
          known = λ j h. known j h (ℕ_discrete j i);
          supports = λ p v h k. counts p v h k;
          backed = λ p v h k b e. back p v h k b e (dec_lt 0 (f p v i));
        }
      where
        known : (j : ℕ) → j < len → Dec (j ≡ i) → Known n (live l' ℓ j)
        known j h (yes e) = subst (Known n) (sym (ap (live l' ℓ) e ∙ live_here)) (a.tallied.known len (omega arith))
        known j h (no e) = subst (Known n) (sym (live_other j h e)) (a.tallied.known j (omega arith))

        counts : (p v : ℕ) → p < 9 → v < 16 → support l' (ℓ * 9 + p) v ≡ sum_over 0 len (λ (j : ℕ). part (black_at ℓ) (word_of n (live l' ℓ j)) p v)
        counts p v h k =
            let g : ℕ → ℕ = λ j. part (black_at ℓ) (word_of n (live l' ℓ j)) p v in
            let t = sum_drop len (f p v) g i a.listed (ap (λ x. part (black_at ℓ) (word_of n x) p v) live_here)
            (λ j b d. ap (λ x. part (black_at ℓ) (word_of n x) p v) (live_other j b d)) in
            omega (arith, slot_falls p v h k, tally p v h k)

        back : (p v : ℕ) → p < n → v < 16 → HalfOf (black_at ℓ) v → support l' (ℓ * 9 + p) v ≡ 0 → Dec (0 < f p v i) → cand l' (cell_at ℓ p) v ≡ 0
        back p v h k b e (yes q) =
            let c : (ℓ * 9 + p) / 9 ≡ ℓ = omega (arith, a.ready.size.high) in
            let d : (ℓ * 9 + p) % 9 ≡ p = omega (arith, a.ready.size.high) in
            let o : part (black_at ℓ) w ((ℓ * 9 + p) % 9) v ≡ f p v i = ap (λ q. part (black_at ℓ) w q v) d ∙ leaves p v in
            ap (λ x. cand l' x v) (sym (slot_cell ℓ p (omega (arith, a.ready.size.high))))
            ∙ s.backed (ℓ * 9 + p) v (omega (arith, remove_bounds.0, a.ready.size.high)) k (omega (arith, same_yes ((ℓ * 9 + p) / 9) ℓ c)) e
        back p v h k b e (no q) =
            grown_gone grown (cell_at ℓ p) v k (a.tallied.backed p v h k b (omega (arith, slot_falls p v (omega (arith, a.ready.size.high)) k)))

    new_struck : (x v : ℕ) → v < 16 → cand l x v ≡ 1 → cand l' x v ≡ 0 → UnsupportedIn n ℓ l' x v
    unfolding cell_of_place
    new_struck x v h c e = go (s.only x v h (cand₁ x v ∙ c) e)
      where
        go : Lost (parts ℓ w) l' x v → UnsupportedIn n ℓ l' x v
        go u = line (ℕ_discrete (u.slot / 9) ℓ)
          where
            line : Dec (u.slot / 9 ≡ ℓ) → UnsupportedIn n ℓ l' x v
            line (no d) = absurd (omega (arith, u.fell, same_no (u.slot / 9) ℓ d))
            line (yes d) =
                let p : 0 < part (black_at ℓ) w (u.slot % 9) v = omega (arith, u.fell) in
                let q : 0 < part (black_at ℓ) (word_of n (live l ℓ i)) (u.slot % 9) v = rw a.word at p in
                let y : ℓ * 9 + u.slot % 9 ≡ u.slot = omega arith in
                record {
                  at = u.slot % 9;
                  within = part_place n (live l ℓ i) ℓ (u.slot % 9) v a.ready.size leaving (omega arith) q;
                  there = u.there ∙ ap (λ m. cell_at m (u.slot % 9)) d;
                  half = part_half (black_at ℓ) w (u.slot % 9) v p;
                  none = ap (λ y. support l' y v) y ∙ u.none;
                }

    new_within : LineMoved n ℓ l l'
    unfolding here last
    new_within =
        record {
          grown = grown;
          rest = λ k p o q. stay k p q (o i among) (o len remove_bounds.1);
          others = λ y v p q d. omega (arith, falls y v p q, same_no (y / 9) ℓ d);
          sinks = λ y v p q. omega (arith, falls y v p q);
          struck = new_struck;
        }

    pub remove_done : Removed n ℓ i len l l'
    remove_done = record { within = new_within; here = live_here; stays = live_other; tallied = new_tallied }
