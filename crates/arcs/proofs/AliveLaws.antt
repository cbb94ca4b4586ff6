-- What keeps an arrangement alive, and a line as it was. Assumes nothing.
use Prim.Native.Nat.{ℕ, ◌+◌, ◌*◌, ◌≤◌, ◌<◌}
use mathlib.Core.Path.{◌≡◌, refl, sym, ap, ◌∙◌, subst}
use mathlib.Core.Bool.{Bool, true}
use mathlib.Core.Logic.{◌⊎◌, inl, inr, ⊎_elim}
use mathlib.Core.List.{List}
use native.Mathlib.Omega.{arith}
use native.Mathlib.Decide.{ℕ_discrete}
use native.Mathlib.Nat.{le_trans}
use Rattle.bits.proofs.SumLaws.{same_no, sum_same, sum_has}
use Rattle.rules.specs.Size.{Size}
use Rattle.queue_state.specs.Layout.{per_line}
use Rattle.queue_state.specs.Slab.{cand, tail, lag, Grown}
use Rattle.queue_state.proofs.SlabLaws.{cand_lt}
use Rattle.queue_state.proofs.StruckLaws.{grown_refl, grown_trans, grown_gone}
use Rattle.queue_state.proofs.ReadyLaws.{lag_pop}
use Rattle.queue_state.specs.Ready.{Next}
use Rattle.words.specs.Word.{Known, word_of, part}
use Rattle.arcs.specs.Arc.{lives, live, support, Tallied, Serves, Alive, DeadArrangement, Held, Backs, Holding}
use Rattle.table.specs.Value.{HalfOf}
use Rattle.table.specs.Lines.{cell_at, black_at}
use Rattle.arcs.specs.Sweep.{UnsupportedIn, LineMoved, Removed, Outlives, untouched, backed, AllAlive, Same}

-- ---- alive

-- what serves it does so by its lag alone
serves_lag : {n ℓ id h h' : ℕ} {l l' : List ℕ} {Q : ℕ → ℕ → Type 0} (s : Serves n ℓ l h id Q) → 1 ≤ lag l' h' (cell_at ℓ s.at) s.value → Serves n ℓ l' h' id Q
serves_lag s b = record { at = s.at; value = s.value; within = s.within; narrow = s.narrow; asked = s.asked; allowed = s.allowed; lags = b }

-- equal lags leave it alive
pub alive_lags : (n ℓ id h h' : ℕ) {l l' : List ℕ} → ((x v : ℕ) → v < 16 → lag l' h' x v ≡ lag l h x v) → Alive n ℓ l h id → Alive n ℓ l' h' id
alive_lags n ℓ id h h' {l} {l'} e f =
    record { served = λ p v hp hv a. still (f.served p v hp hv a); placed = λ p d hp hd a. still (f.placed p d hp hd a) }
  where
    still : {Q : ℕ → ℕ → Type 0} → Serves n ℓ l h id Q → Serves n ℓ l' h' id Q
    still s = serves_lag s (omega (arith, s.lags, e (cell_at ℓ s.at) s.value s.narrow))

-- strikes leave it alive
pub alive_kept : (n ℓ id h : ℕ) {l l' : List ℕ} → Grown l l' → h ≤ tail l → Alive n ℓ l h id → Alive n ℓ l' h id
alive_kept n ℓ id h g b f = alive_lags n ℓ id h h (λ x v k. g.lags h x v b k) f

-- handling a strike leaves it alive, if it outlives the strike where it has the cell
pub alive_next : {n ℓ id : ℕ} {l : List ℕ} {h x v : ℕ} → Next l h x v → v < 16 → ((q : ℕ) → q < n → x ≡ cell_at ℓ q → Outlives n ℓ l q v id) →
    Alive n ℓ l h id → Alive n ℓ l (h + 1) id
unfolding lag
alive_next {n} {ℓ} {id} {l} {h} {x} {v} nx hv k f =
    record {
      served = λ p u hp hu e. next (λ q w o y. inl y) (f.served p u hp hu e);
      placed = λ p d hp hd e. next (λ q w o y. inr y) (f.placed p d hp hd e);
    }
  where
    -- where v goes at place p, what is asked holds of another value there, or of v at another place
    next : {Q : ℕ → ℕ → Type 0} → ((p u q : ℕ) → Q p v → Q p u ⊎ Q q v) → Serves n ℓ l h id Q → Serves n ℓ l (h + 1) id Q
    next {Q} again s = go (ℕ_discrete x (cell_at ℓ s.at)) (ℕ_discrete s.value v)
      where
        still : (cell_at ℓ s.at * 16 + s.value ≡ x * 16 + v → ⊥) → Serves n ℓ l (h + 1) id Q
        still d =
            serves_lag s
            (omega (arith, s.lags, lag_pop nx (cell_at ℓ s.at) s.value, same_no (cell_at ℓ s.at * 16 + s.value) (x * 16 + v) d))

        kept : s.value ≡ v → Outlives n ℓ l s.at v id → Serves n ℓ l (h + 1) id Q
        kept e (untouched z) = absurd (omega (arith, s.allowed, ap (part (black_at ℓ) (word_of n id) s.at) e))
        kept e (backed u q a b c hq t o) =
            ⊎_elim
            (λ y. record { at = s.at; value = u; within = s.within; narrow = a; asked = y; allowed = b; lags = omega arith })
            (λ y. record { at = q; value = v; within = hq; narrow = hv; asked = y; allowed = t; lags = omega arith })
            (again s.at u q (subst (Q s.at) e s.asked))

        go : Dec (x ≡ cell_at ℓ s.at) → Dec (s.value ≡ v) → Serves n ℓ l (h + 1) id Q
        go (yes d) (yes e) = kept e (k s.at s.within d)
        go (yes d) (no e) = still (λ q. e (omega arith))
        go (no d) _ = still (λ q. d (omega (arith, s.narrow)))

-- ---- a line that is as it was

pub tallied_same : {n m len : ℕ} {l l' : List ℕ} → Grown l l' → ((j : ℕ) → j < per_line → live l' m j ≡ live l m j) →
    ((p v : ℕ) → p < 9 → v < 16 → support l' (m * 9 + p) v ≡ support l (m * 9 + p) v) → Size n → Tallied n m len l → Tallied n m len l'
tallied_same {n} {m} {len} {l} {l'} g e s z t =
    record {
      room = t.room;
      known = λ j h. subst (Known n) (sym (e j (omega (arith, t.room)))) (t.known j h);
      supports = λ p v a b.
          s p v a b
          ∙ t.supports p v a b
          ∙ sum_same 0 len _ _ (λ j c d. ap (λ x. part (black_at m) (word_of n x) p v) (sym (e j (omega (arith, t.room)))));
      backed = λ p v a b c d. grown_gone g (cell_at m p) v b (t.backed p v a b c (sym (s p v (omega (arith, z.high)) b) ∙ d));
    }

pub all_alive_same : (n m h : ℕ) {l l' : List ℕ} → Grown l l' → h ≤ tail l → Same m l l' → lives l m ≤ per_line → AllAlive n m l h → AllAlive n m l' h
unfolding AllAlive
all_alive_same n m h {l} {l'} g b s c f j k =
    subst (Alive n m l' h) (sym (s.list j (omega (arith, s.count)))) (alive_kept n m (live l m j) h g b (f j (omega (arith, s.count))))

-- ---- what stays within a line

pub within_refl : (n ℓ : ℕ) (l : List ℕ) → LineMoved n ℓ l l
within_refl n ℓ l =
    record {
      grown = grown_refl l;
      rest = λ k a b c. refl;
      others = λ y v a b c. refl;
      sinks = λ y v a b. omega arith;
      struck = λ x v h c d. absurd (omega arith);
    }

pub within_trans : {n ℓ : ℕ} {a b c : List ℕ} → Size n → ℓ < 18 → LineMoved n ℓ a b → LineMoved n ℓ b c → LineMoved n ℓ a c
within_trans {n} {ℓ} {a} {b} {c} z o s t =
    record {
      grown = grown_trans s.grown t.grown;
      rest = λ k p q i. t.rest k p q i ∙ s.rest k p q i;
      others = λ y v p q d. t.others y v p q d ∙ s.others y v p q d;
      sinks = λ y v p q. le_trans (t.sinks y v p q) (s.sinks y v p q);
      struck = λ x v h e f. go x v h e f (ℕ_discrete (cand b x v) 0);
    }
  where
    go : (x v : ℕ) → v < 16 → cand a x v ≡ 1 → cand c x v ≡ 0 → Dec (cand b x v ≡ 0) → UnsupportedIn n ℓ c x v
    go x v h e f (yes d) =
        let u = s.struck x v h e d in
        record {
          at = u.at;
          within = u.within;
          there = u.there;
          half = u.half;
          none = omega (arith, u.none, t.sinks (ℓ * 9 + u.at) v (omega (arith, u.within, z.high)) h);
        }
    go x v h e f (no d) = t.struck x v h (omega (arith, cand_lt b x v)) f

-- ---- candidates that hold each other

-- a line that is as it was, in a table that has them
pub holding_same : {n m : ℕ} {l l' : List ℕ} {K : ℕ → ℕ → Bool} → Same m l l' → lives l m ≤ per_line → ((x v : ℕ) → v < 16 → K x v ≡ true → cand l' x v ≡ 1) →
    Holding n m (lives l m) l K → Holding n m (lives l' m) l' K
holding_same {n} {m} {l} {l'} {K} s c h g =
    record {
      has = h;
      uses = λ p v a b d e.
          let u = g.uses p v a b d e in
          let q = sym (s.list u.0 (omega (arith, u.1))) in
          (u.0, omega (arith, u.1, s.count), subst (λ id. part (black_at m) (word_of n id) p v ≡ 1) q u.2, subst (Held n m K) q u.3);
    }

-- a dead arrangement that leaves is none of those that hold them
pub holding_drop : {n ℓ i m len : ℕ} {l l' : List ℕ} {K : ℕ → ℕ → Bool} → Size n → len ≤ per_line → len ≡ m + 1 → i ≤ m → DeadArrangement n ℓ l (live l ℓ i) →
    Removed n ℓ i m l l' →
    Holding n ℓ len l K → Holding n ℓ m l' K
holding_drop {n} {ℓ} {i} {m} {len} {l} {l'} {K} z room e h d r g = record { has = λ x v b c. still x v b c (ℕ_discrete (cand l' x v) 0); uses = uses }
  where
    uses : (p v : ℕ) → p < n → v < 16 → HalfOf (black_at ℓ) v → K (cell_at ℓ p) v ≡ true → Backs n ℓ m l' K p v
    uses p v a b c k = go (g.uses p v a b c k)
      where
        at : (j o : ℕ) → j < m → live l ℓ o ≡ live l' ℓ j → part (black_at ℓ) (word_of n (live l ℓ o)) p v ≡ 1 → Held n ℓ K (live l ℓ o) → Backs n ℓ m l' K p v
        at j o b q s t = (j, b, subst (λ id. part (black_at ℓ) (word_of n id) p v ≡ 1) q s, subst (Held n ℓ K) q t)

        go : Backs n ℓ len l K p v → Backs n ℓ m l' K p v
        go u = pick (ℕ_discrete u.0 i) (ℕ_discrete u.0 m)
          where
            pick : Dec (u.0 ≡ i) → Dec (u.0 ≡ m) → Backs n ℓ m l' K p v
            pick (yes q) _ = absurd ((subst (DeadArrangement n ℓ l) (sym (ap (live l ℓ) q)) d).dead (u.3 l g.has))
            pick (no q) (yes o) = at i u.0 (omega (arith, u.1)) (ap (live l ℓ) o ∙ sym r.here) u.2 u.3
            pick (no q) (no o) = at u.0 u.0 (omega (arith, u.1)) (sym (r.stays u.0 (omega (arith, u.1)) q)) u.2 u.3

    still : (x v : ℕ) → v < 16 → K x v ≡ true → Dec (cand l' x v ≡ 0) → cand l' x v ≡ 1
    still x v b k (no q) = omega (arith, cand_lt l' x v)
    still x v b k (yes q) =
        let s = r.within.struck x v b (g.has x v b k) q in
        let u = uses s.at v s.within b s.half (ap (λ x. K x v) (sym s.there) ∙ k) in
        absurd (omega (
          arith,
          s.none,
          r.tallied.supports s.at v (omega (arith, s.within, z.high)) b,
          sum_has 0 m u.0
              (λ j. part (black_at ℓ) (word_of n (live l' ℓ j)) s.at v) (omega arith) (omega (arith, u.1)),
          u.2,
        ))
