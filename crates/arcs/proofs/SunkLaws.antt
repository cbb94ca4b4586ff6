-- Laws of supports that fall. Assumes nothing.
use Prim.Native.Nat.{ℕ, ◌+◌, ◌-◌, ◌*◌, ◌/◌, ◌%◌, ◌≤◌, ◌<◌}
use mathlib.Core.Path.{◌≡◌, refl, sym, ap, ◌∙◌}
use mathlib.Core.List.{List}
use native.Mathlib.Omega.{arith}
use native.Mathlib.Decide.{ℕ_discrete, dec_lt}
use lib.ListN.{get_or, set}
use lib.Seq.{get_or-set_same, get_or-set_other}
use Rattle.bits.proofs.SumLaws.{same_yes, same_no}
use Rattle.queue_state.specs.Layout.{counters_at, support_place}
use Rattle.queue_state.specs.Slab.{cand, Sized, Grown, Struck, One}
use Rattle.queue_state.proofs.SlabLaws.{cand_lt}
use Rattle.queue_state.proofs.StruckLaws.{grown_refl, grown_trans, grown_sized, grown_gone, set_cand, set_grown}
use Rattle.lane.specs.declared.Lane.{Lane}
use Rattle.lane.proofs.LaneLaws.{cell_in}
use Rattle.arcs.specs.Arc.{support}
use Rattle.table.specs.Lines.{cell_at}
use Rattle.arcs.specs.Sunk.{cell_of_place, Lost, Sunk, single, DropAsk}

-- ---- cells

pub slot_cell : (ℓ p : ℕ) → p < 9 → cell_of_place (ℓ * 9 + p) ≡ cell_at ℓ p
unfolding cell_of_place
slot_cell ℓ p h =
    let a : (ℓ * 9 + p) / 9 ≡ ℓ = omega arith in
    let b : (ℓ * 9 + p) % 9 ≡ p = omega arith in
    rw (a, b)

pub slot_in : (y : ℕ) → y < 162 → cell_of_place y < 81
unfolding cell_of_place
slot_in y h = cell_in (y / 9) (y % 9) (omega arith) (omega arith)

-- ---- one after the other

pub sunk_none : {D : ℕ → ℕ → ℕ} (l : List ℕ) → ((y v : ℕ) → y < 162 → v < 16 → D y v ≡ 0) → Sunk D l l
sunk_none l e =
    record {
      grown = grown_refl l;
      rest = λ i a b. refl;
      falls = λ y v a b. omega (arith, e y v a b);
      backed = λ y v a b p q. absurd (omega (arith, e y v a b));
      only = λ x v a p q. absurd (omega arith);
    }

-- the same said otherwise
pub sunk_as : {D E : ℕ → ℕ → ℕ} {l l' : List ℕ} → Sunk D l l' → ((y v : ℕ) → y < 162 → v < 16 → D y v ≡ E y v) → Sunk E l l'
sunk_as s e =
    record {
      grown = s.grown;
      rest = s.rest;
      falls = λ y v a b. omega (arith, s.falls y v a b, e y v a b);
      backed = λ y v a b p q. s.backed y v a b (omega (arith, e y v a b)) q;
      only = λ x v a p q.
          let w = s.only x v a p q in
          record { slot = w.slot; within = w.within; there = w.there; fell = omega (arith, w.fell, e w.slot v w.within a); none = w.none };
    }

pub sunk_both : {D E : ℕ → ℕ → ℕ} {a b c : List ℕ} → Sunk D a b → Sunk E b c → Sunk (λ y v. D y v + E y v) a c
sunk_both {D} {E} {a} {b} {c} s t =
    record {
      grown = grown_trans s.grown t.grown;
      rest = λ i p q. t.rest i p q ∙ s.rest i p q;
      falls = λ y v p q. omega (arith, s.falls y v p q, t.falls y v p q);
      backed = λ y v p q f z. back y v p q f z (dec_lt 0 (E y v));
      only = λ x v p f z. lost x v p f z (ℕ_discrete (cand b x v) 0);
    }
  where
    back : (y v : ℕ) → y < 162 → v < 16 → 0 < D y v + E y v → support c y v ≡ 0 → Dec (0 < E y v) → cand c (cell_of_place y) v ≡ 0
    back y v p q f z (yes d) = t.backed y v p q d z
    back y v p q f z (no d) = grown_gone t.grown (cell_of_place y) v q (s.backed y v p q (omega arith) (omega (arith, t.falls y v p q)))

    lost : (x v : ℕ) → v < 16 → cand a x v ≡ 1 → cand c x v ≡ 0 → Dec (cand b x v ≡ 0) → Lost (λ y v. D y v + E y v) c x v
    lost x v p f z (yes d) =
        let w = s.only x v p f d in
        record {
          slot = w.slot;
          within = w.within;
          there = w.there;
          fell = omega (arith, w.fell);
          none = omega
              (arith, w.none, t.falls w.slot v w.within p);
        }
    lost x v p f z (no d) =
        let w = t.only x v p (omega (arith, cand_lt b x v)) z in
        record { slot = w.slot; within = w.within; there = w.there; fell = omega (arith, w.fell); none = w.none }

-- ---- one support

module _ {lane : Lane} {p v : ℕ} {l : List ℕ} (a : DropAsk lane p v l) where
  abbrev place : ℕ
  place = lane.number * 9 + p

  abbrev cell : ℕ
  cell = lane.start + p * lane.stride

  within : place < 162
  within = omega (arith, lane.within, a.place)

  there : cell ≡ cell_of_place place
  there = lane.cells p a.place ∙ sym (slot_cell lane.number p a.place)

  index : ℕ
  index = support_place place v

  k : ℕ
  k = get_or l index 0 - 1

  low_grown : Grown l (set l index k)
  unfolding index
  low_grown = set_grown l index k a.sized (omega arith)

  low_falls : (y u : ℕ) → y < 162 → u < 16 → support (set l index k) y u + single place v y u ≡ support l y u
  unfolding index k
  low_falls y u p q = go (ℕ_discrete y place) (ℕ_discrete u v)
    where
      other : (support_place y u ≡ support_place place v → ⊥) → support (set l index k) y u ≡ support l y u
      other d = get_or-set_other l index (support_place y u) k 0 d

      go : Dec (y ≡ place) → Dec (u ≡ v) → support (set l index k) y u + single place v y u ≡ support l y u
      go (yes e) (yes f) =
          let here : support (set l index k) y u ≡ k = rw (e, f) (get_or-set_same l index k 0 (omega (arith, a.sized.size, within, a.value))) in
          let was : support l y u ≡ support l place v = rw (e, f) in
          omega (arith, same_yes y place e, same_yes u v f, a.positive)
      go (yes e) (no f) = omega (arith, other (λ g. f (omega (arith, a.value))), same_no u v f)
      go (no e) f = omega (arith, other (λ g. e (omega (arith, a.value))), same_no y place e)

  low_rest : (i : ℕ) → counters_at ≤ i → ((y v : ℕ) → y < 162 → v < 16 → (i ≡ support_place y v → ⊥)) → get_or (set l index k) i 0 ≡ get_or l i 0
  unfolding index
  low_rest i p q = get_or-set_other l index i k 0 (q place v within a.value)

  -- the support is not 0 yet
  drop_kept : (support (set l index k) place v ≡ 0 → ⊥) → Sunk (single place v) l (set l index k)
  unfolding index
  drop_kept d =
      record {
        grown = low_grown;
        rest = low_rest;
        falls = low_falls;
        backed = λ y u p q f z. back y u f z (ℕ_discrete y place) (ℕ_discrete u v);
        only = λ x u p f z. absurd (omega (arith, set_cand l index k a.sized (omega arith) x u));
      }
    where
      back : (y u : ℕ) → 0 < single place v y u → support (set l index k) y u ≡ 0 → Dec (y ≡ place) → Dec (u ≡ v) → cand (set l index k) (cell_of_place y) u ≡ 0
      back y u f z (yes e) (yes g) = absurd (d (rw (e, g) at z))
      back y u f z (yes e) (no g) = absurd (omega (arith, same_no u v g))
      back y u f z (no e) g = absurd (omega (arith, same_no y place e))

  -- the candidate is struck
  drop_cut : {l' : List ℕ} → support (set l index k) place v ≡ 0 → Struck (set l index k) l' (One cell v) → Sunk (single place v) l l'
  unfolding index One
  drop_cut {l'} z s =
      record {
        grown = grown_trans low_grown s.grown;
        rest = λ i p q. s.rest i p ∙ low_rest i p q;
        falls = λ y u p q. same_here y u ∙ low_falls y u p q;
        backed = λ y u p q f e. back y u f (ℕ_discrete y place) (ℕ_discrete u v);
        only = λ x u p f e.
            let w = s.only x u p (set_cand l index k a.sized (omega arith) x u ∙ f) e in
            record {
              slot = place;
              within = within;
              there = w.0 ∙ there;
              fell = omega (arith, same_yes place place refl, same_yes u v w.1);
              none = s.rest (support_place place u) (omega arith) ∙ ap (λ t. support (set l index k) place t) w.1 ∙ z;
            };
      }
    where
      same_here : (y u : ℕ) → support l' y u + single place v y u ≡ support (set l index k) y u + single place v y u
      same_here y u = ap (λ t. t + single place v y u) (s.rest (support_place y u) (omega arith))

      back : (y u : ℕ) → 0 < single place v y u → Dec (y ≡ place) → Dec (u ≡ v) → cand l' (cell_of_place y) u ≡ 0
      back y u f (yes e) (yes g) = rw (e, g) (s.gone (cell_of_place place) v a.value (sym there, refl))
      back y u f (yes e) (no g) = absurd (omega (arith, same_no u v g))
      back y u f (no e) g = absurd (omega (arith, same_no y place e))

  -- as the code does it: r is what is left, in the state l₁
  module _ {l₁ : List ℕ} {r : ℕ} (e : (r ≡ get_or l (support_place place v) 0 - 1)
      × (l₁ ≡ set l (support_place place v) (get_or l (support_place place v) 0 - 1))) where
    left_is : support (set l index k) place v ≡ r
    unfolding index k
    left_is = get_or-set_same l index k 0 (omega (arith, a.sized.size, within, a.value)) ∙ sym e.0

    pub drop_clear : Sized l₁ × (cell < 81) × (v < 16)
    unfolding index k
    drop_clear =
        let g : Sized (set l index k) = grown_sized low_grown a.sized in
        (rw e.1 g, omega (arith, there, slot_in place within), a.value)

    pub drop_stays : (r ≡ 0 → ⊥) → Sunk (single place v) l l₁
    unfolding index k
    drop_stays d = rw e.1 (drop_kept (λ z. d (sym left_is ∙ z)))

    pub drop_strikes : {l₂ : List ℕ} → r ≡ 0 → Struck l₁ l₂ (One cell v) → Sunk (single place v) l l₂
    unfolding index k
    drop_strikes z s = drop_cut (left_is ∙ z) (rw e.1 at s)
