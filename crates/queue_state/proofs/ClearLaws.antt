-- Clearing a mask, bit by bit. Assumes nothing.
use Prim.Native.Nat.{ℕ, ◌<◌}
use mathlib.Core.Path.{◌≡◌, sym, ap, ◌∙◌}
use mathlib.Core.Logic.{◌⊎◌, inl, inr, ⊎_elim}
use mathlib.Core.List.{List}
use native.Mathlib.Omega.{arith}
use native.Mathlib.Decide.{ℕ_discrete}
use lib.ListN.{get_or}
use lib.Bits.{bit_and}
use Rattle.bits.specs.Bit.{bit}
use Rattle.bits.proofs.BitLaws.{bit_lt, bit_and_lem, bit_none}
use Rattle.value.specs.Mask.{LowestOf}
use Rattle.value.proofs.LowestLaws.{rest_without, rest_keeps}
use Rattle.queue_state.specs.Slab.{cand, Sized, Struck, One, Masked}
use Rattle.queue_state.proofs.SlabLaws.{cand_in}
use Rattle.queue_state.proofs.StruckLaws.{struck_none, struck_both, struck_as}

-- the bits of the mask that the cell had and that are not in rest are struck, and the cell still has those in rest
pub record Clearing (l₀ l : List ℕ) (cell mask rest : ℕ) : Type 0 where
  pub sized : Sized l₀
  pub place : cell < 81
  pub struck : Struck l₀ l (λ x v. (x ≡ cell) × (bit v (bit_and (get_or l₀ cell 0) mask) ≡ 1) × (bit v rest ≡ 0))
  pub within : (v : ℕ) → v < 16 → bit v rest ≡ 1 → bit v (bit_and (get_or l₀ cell 0) mask) ≡ 1
  pub held : (v : ℕ) → v < 16 → bit v rest ≡ 1 → bit v (get_or l cell 0) ≡ 1

pub clearing_start : (l : List ℕ) (cell mask : ℕ) → Sized l → cell < 81 → Clearing l l cell mask (bit_and (get_or l cell 0) mask)
clearing_start l cell mask s h =
    record {
      sized = s;
      place = h;
      struck = struck_none l _ (λ x v n q. absurd (omega (arith, q.1, q.2)));
      within = λ v n e. e;
      held = λ v n e. omega (arith, bit_and_lem v (get_or l cell 0) mask, bit_lt v (get_or l cell 0), bit_lt v mask);
    }

module _ {l₀ l l' : List ℕ} {cell mask rest v rest' : ℕ} (c : Clearing l₀ l cell mask rest) (b : LowestOf rest v rest') (s : Struck l l' (One cell v)) where
  m₀ : ℕ
  m₀ = bit_and (get_or l₀ cell 0) mask

  in_rest : (w : ℕ) → bit w rest' ≡ 1 → (w ≡ v → ⊥) × (bit w rest ≡ 1)
  in_rest w e = elim (ℕ_discrete w v) [ yes q ↦ absurd (omega (arith, rest_without b, ap (λ y. bit y rest') q)) | no q ↦ (q, sym (rest_keeps b w q) ∙ e) ]

  still : (w : ℕ) → w < 16 → (w ≡ v → ⊥) → bit w (get_or l cell 0) ≡ 1 → bit w (get_or l' cell 0) ≡ 1
  unfolding One
  still w n d e = go (ℕ_discrete (cand l' cell w) 0)
    where
      go : Dec (cand l' cell w ≡ 0) → bit w (get_or l' cell 0) ≡ 1
      go (yes z) = absurd (d (s.only cell w n (cand_in l cell w c.place ∙ e) z).1)
      go (no z) = omega (arith, cand_in l' cell w c.place, bit_lt w (get_or l' cell 0))

  pub clearing_next : Clearing l₀ l' cell mask rest'
  unfolding One m₀
  clearing_next =
      record {
        sized = c.sized;
        place = c.place;
        struck = struck_as (struck_both c.struck s)
            (λ x w n. ⊎_elim
            (λ q. (q.0, q.1, rest_keeps b w (λ e. omega (arith, ap (λ y. bit y rest) e, b.here, q.2)) ∙ q.2))
            (λ q. (q.0, ap (λ y. bit y (bit_and (get_or l₀ cell 0) mask)) q.1 ∙ c.within v b.value b.here, ap (λ y. bit y rest') q.1 ∙ rest_without b)))
            (λ x w n q.
            elim (ℕ_discrete w v) [ yes e ↦ inl (inr (q.0, e)) | no e ↦ inl (inl (q.0, q.1, sym (rest_keeps b w e) ∙ q.2)) ]);
        within = λ w n e. c.within w n (in_rest w e).1;
        held = λ w n e. still w n (in_rest w e).0 (c.held w n (in_rest w e).1);
      }

pub clearing_end : {l₀ l : List ℕ} {cell mask rest : ℕ} → Clearing l₀ l cell mask rest → rest ≡ 0 → Struck l₀ l (Masked cell mask)
unfolding Masked
clearing_end {l₀} {l} {cell} {mask} {rest} c z =
    struck_as c.struck
    (λ x v n q. (q.0, omega (arith, q.1, bit_and_lem v (get_or l₀ cell 0) mask, bit_lt v mask, bit_lt v (get_or l₀ cell 0))))
    (λ x v n q. go x v q.0 q.1 (ℕ_discrete (bit v (get_or l₀ cell 0)) 1))
  where
    go : (x v : ℕ) → x ≡ cell → bit v mask ≡ 1 → Dec (bit v (get_or l₀ cell 0) ≡ 1) →
        ((x ≡ cell) × (bit v (bit_and (get_or l₀ cell 0) mask) ≡ 1) × (bit v rest ≡ 0)) ⊎ (cand l₀ x v ≡ 0)
    go x v e m (yes h) = inl (e, bit_and_lem v (get_or l₀ cell 0) mask ∙ omega arith, ap (bit v) z ∙ bit_none v)
    go x v e m (no h) = inr (rw e (omega (arith, cand_in l₀ cell v c.place, bit_lt v (get_or l₀ cell 0))))
