-- Filling the masks of one line after the other. Assumes nothing.
use Prim.Native.Nat.{ℕ, ◌+◌, ◌-◌, ◌%◌, ◌^◌, ◌≤◌, ◌<◌}
use mathlib.Core.Path.{◌≡◌, refl, sym, ap, ◌∙◌}
use mathlib.Core.Logic.{◌⊎◌, inl, inr, ⊎_elim}
use mathlib.Core.Bool.{Bool, true, false}
use mathlib.Core.List.{List}
use native.Mathlib.Omega.{arith}
use native.Mathlib.Decide.{ℕ_discrete, dec_lt}
use borrow.Author.Tests.{lt-ltb, le-ltb}
use Rattle.rules.specs.Size.{Size}
use Rattle.table.specs.Value.{ValueOf}
use Rattle.queue_state.specs.Layout.{line_mask_place}
use Rattle.queue_state.specs.Slab.{line_mask}
use Rattle.fresh.specs.Fresh.{RowsFull, places_of, mask_in_line, FillLineAsk, LineFull, MasksFull}
use Rattle.fresh.proofs.FillLaws.{Filled}
use Rattle.fresh.proofs.FreshLaws.{full_bit, full_bit_lem, named_value, value_named}

-- one line: its digits, then its blacks
module _ {l a b : List ℕ} {n ℓ k : ℕ} (z : Size n) (u : FillLineAsk l ℓ) (e : k ≡ 2 ^ n - 1)
    (d : Filled l a (line_mask_place ℓ 1) (line_mask_place ℓ (n - 1)) k) (f : Filled a b (line_mask_place ℓ 8) (line_mask_place ℓ 12) k) where
  named : (v : ℕ) → v < 16 → ValueOf n v → line_mask b ℓ v ≡ places_of n v
  unfolding ValueOf places_of
  named v h (inl w) =
      f.outside (line_mask_place ℓ v) (inl (omega (arith, z.high, w)))
      ∙ d.inside (line_mask_place ℓ v) (omega (arith, w)) (omega (arith, w))
      ∙ e
      ∙ rw (full_bit_lem n v z h, value_named n v (inl w)) refl
  named v h (inr w) =
      f.inside (line_mask_place ℓ v) (omega (arith, w)) (omega (arith, w)) ∙ e ∙ rw (full_bit_lem n v z h, value_named n v (inr w)) refl

  unnamed : (v : ℕ) → v < 16 → full_bit n v ≡ false → line_mask b ℓ v ≡ places_of n v
  unfolding places_of ValueOf
  unnamed v h t =
      f.outside (line_mask_place ℓ v) (elim (dec_lt v 8) [ yes x ↦ inl (omega arith) | no x ↦ elim (dec_lt v 12) [ yes y ↦ absurd (not_named (inr (omega arith, y))) | no y ↦ inr (omega arith) ] ])
      ∙ d.outside (line_mask_place ℓ v) (elim (dec_lt v 1) [ yes x ↦ inl (omega arith) | no x ↦ elim (dec_lt v (n - 1)) [ yes y ↦ absurd (not_named (inl (omega arith, y))) | no y ↦ inr (omega arith) ] ])
      ∙ u.none v h
      ∙ rw (full_bit_lem n v z h, t) refl
    where
      not_named : ValueOf n v → ⊥
      not_named w = absurd (cc (t, value_named n v w))

  pub line_full : LineFull l b n ℓ
  line_full =
      record {
        size = f.size ∙ d.size;
        masks = λ v h. go v h (full_bit n v) refl;
        rest = λ p h. f.outside p (⊎_elim (λ x. inl (omega arith)) (λ x. inr (omega arith)) h)
            ∙ d.outside p (⊎_elim (λ x. inl (omega arith)) (λ x. inr (omega (arith, z.high))) h);
      }
    where
      go : (v : ℕ) → v < 16 → (t : Bool) → full_bit n v ≡ t → line_mask b ℓ v ≡ places_of n v
      go v h true t = named v h (named_value n v t)
      go v h false t = unnamed v h t

-- where only the cells are filled
pub rows_unmasked : {l : List ℕ} {n m full : ℕ} → RowsFull l n m full → (i : ℕ) → i < 18 → FillLineAsk l i
rows_unmasked f i h = record { size = f.size; line = h; none = λ v k. f.rest (line_mask_place i v) (omega arith) }

-- line after line
module _ (n m ℓ v : ℕ) where
  pub line_done : ℓ % 9 < m → mask_in_line n m ℓ v ≡ places_of n v
  unfolding mask_in_line
  line_done h = rw (lt-ltb (ℓ % 9) m h) refl

  pub line_undone : m ≤ ℓ % 9 → mask_in_line n m ℓ v ≡ 0
  unfolding mask_in_line
  line_undone h = rw (le-ltb (ℓ % 9) m h) refl

pub masks_start : {l : List ℕ} (n : ℕ) → ((i : ℕ) → i < 18 → FillLineAsk l i) → MasksFull l l n 0
masks_start n u = record { size = refl; masks = λ ℓ v h k. (u ℓ h).none v k ∙ sym (line_undone n 0 ℓ v (omega arith)); rest = λ p h. refl }

module _ {l a : List ℕ} {n m : ℕ} (s : (i : ℕ) → i < 18 → FillLineAsk l i) (g : MasksFull l a n m) (h : m < n) (z : n ≤ 9) where
  undone : (ℓ : ℕ) → ℓ < 18 → ℓ % 9 ≡ m → FillLineAsk a ℓ
  undone ℓ i e = record { size = g.size ∙ (s ℓ i).size; line = i; none = λ v k. g.masks ℓ v i k ∙ line_undone n m ℓ v (omega arith) }

  pub row_unmasked : FillLineAsk a m
  row_unmasked = undone m (omega arith) (omega arith)

  module _ {b : List ℕ} (r : LineFull a b n m) where
    pub column_unmasked : FillLineAsk b (9 + m)
    column_unmasked =
        let u = undone (9 + m) (omega arith) (omega arith) in
        record { size = r.size ∙ u.size; line = u.line; none = λ v k. r.rest (line_mask_place (9 + m) v) (inr (omega arith)) ∙ u.none v k }

    pub masks_next : {c : List ℕ} → LineFull b c n (9 + m) → MasksFull l c n (m + 1)
    masks_next {c} q =
        record {
          size = q.size ∙ r.size ∙ g.size;
          masks = λ ℓ v i k. go ℓ v i k (ℕ_discrete ℓ m) (ℕ_discrete ℓ (9 + m));
          rest = λ p i.
              q.rest p (⊎_elim (λ x. inl (omega arith)) (λ x. inr (omega arith)) i)
              ∙ r.rest p (⊎_elim (λ x. inl (omega arith)) (λ x. inr (omega arith)) i)
              ∙ g.rest p i;
        }
      where
        -- the masks of another line stay
        apart : (ℓ x v : ℕ) → (ℓ ≡ x → ⊥) → v < 16 → (line_mask_place ℓ v < line_mask_place x 0) ⊎ (line_mask_place x 16 ≤ line_mask_place ℓ v)
        apart ℓ x v d k = elim (dec_lt ℓ x) [ yes y ↦ inl (omega arith) | no y ↦ inr (omega arith) ]

        still : (ℓ v : ℕ) → ℓ < 18 → (ℓ ≡ m → ⊥) → (ℓ ≡ 9 + m → ⊥) → mask_in_line n m ℓ v ≡ mask_in_line n (m + 1) ℓ v
        still ℓ v i x y =
            elim (dec_lt (ℓ % 9) m) [
              | yes w ↦ line_done n m ℓ v w ∙ sym (line_done n (m + 1) ℓ v (omega arith))
              | no w ↦ line_undone n m ℓ v (omega arith) ∙ sym (line_undone n (m + 1) ℓ v (other ℓ i x y w))
            ]
          where
            other : (ℓ : ℕ) → ℓ < 18 → (ℓ ≡ m → ⊥) → (ℓ ≡ 9 + m → ⊥) → (ℓ % 9 < m → ⊥) → m + 1 ≤ ℓ % 9
            other ℓ i x y w = elim (ℕ_discrete (ℓ % 9) m) [
              | yes e ↦ absurd (elim (dec_lt ℓ 9) [ yes o ↦ x (omega arith) | no o ↦ y (omega arith) ])
              | no e ↦ omega arith
            ]

        go : (ℓ v : ℕ) → ℓ < 18 → v < 16 → Dec (ℓ ≡ m) → Dec (ℓ ≡ 9 + m) → line_mask c ℓ v ≡ mask_in_line n (m + 1) ℓ v
        go ℓ v i k (yes e) _ =
            q.rest (line_mask_place ℓ v) (apart ℓ (9 + m) v (λ o. omega arith) k)
            ∙ ap (λ (y : ℕ). line_mask b y v) e
            ∙ r.masks v k
            ∙ sym (line_done n (m + 1) ℓ v (omega arith))
        go ℓ v i k (no d) (yes e) = ap (λ (y : ℕ). line_mask c y v) e ∙ q.masks v k ∙ sym (line_done n (m + 1) ℓ v (omega arith))
        go ℓ v i k (no d) (no e) =
            q.rest (line_mask_place ℓ v) (apart ℓ (9 + m) v e k)
            ∙ r.rest (line_mask_place ℓ v) (apart ℓ m v d k)
            ∙ g.masks ℓ v i k
            ∙ still ℓ v i d e
