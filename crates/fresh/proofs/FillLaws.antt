-- Filling places one after the other. Assumes nothing.
use Prim.Native.Nat.{ℕ, zero, suc, ◌+◌, ◌-◌, ◌*◌, ◌/◌, ◌%◌, ◌≤◌, ◌<◌}
use mathlib.Core.Path.{◌≡◌, refl, sym, ◌∙◌}
use mathlib.Core.Logic.{◌⊎◌, inl, inr}
use mathlib.Core.List.{List}
use native.Mathlib.Omega.{arith}
use native.Mathlib.Decide.{ℕ_discrete, dec_lt}
use lib.ListN.{length, get_or, replicate, length-replicate}
use borrow.Rule.Slice.PartMut.{put_mid, mid_of}
use Rattle.std.proofs.lemmas.List.{places}
use borrow.Author.Tests.{lt-ltb, le-ltb}
use Rattle.table.specs.Table.{every_value, mask_of}
use Rattle.queue_state.specs.Layout.{line_mask_place, row_half_at, row_blacks_at, lengths_at, slab_size}
use Rattle.fresh.specs.Fresh.{Blank, cell_in, RowsFull, MasksFull, Fresh}

-- The places from .. to have the number k, and the others are as before.
pub record Filled (l l' : List ℕ) (from to k : ℕ) : Type 0 where
  pub size : length l' ≡ length l
  pub inside : (i : ℕ) → from ≤ i → i < to → get_or l' i 0 ≡ k
  pub outside : (i : ℕ) → (i < from) ⊎ (to ≤ i) → get_or l' i 0 ≡ get_or l i 0

-- after `l[from..to].fill(k)`
pub filled : (l part : List ℕ) (from to k : ℕ) → from ≤ to → to ≤ length l → part ≡ replicate (length (mid_of from (to - from) l)) k →
    Filled l (put_mid from (to - from) l part) from to k
filled l part from to k h g e =
    record {
      size = grind (arith, places);
      inside = λ i u v. grind (arith, places);
      outside = λ i w. elim w [ inl u ↦ grind (arith, places) | inr u ↦ grind (arith, places) ];
    }

zero_at : (n p : ℕ) → get_or {A = ℕ} (replicate n 0) p 0 ≡ 0
zero_at zero p = refl
zero_at (suc n) zero = refl
zero_at (suc n) (suc p) = zero_at n p

pub blank_zeros : Blank (replicate slab_size 0)
blank_zeros = record { size = length-replicate {A = ℕ} slab_size 0; zero = zero_at slab_size }

module _ (n full : ℕ) where
  -- a row more: a place in it, another one
  cell_new : (m x : ℕ) → x / 9 ≡ m → x % 9 < n → cell_in n (m + 1) full x ≡ full
  unfolding cell_in
  cell_new m x e h = rw (lt-ltb (x / 9) (m + 1) (omega arith), lt-ltb (x % 9) n h)

  cell_old : (m x : ℕ) → (x / 9 ≡ m → x % 9 < n → ⊥) → cell_in n (m + 1) full x ≡ cell_in n m full x
  unfolding cell_in
  cell_old m x d =
      elim (dec_lt (x / 9) m) [
        | yes a ↦ rw (lt-ltb (x / 9) (m + 1) (omega arith), lt-ltb (x / 9) m a)
        | no a ↦
            elim (ℕ_discrete (x / 9) m) [
              | yes e ↦ rw (lt-ltb (x / 9) (m + 1) (omega arith), le-ltb (x / 9) m (omega arith), le-ltb (x % 9) n (above x (dec_lt (x % 9) n) (d e)))
              | no e ↦ rw (le-ltb (x / 9) (m + 1) (omega arith), le-ltb (x / 9) m (omega arith))
            ]
      ]
    where
      above : (x : ℕ) → Dec (x % 9 < n) → (x % 9 < n → ⊥) → n ≤ x % 9
      above x (yes h) f = absurd (f h)
      above x (no h) f = omega arith

  cell_none : (x : ℕ) → cell_in n 0 full x ≡ 0
  unfolding cell_in
  cell_none x = rw (le-ltb (x / 9) 0 (omega arith))

  pub rows_start : {l : List ℕ} → Blank l → RowsFull l n 0 full
  rows_start b = record { size = b.size; cells = λ x h. b.zero x ∙ sym (cell_none x); rest = λ p h. b.zero p }

  pub rows_next : {l l' : List ℕ} {m : ℕ} → n ≤ 9 → m < n → RowsFull l n m full → Filled l l' (m * 9) (m * 9 + n) full → RowsFull l' n (m + 1) full
  rows_next {l} {l'} {m} z h a f =
      record {
        size = f.size ∙ a.size;
        cells = λ x k. go x k (ℕ_discrete (x / 9) m) (dec_lt (x % 9) n);
        rest = λ p k. f.outside p (inr (omega arith)) ∙ a.rest p k;
      }
    where
      go : (x : ℕ) → x < 81 → Dec (x / 9 ≡ m) → Dec (x % 9 < n) → get_or l' x 0 ≡ cell_in n (m + 1) full x
      go x k (yes e) (yes u) = f.inside x (omega arith) (omega arith) ∙ sym (cell_new m x e u)
      go x k (yes e) (no u) = f.outside x (inr (omega arith)) ∙ a.cells x k ∙ sym (cell_old m x (λ _ q. u q))
      go x k (no e) u = f.outside x (split x e) ∙ a.cells x k ∙ sym (cell_old m x (λ q _. e q))
        where
          split : (x : ℕ) → (x / 9 ≡ m → ⊥) → (x < m * 9) ⊎ (m * 9 + n ≤ x)
          split x e = elim (dec_lt x (m * 9)) [ yes q ↦ inl q | no q ↦ inr (omega arith) ]

pub fresh_done : {n : ℕ} {a b c d : List ℕ} → RowsFull a n n (mask_of (every_value n)) → MasksFull a b n n → Filled b c row_half_at row_blacks_at n →
    Filled c d row_blacks_at lengths_at 2 → Fresh n d
fresh_done r m f g =
    record {
      size = g.size ∙ f.size ∙ m.size ∙ r.size;
      cells = λ x h. g.outside x (inl (omega arith)) ∙ f.outside x (inl (omega arith)) ∙ m.rest x (inl (omega arith)) ∙ r.cells x h;
      queue = λ p h k. g.outside p (inl (omega arith)) ∙ f.outside p (inl (omega arith)) ∙ m.rest p (inl (omega arith)) ∙ r.rest p h;
      masks = λ ℓ v h k. g.outside (line_mask_place ℓ v) (inl (omega arith)) ∙ f.outside (line_mask_place ℓ v) (inl (omega arith)) ∙ m.masks ℓ v h k;
      counters = λ p h k. g.outside p (inl (omega arith)) ∙ f.inside p h k;
      blacks = λ p h k. g.inside p h k;
      arcs = λ p h. g.outside p (inr h) ∙ f.outside p (inr (omega arith)) ∙ m.rest p (inr (omega arith)) ∙ r.rest p (omega arith);
    }
