-- The open cells by the masks that are made of them. Assumes nothing.
use Prim.Native.Nat.{ℕ, zero, suc, ◌+◌, ◌*◌, ◌/◌, ◌^◌, ◌≤◌, ◌<◌}
use mathlib.Core.Path.{◌≡◌, ap, ◌∙◌}
use mathlib.Core.List.{List}
use native.Mathlib.Omega.{arith}
use native.Mathlib.Decide.{ℕ_discrete, dec_lt}
use lib.ListN.{get_or}
use lib.Bits.{bit_and, bit_or}
use lib.Count.{ones}
use lib.Pow.{pow_mono}
use native.Mathlib.Nat.{pow-suc}
use Rattle.bits.specs.Bit.{bit}
use Rattle.bits.specs.Sum.{sum_over}
use Rattle.bits.proofs.BitLaws.{bit_lt, bit_and_lem, bit_or_lem, bit_none, bit_le, bit_zero, bit_suc}
use Rattle.queue_state.specs.Slab.{cand}
use Rattle.queue_state.proofs.SlabLaws.{cand_in, cand_lt}
use Rattle.pick.specs.Choice.{row_choices, RowCandidate, Open}
use Rattle.pick.specs.Scanning.{OpenHalf, OpenValues}
use Rattle.pick.proofs.ChoiceLaws.{mask_zero, mask_in, mask_out, freedom_choices}

-- ---- one cell

module _ (l : List ℕ) (cell : ℕ) (p : cell < 81) (f : get_or l cell 0 < 2 ^ 16) where
  row_half : (v : ℕ) → v < 16 → bit v (bit_and (get_or l cell 0) 1022) ≡ 1 → RowCandidate l cell v
  row_half v h e =
      let a = bit_and_lem v (get_or l cell 0) 1022 in
      let b : bit v 1022 ≡ 1 = omega (arith, bit_lt v 1022) in
      record {
        low = elim (ℕ_discrete v 0) [ yes q ↦ absurd (omega (arith, mask_zero, ap (λ w. bit w 1022) q)) | no q ↦ omega arith ];
        high = elim (dec_lt v 10) [ yes q ↦ q | no q ↦ absurd (omega (arith, mask_out v (omega arith) h)) ];
        has = cand_in l cell v p ∙ omega (arith, bit_lt v (get_or l cell 0));
      }

  pub half_open : 2 ≤ ones (bit_and (get_or l cell 0) 1022) → OpenHalf l cell (bit_and (get_or l cell 0) 1022)
  half_open h =
      let many : 2 ≤ row_choices l cell = omega (arith, freedom_choices l cell p f) in
      record {
        has = λ v k e. record { many = many; candidate = row_half v k e };
        all = λ v o. bit_and_lem v (get_or l cell 0) 1022 ∙ omega (arith, mask_in v o.candidate.low o.candidate.high, cand_in l cell v p, o.candidate.has);
      }

  pub half_settled : (2 ≤ ones (bit_and (get_or l cell 0) 1022) → ⊥) → OpenHalf l cell 0
  half_settled h =
      record {
        has = λ v k e. absurd (omega (arith, bit_none v));
        all = λ v o. absurd (h (omega (arith, freedom_choices l cell p f, o.many)));
      }

-- ---- the cells of a row

pub values_none : (l : List ℕ) (r : ℕ) → OpenValues l r 0 0
values_none l r = record { has = λ v h e. absurd (omega (arith, bit_none v)); all = λ v c h o. absurd (omega arith) }

pub values_more : {l : List ℕ} {r k m h : ℕ} → OpenValues l r k m → OpenHalf l (r * 9 + k) h → OpenValues l r (k + 1) (bit_or m h)
values_more {l} {r} {k} {m} {h} a b = record { has = has; all = all }
  where
    has : (v : ℕ) → v < 16 → bit v (bit_or m h) ≡ 1 → (c : ℕ) × (c < k + 1) × Open l (r * 9 + c) v
    has v i e =
        elim (ℕ_discrete (bit v m) 1) [
          | yes q ↦ let w = a.has v i q in (w.0, omega (arith, w.1), w.2)
          | no q ↦ (k, omega arith, b.has v i (omega (arith, bit_or_lem v m h, bit_lt v m, bit_lt v h)))
        ]

    all : (v c : ℕ) → c < k + 1 → Open l (r * 9 + c) v → bit v (bit_or m h) ≡ 1
    all v c i o =
        elim (ℕ_discrete c k) [
          | yes q ↦ bit_or_lem v m h ∙ omega (arith, b.all v (rw q at o), bit_lt v m)
          | no q ↦ bit_or_lem v m h ∙ omega (arith, a.all v c (omega arith) o, bit_lt v h)
        ]

-- ---- a value that a cell has

sum_find : (a k : ℕ) (f : ℕ → ℕ) → 0 < sum_over a k f → (v : ℕ) × (a ≤ v) × (v < a + k) × (0 < f v)
unfolding sum_over
sum_find a zero f h = absurd (omega arith)
sum_find a (suc k) f h =
    elim (dec_lt 0 (f (a + k))) [
      | yes q ↦ (a + k, omega arith, omega arith, q)
      | no q ↦ let w = sum_find a k f (omega arith) in (w.0, w.1, omega (arith, w.2), w.3)
    ]

pub some_open : (l : List ℕ) (x : ℕ) → 2 ≤ row_choices l x → (v : ℕ) × Open l x v
unfolding row_choices
some_open l x h =
    let w = sum_find 1 9 (cand l x) (omega arith) in
    (w.0, record { many = h; candidate = record { low = w.1; high = omega (arith, w.2); has = omega (arith, w.3, cand_lt l x w.0) } })

-- ---- the highest bit

pub highest_here : (v m : ℕ) → 2 ^ v ≤ m → m < 2 * 2 ^ v → bit v m ≡ 1
highest_here zero m h g = bit_zero m ∙ omega arith
highest_here (suc v) m h g =
    let h2 : 2 ^ v * 2 ≤ m = rw pow-suc at h in
    let g2 : m < 2 * (2 ^ v * 2) = rw pow-suc at g in
    bit_suc v m ∙ highest_here v (m / 2) (omega arith) (omega arith)

pub highest_above : (v m w : ℕ) → m < 2 * 2 ^ v → bit w m ≡ 1 → w ≤ v
highest_above v m w h e =
    elim (dec_lt v w) [
      | yes q ↦
          let p : 2 ^ suc v ≤ 2 ^ w = pow_mono q in
          let p2 : 2 ^ v * 2 ≤ 2 ^ w = rw pow-suc at p in
          absurd (omega (arith, bit_le w m e))
      | no q ↦ omega arith
    ]
