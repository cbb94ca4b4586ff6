-- Supports of a set of digits that fall at one place, digit by digit. Assumes nothing.
use Prim.Native.Nat.{ℕ, ◌+◌, ◌-◌, ◌*◌, min, ◌≤◌, ◌<◌}
use mathlib.Core.Path.{◌≡◌}
use mathlib.Core.List.{List}
use native.Mathlib.Omega.{arith}
use native.Mathlib.Decide.{ℕ_discrete}
use Rattle.bits.specs.Bit.{bit}
use Rattle.bits.proofs.BitLaws.{bit_lt, bit_none}
use Rattle.value.specs.Mask.{LowestOf}
use Rattle.value.proofs.LowestLaws.{rest_without, rest_keeps}
use Rattle.bits.specs.Sum.{same}
use Rattle.bits.proofs.SumLaws.{same_yes, same_no}
use Rattle.lane.specs.declared.Lane.{Lane}
use Rattle.arcs.specs.Sunk.{Sunk, single, masked, DigitsAsk}
use Rattle.arcs.proofs.SunkLaws.{sunk_as, sunk_both}

-- the digits that are not in rest have fallen
pub record Dropping (lane : Lane) (p mask rest : ℕ) (l₀ l : List ℕ) : Type 0 where
  pub ask : DigitsAsk lane p mask l₀
  pub within : (v : ℕ) → v < 16 → bit v rest ≤ bit v mask
  pub sunk : Sunk (λ y v. min (same y (lane.number * 9 + p)) (bit v mask - bit v rest)) l₀ l

module _ {lane : Lane} {p mask rest v rest' : ℕ} {l₀ l : List ℕ} (c : Dropping lane p mask rest l₀ l) (b : LowestOf rest v rest') where
  abbrev place : ℕ
  place = lane.number * 9 + p

  pub dropping_next : {l' : List ℕ} → Sunk (single place v) l l' → Dropping lane p mask rest' l₀ l'
  dropping_next {l'} s =
      record {
        ask = c.ask;
        within = λ w n. less w n (ℕ_discrete w v);
        sunk = sunk_as (sunk_both c.sunk s) (λ y w p q. both y w q (ℕ_discrete w v));
      }
    where
      less : (w : ℕ) → w < 16 → Dec (w ≡ v) → bit w rest' ≤ bit w mask
      less w n (yes e) = let g : bit w rest' ≡ 0 = rw e (rest_without b) in omega arith
      less w n (no e) = omega (arith, rest_keeps b w e, c.within w n)

      both : (y w : ℕ) → w < 16 → Dec (w ≡ v) → min (same y place) (bit w mask - bit w rest) + single place v y w
          ≡ min (same y place) (bit w mask - bit w rest')
      both y w n (yes e) =
          let g : bit w rest' ≡ 0 = rw e (rest_without b) in
          let f : bit w rest ≡ 1 = rw e b.here in
          omega (arith, same_yes w v e, c.within w n, bit_lt w mask)
      both y w n (no e) = omega (arith, rest_keeps b w e, same_no w v e)

pub dropping_end : {lane : Lane} {p mask rest : ℕ} {l₀ l : List ℕ} → Dropping lane p mask rest l₀ l → rest ≡ 0 → Sunk (masked (lane.number * 9 + p) mask) l₀ l
dropping_end {mask = mask} {rest = rest} c z =
    sunk_as c.sunk (λ y v p q. let e : bit v rest ≡ 0 = rw z (bit_none v) in omega arith)
