-- Looking for a candidate in a line's mask. Assumes nothing.
use Rattle.std.specs.Prelude.{Option, Some, None, MatchOption}
use Prim.Native.Nat.{ℕ, ◌+◌, ◌*◌, ◌<◌}
use mathlib.Core.Path.{◌≡◌, sym, ap, ◌∙◌}
use mathlib.Core.List.{List}
use native.Mathlib.Omega.{arith}
use lib.Bits.{bit_and}
use Rattle.bits.specs.Bit.{bit}
use Rattle.bits.proofs.BitLaws.{bit_lt, bit_and_lem, bit_none}
use Rattle.value.specs.Mask.{LowestOf}
use Rattle.queue_state.specs.Slab.{cand, line_mask}
use Rattle.lane.specs.declared.Lane.{Lane}
use Rattle.value.proofs.RunMask.{run_mask, in_run, run_in}
use Rattle.singles.specs.Handling.{FindAsk, PlaceFound}

-- the mask of a line's places that have the value
module _ {l : List ℕ} {v : ℕ} (lane : Lane) (a : FindAsk l lane.len v) where
  abbrev pub places : ℕ
  places = bit_and (line_mask l lane.number v) (run_mask 0 lane.len)

  -- a place has the value where its bit is set
  at_place : (p : ℕ) → p < lane.len → bit p places ≡ cand l (lane.start + p * lane.stride) v
  at_place p h =
      let in_mask = bit_and_lem p (line_mask l lane.number v) (run_mask 0 lane.len) in
      let full = run_in 0 lane.len p (omega arith) h a.few in
      let here = a.sized.masks.bits lane.number p v lane.within (omega (arith, a.few)) a.value in
      in_mask ∙ omega (arith, bit_lt p (line_mask l lane.number v)) ∙ here ∙ ap (λ x. cand l x v) (sym (lane.cells p (omega (arith, a.few))))

  -- the first of them
  pub found : (r : Option ℕ) (t : ℕ) → MatchOption r ((places ≡ 0) × (t ≡ 0)) (λ p. LowestOf places p t) → PlaceFound l lane.len lane.start lane.stride v r
  found (Some p) t g =
      let inside : bit p (run_mask 0 lane.len) ≡ 1 = omega (arith, bit_and_lem p (line_mask l lane.number v) (run_mask 0 lane.len), bit_lt p (line_mask l lane.number v), bit_lt p (run_mask 0 lane.len), g.here) in
      let h = (in_run 0 lane.len p (omega arith) a.few g.value inside).1 in
      (h, sym (at_place p h) ∙ g.here)
  found None t g = λ k h. sym (at_place k h) ∙ ap (bit k) g.0 ∙ bit_none k
