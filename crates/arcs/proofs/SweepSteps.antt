-- The steps of a sweep as the code makes them. Assumes nothing.
use Prim.Native.Nat.{ℕ, ◌+◌, ◌-◌, ◌*◌, ◌/◌, ◌%◌, ◌^◌, ◌≤◌, ◌<◌}
use mathlib.Core.Path.{◌≡◌, refl, sym, ap, ◌∙◌}
use mathlib.Core.Logic.{⊎_elim}
use mathlib.Core.Bool.{Bool, true, false}
use mathlib.Core.List.{List}
use native.Mathlib.Omega.{arith}
use lib.ListN.{get_or}
use Rattle.bits.specs.Sum.{same}
use Rattle.bits.proofs.SumLaws.{same_yes, same_no}
use Rattle.queue_state.proofs.StruckLaws.{grown_gone}
use Rattle.lane.specs.declared.Lane.{Lane}
use Rattle.lane.proofs.LaneLaws.{lane_in}
use Rattle.words.specs.Word.{word_of, part, shift_of}
use Rattle.arcs.specs.Arc.{live}
use Rattle.table.specs.Value.{HalfOf}
use Rattle.table.specs.Lines.{cell_at, black_at}
use Rattle.arcs.proofs.KillLaws.{black_low}
use Rattle.arcs.proofs.TestLaws.{shift_part}
use Rattle.arcs.specs.Have.{test_of, Have, HavingAsk, Tested}
use Rattle.arcs.proofs.DeathLaws.{black_dead, tested_kept, tested_dead}
use Rattle.arrangements.specs.declared.ArrangedLane.{ArrangedLane}
use Rattle.arcs.specs.Sweep.{Removed, untouched, SweepAsk, Sweeping}
use Rattle.arcs.proofs.SweepLaws.{sweep_line, sweep_place, sweep_known, sweep_keep, sweep_drop, sweep_ready}

module _ (arranged : ArrangedLane) {p v : ℕ} {l₀ : List ℕ} (a : SweepAsk arranged.lane p v l₀) where
  abbrev lane : Lane
  lane = arranged.lane

  abbrev n : ℕ
  n = lane.len

  abbrev ℓ : ℕ
  ℓ = lane.number

  pub sweep_cell : lane.start + p * lane.stride ≡ cell_at ℓ p
  sweep_cell = lane.cells p (sweep_place arranged a)

  pub sweep_small : lane.start + p * lane.stride < 81
  sweep_small = lane_in lane p (sweep_place arranged a)

  pub sweep_having : {l : List ℕ} {i len : ℕ} → Sweeping n ℓ p v l₀ l i len → HavingAsk lane v l
  sweep_having s = let z = sweep_ready arranged a s in record { sized = z.sized; value = a.narrow; few = z.size.high }

  module _ {l : List ℕ} {i len : ℕ} (s : Sweeping n ℓ p v l₀ l i len) (b : i < len) where
    -- a black is struck: x is its place in the word
    module _ (w x t : ℕ) (h : 8 ≤ v) (e : w ≡ word_of n (live l ℓ i)) (f : t ≡ shift_of lane.first v) (g : x ≡ w / 2 ^ t % 16) where
      black_part : part (black_at ℓ) (word_of n (live l ℓ i)) p v ≡ same x p
      unfolding HalfOf
      black_part =
          ap (λ w. part (black_at ℓ) w p v) (sym e)
          ∙ ⊎_elim (λ q. absurd (omega arith)) (λ q. shift_part (black_at ℓ) w p v (black_low ℓ) q.0 q.1) a.half
          ∙ ap (λ k. same (w / 2 ^ shift_of k v % 16) p) (sym lane.black)
          ∙ ap (λ t. same (w / 2 ^ t % 16) p) (sym f)
          ∙ ap (λ x. same x p) (sym g)

      pub black_keep : (x ≡ p → ⊥) → Sweeping n ℓ p v l₀ l (i + 1) len
      black_keep d = sweep_keep arranged a s b (untouched (black_part ∙ same_no x p d))

      pub black_drop : {l' : List ℕ} (m : ℕ) → m ≡ len - 1 → x ≡ p → Removed n ℓ i m l l' → Sweeping n ℓ p v l₀ l' i m
      black_drop m q o r =
          sweep_drop arranged a s b m q
          (black_dead n ℓ p v (live l ℓ i) l a.ready.size (sweep_known arranged a s b) a.place h (black_part ∙ same_yes x p o)
          (grown_gone s.within.grown (cell_at ℓ p) v a.narrow a.gone))
          r

    -- a digit is struck
    module _ (w test have cell : ℕ) (o : Bool) (h : v < 8) (e : w ≡ word_of n (live l ℓ i)) (f : test ≡ test_of v p) (g : cell ≡ lane.start + p * lane.stride)
        (t : Tested w test have (get_or l cell 0) o) where
      tested : Tested w (test_of v p) have (get_or l cell 0) o
      tested = rw f at t

      at_cell : get_or l cell 0 ≡ get_or l (cell_at ℓ p) 0
      at_cell = ap (λ c. get_or l c 0) (g ∙ sweep_cell)

      pub digit_keep : Have lane v l n have → w < 2 ^ 32 → get_or l cell 0 < 2 ^ 16 → o ≡ true → Sweeping n ℓ p v l₀ l (i + 1) len
      digit_keep k c d q =
          sweep_keep arranged a s b
          (tested_kept n ℓ p v (live l ℓ i) l a.ready.size (sweep_known arranged a s b) a.place h (sweep_line arranged a) w have (get_or l cell 0) o e
          at_cell tested lane refl k c d q)

      pub digit_drop : {l' : List ℕ} (m : ℕ) → m ≡ len - 1 → o ≡ false → Have lane v l n have → Removed n ℓ i m l l' → Sweeping n ℓ p v l₀ l' i m
      digit_drop m c q k r =
          sweep_drop arranged a s b m c
          (tested_dead n ℓ p v (live l ℓ i) l a.ready.size (sweep_known arranged a s b) a.place h (sweep_line arranged a) w have (get_or l cell 0) o e
          at_cell tested lane refl k q)
          r
