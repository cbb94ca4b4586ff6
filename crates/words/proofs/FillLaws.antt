-- Filling the list of words, subset by subset. Assumes nothing.
use Prim.Native.Nat.{ℕ, ◌+◌, ◌-◌, ◌*◌, ◌/◌, ◌%◌, ◌^◌, ◌≤◌, ◌<◌}
use mathlib.Core.Path.{◌≡◌, sym, ap, ◌∙◌}
use mathlib.Core.Bool.{true, false, true≢false, Bool}
use borrow.Author.Tests.{ltb-true, lt-ltb}
use mathlib.Core.List.{List}
use native.Mathlib.Omega.{arith}
use native.Mathlib.Decide.{dec_lt, ℕ_discrete}
use lib.ListN.{length, get_or, length-set}
use lib.ListN.{set as slice_set}
use lib.Seq.{get_or-set_same, get_or-set_other}
use Rattle.rules.specs.Size.{Size}
use Rattle.rules.specs.Check.{max_target}
use Rattle.subset_table.specs.declared.Subset.{Subset}
use Rattle.subset_table.specs.Subsets.{subset, of_size, from_sum, mask_in, size_in}
use Rattle.words.specs.Word.{Known, word_from, word_of, Words}
use Rattle.words.proofs.WordFacts.{subset_fits, subset_before, most_sum, from_sum_most}
use Rattle.words.specs.Fill.{FillAsk, Filling, WordsFilled}

-- whether subset s is of the size, as it was asked
pub of_size_told : (s : ℕ) {n m : ℕ} {x : Subset} {b v : Bool} → m ≡ n → x ≡ subset s → b ≡ of_size m x → b ≡ v → of_size n (subset s) ≡ v
of_size_told s {m = m} e i t f = rw (← e, ← i) (sym t ∙ f)

module _ {n s : ℕ} {ws₀ : List ℕ} (z : Size n) (a : FillAsk n s ws₀) where
  pub fill_room : {x : Subset} → x ≡ subset s → x.size + 2 ≤ n
  fill_room i = rw i (subset_fits s a.among n z a.digits)

  pub filling_next : {x : Subset} → x ≡ subset s → (k set len w : ℕ) (ws : List ℕ) → set ≡ x.mask → len ≡ x.size → k < n → w ≡ word_from n set len k →
      Filling n s k ws₀ ws → Filling n s (k + 1) ws₀ (slice_set ws (s * 9 + k) w)
  unfolding word_of
  filling_next i k set len w ws m f h e g =
      record {
        long = length-set ws (s * 9 + k) w ∙ g.long;
        most = omega arith;
        each = λ i l. one i l (ℕ_discrete i k);
        old = λ id l. get_or-set_other ws (s * 9 + k) id w 0 (λ q. omega arith) ∙ g.old id l;
      }
    where
      there : w ≡ word_from n (mask_in ((s * 9 + k) / 9)) (size_in ((s * 9 + k) / 9)) ((s * 9 + k) % 9)
      there =
          let p : (s * 9 + k) / 9 ≡ s = omega (arith, z.high) in
          let q : (s * 9 + k) % 9 ≡ k = omega (arith, z.high) in
          rw (p, q) (e ∙ ap (λ y. word_from n y len k) (m ∙ ap (λ y. y.mask) i) ∙ ap (λ y. word_from n (mask_in s) y k) (f ∙ ap (λ y. y.size) i))

      one : (i : ℕ) → i < k + 1 → Dec (i ≡ k) → get_or (slice_set ws (s * 9 + k) w) (s * 9 + i) 0
          ≡ word_from n (mask_in ((s * 9 + i) / 9)) (size_in ((s * 9 + i) / 9)) ((s * 9 + i) % 9)
      one i l (yes q) = rw q (get_or-set_same ws (s * 9 + k) w 0 (omega (arith, g.long, a.among, z.high)) ∙ there)
      one i l (no q) = get_or-set_other ws (s * 9 + k) (s * 9 + i) w 0 (λ r. omega arith) ∙ g.each i (omega arith)

-- the words of the subsets below s are there
pub record FilledTo (n s : ℕ) (ws : List ℕ) : Type 0 where
  pub long : length ws ≡ 1152
  pub each : (id : ℕ) → id < s * 9 → Known n id → get_or ws id 0 ≡ word_of n id

module _ {n s : ℕ} {ws : List ℕ} (z : Size n) (g : FilledTo n s ws) (h : s < 128) where
  pub filled_ask : of_size n (subset s) ≡ true → FillAsk n s ws
  filled_ask t = record { among = h; digits = t; long = g.long }

  pub filled_next : {ws' : List ℕ} → WordsFilled n s ws ws' → FilledTo n (s + 1) ws'
  filled_next {ws'} f = record { long = f.long; each = λ id l y. one id l y (dec_lt id (s * 9)) }
    where
      one : (id : ℕ) → id < (s + 1) * 9 → Known n id → Dec (id < s * 9) → get_or ws' id 0 ≡ word_of n id
      one id l y (yes b) = f.old id b ∙ g.each id b y
      one id l y (no b) =
          let e : s * 9 + id % 9 ≡ id = omega arith in
          rw e at (f.each (id % 9) y.starts)

  pub filled_skip : of_size n (subset s) ≡ false → FilledTo n (s + 1) ws
  filled_skip t = record { long = g.long; each = λ id l y. one id l y (dec_lt id (s * 9)) }
    where
      one : (id : ℕ) → id < (s + 1) * 9 → Known n id → Dec (id < s * 9) → get_or ws id 0 ≡ word_of n id
      one id l y (yes b) = g.each id b y
      one id l y (no b) = let e : id / 9 ≡ s = omega arith in absurd (true≢false (sym (rw e at y.digits) ∙ t))

-- the end of the loop: behind the subsets of the greatest sum
module _ {n t : ℕ} (z : Size n) (d : t ≡ max_target n) where
  pub end_asked : t + 1 < 30
  end_asked = omega (arith, d, most_sum n z)

  module _ {m : ℕ} (e : m ≡ from_sum (t + 1)) where
    pub end_within : m ≤ 128
    end_within = omega (arith, e, from_sum_most (t + 1) end_asked)

    -- no subset of the size's digits stands from there on
    pub filled_all : {ws : List ℕ} → {s : ℕ} → m ≤ s → FilledTo n s ws → Words n ws
    filled_all {s = s} h g =
        let there : m ≡ from_sum (max_target n + 1) = rw d at e in
        record { size = g.long; each = λ id y. let before = subset_before (id / 9) (omega (arith, y.within)) n z y.digits in g.each id (omega arith) y }
