-- What the tally of a line tells of its checks, line after line, and the sums that are written. Assumes nothing.
use Prim.Native.Nat.{ℕ, zero, suc, ◌+◌, ◌-◌, ◌*◌, ◌%◌, ◌≤◌, ◌<◌}
use mathlib.Core.Path.{◌≡◌, refl, sym, ◌∙◌}
use mathlib.Core.Bool.{cond}
use mathlib.Core.List.{List, ◌++◌, map}
use native.Mathlib.Omega.{arith}
use lib.Dec.{eqb, leb}
use lib.ListN.{length, get_or, take, set}
use lib.Seq.{take-suc-set}
use native.Mathlib.Numerals.{add-one}
use borrow.Author.Tests.{eq-eqb, ne_eqb, le-leb, lt-leb}
use Rattle.std.specs.Prelude.{Ok, Err}
use Rattle.tally.specs.Tally.{count, join, span}
use Rattle.refusal.specs.declared.Refusal.{Refusal}
use Rattle.refusal.specs.declared.Refusal.TheVariants.{Blacks, EmptyCell, Sum}
use Rattle.rules.specs.Grid.{is_black, inside, line_sum}
use Rattle.rules.specs.Check.{Check, checked, check_line}
use Rattle.rules.specs.CheckParts.{is_empty}
use Rattle.rules.proofs.CheckLaws.{checked_skip, checked_stop}
use Rattle.rules.proofs.StridedLaws.{map_next}
use Rattle.rules.specs.Strided.{strided, each}
use Rattle.grid_lines.specs.declared.Lines.{Lines}
use Rattle.grid_lines.specs.Cells.{each_line}
use Rattle.grid_lines.proofs.LinesLaws.{each_of}
use Rattle.rules.proofs.InsideLaws.{none_empty}
use Rattle.target_sums.specs.Tally.{Seen, Told, tallied_sum}
use Rattle.target_sums.specs.Tallies.{SeenEach, TalliesAsk, tallied_sums}

module _ (l : List ℕ) where
  line_8 : (count is_black l ≡ 2 → ⊥) → Err Blacks ≡ checked (check_line l)
  unfolding checked
  line_8 b = rw (ne_eqb (count is_black l) 2 b)

  -- the later checks, where there are two blacks
  past_8 : count is_black l ≡ 2 → checked (check_line l) ≡ cond (eqb (count is_empty (inside l)) 0) (cond (leb (line_sum l) 255) (Ok tt) (Err Sum)) (Err EmptyCell)
  unfolding checked
  past_8 b = rw (eq-eqb (count is_black l) 2 b, none_empty (inside l))

  line_9 : count is_black l ≡ 2 → (count is_empty (inside l) ≡ 0 → ⊥) → Err EmptyCell ≡ checked (check_line l)
  line_9 b e = rw (past_8 b, ne_eqb (count is_empty (inside l)) 0 e)

  line_10 : count is_black l ≡ 2 → count is_empty (inside l) ≡ 0 → 255 < line_sum l → Err Sum ≡ checked (check_line l)
  line_10 b e f = rw (past_8 b, eq-eqb (count is_empty (inside l)) 0 e, lt-leb (line_sum l) 255 f)

  line_0 : count is_black l ≡ 2 → count is_empty (inside l) ≡ 0 → line_sum l ≤ 255 → Ok tt ≡ checked (check_line l)
  line_0 b e f = rw (past_8 b, eq-eqb (count is_empty (inside l)) 0 e, le-leb (line_sum l) 255 f)

-- ---- what a tally tells of its line

module _ (t : ℕ) where
  pub told_8 : (t % 256 ≡ 2 → ⊥) → Told t (Err Blacks)
  told_8 f = record { told = λ k l h s. line_8 l (λ e. f (omega (arith, e, s.tally_is))) }

  module _ (f : t % 256 ≡ 2) where
    two : (k : ℕ) (l : List ℕ) → k ≤ 9 → Seen t k l → count is_black l ≡ 2
    two k l h s = omega (arith, f, h, s.tally_is, s.few_blacks)

    pub told_0 : t < 65536 → Told t (Ok tt)
    told_0 g =
        record {
          told = λ k l h s. let b = two k l h s in
              let z : count is_empty (inside l) ≡ 0 = omega (arith, g, s.tally_is) in
              (line_0 l b z (omega (arith, b, g, s.tally_is)), omega (arith, b, z, g, s.tally_is));
        }

    pub told_9 : 1048576 ≤ t → Told t (Err EmptyCell)
    told_9 g = record { told = λ k l h s. line_9 l (two k l h s) (λ z. omega (arith, two k l h s, z, g, h, s.tally_is, s.small_sum)) }

    pub told_10 : 65536 ≤ t → t < 1048576 → Told t (Err Sum)
    told_10 n g =
        record {
          told = λ k l h s. let b = two k l h s in
              let z : count is_empty (inside l) ≡ 0 = omega (arith, g, s.tally_is) in
              line_10 l b z (omega (arith, b, z, n, s.tally_is));
        }

-- ---- line after line

-- line i of those that start at 0, step, ..
abbrev pub line_from : ℕ → ℕ → List ℕ → ℕ → ℕ → List ℕ
line_from step stride g n i = strided (i * step) stride g n

module _ (f : ℕ → List ℕ) where
  -- the checks of the lines from i on
  unfoldable pub ahead : ℕ → ℕ → List Check
  ahead i k = join (map (λ i. check_line (f i)) (span i k))

  cons : (i n : ℕ) → i < n → ahead i (n - i) ≡ check_line (f i) ++ ahead (i + 1) (n - (i + 1))
  unfolding ahead span join
  cons i n h = let e : n - i ≡ suc (n - (i + 1)) = omega arith in let q : i + 1 ≡ suc i = omega arith in rw (e, q)

  pub ahead_skip : (i n : ℕ) → i < n → checked (check_line (f i)) ≡ Ok tt → checked (ahead i (n - i)) ≡ checked (ahead (i + 1) (n - (i + 1)))
  ahead_skip i n h e = rw (cons i n h) (checked_skip (check_line (f i)) (ahead (i + 1) (n - (i + 1))) e)

  pub ahead_stop : (i n : ℕ) → i < n → (k : Refusal) → checked (check_line (f i)) ≡ Err k → checked (ahead i (n - i)) ≡ Err k
  ahead_stop i n h k e = rw (cons i n h) (checked_stop (check_line (f i)) (ahead (i + 1) (n - (i + 1))) k e)

  pub ahead_end : (i n : ℕ) → n ≤ i → checked (ahead i (n - i)) ≡ Ok tt
  unfolding ahead span join checked
  ahead_end i n h = let e : n - i ≡ 0 = omega arith in rw e

-- ---- writing line after line

pub fill_next : (f : ℕ → ℕ) (l : List ℕ) (i v : ℕ) → i < length l → take i l ≡ map f (span 0 i) → v ≡ f i → take (i + 1) (set l i v) ≡ map f (span 0 (i + 1))
fill_next f l i v h e d = rw (map_next f i, add-one i, take-suc-set l i v h, e, d)

-- the sums in the tallies of line after line
pub sums_next : (f : ℕ → ℕ) (l : List ℕ) (i : ℕ) → tallied_sums l i ≡ map f (span 0 i) → tallied_sum (get_or l i 0) ≡ f i → tallied_sums l (i + 1) ≡ map f (span 0 (i + 1))
unfolding tallied_sums
sums_next f l i e d = rw (map_next f i, map_next (λ j. tallied_sum (get_or l j 0)) i, e, d)

-- the sums of all of them
pub sums_each : (f : ℕ → ℕ) (l : List ℕ) (n : ℕ) → ((k : ℕ) → k < n → tallied_sum (get_or l k 0) ≡ f k) → tallied_sums l n ≡ map f (span 0 n)
unfolding tallied_sums span
sums_each f l zero d = refl
sums_each f l (suc k) d =
    let e : k + 1 ≡ suc k = omega arith in
    rw e at (sums_next f l k (sums_each f l k (λ i h. d i (omega arith))) (d k (omega arith)))

-- what is written of the lines is a sum for each
pub written : (lines : Lines) (f : ℕ → List ℕ) {g : List ℕ} {step stride n m : ℕ} →
    (lines.cells.now ≡ g) × (lines.step ≡ step) × (lines.stride ≡ stride) × (lines.count ≡ n) →
    m ≡ n → f lines.count ≡ each_line line_sum lines → f m ≡ each line_sum step stride g n n
written lines f e d s = rw (d ∙ sym e.3) (s ∙ each_of line_sum lines e)

-- the tallies of the lines of a grid are those of these lines
pub tallies_of : (lines : Lines) {g tallies : List ℕ} {step stride n : ℕ} →
    (lines.cells.now ≡ g) × (lines.step ≡ step) × (lines.stride ≡ stride) × (lines.count ≡ n) →
    n ≤ length tallies → SeenEach step stride g n tallies → TalliesAsk lines tallies
tallies_of lines e h s = record { room = omega (arith, e.3, h); seen = rw (e.0, e.1, e.2, e.3) s }
