-- What one cell more adds to the tally of a line. Assumes nothing.
use Prim.Native.Nat.{ℕ, ◌+◌, ◌*◌, ◌%◌, ◌≤◌, ◌<◌}
use mathlib.Core.Path.{◌≡◌, ap, ◌∙◌}
use mathlib.Core.List.{List, [], ◌∷◌, ◌++◌}
use native.Mathlib.Omega.{arith}
use native.Mathlib.Nat.{add_comm}
use lib.ListN.{length, get_or, set}
use Rattle.std.proofs.lemmas.List.{get_or-set_same, get_or-set_other}
use native.Mathlib.Decide.{ℕ_discrete}
use borrow.Author.Tests.{eq-eqb, ne_eqb}
use Rattle.tally.specs.Tally.{count, sum, one_if}
use Rattle.tally.proofs.TallyLaws.{bit_eq, bit_ne}
use Rattle.rules.specs.Grid.{is_black, inside, line_sum}
use Rattle.rules.specs.CheckParts.{is_empty}
use Rattle.rules.proofs.InsideLaws.{inside_black, inside_white, inside_off, sum_snoc, count_snoc}
use Rattle.rules.specs.Strided.{strided}
use Rattle.rules.proofs.StridedLaws.{strided_next}
use Rattle.grid_lines.specs.declared.Line.{Line}
use Rattle.grid_lines.specs.Cells.{line_cells}
use Rattle.target_sums.specs.Tally.{Seen, weight, most, AddedBetween, OneMore, RowAdded}

pub seen_none : (t : ℕ) (l : List ℕ) → l ≡ [] → t ≡ 0 → Seen t 0 l
unfolding count inside line_sum sum
seen_none t l n e = rw n (record { tally_is = e; few_blacks = omega arith; few_empties = omega arith; small_sum = omega arith })

pub next_black : (t c r : ℕ) → c ≡ 255 → r ≡ t + 1 → OneMore t c r
unfolding line_sum
next_black t c r h e =
    record {
      seen = λ k l m s. let i = inside_black l c (eq-eqb c 255 h) in
          let b = count_snoc is_black l c in
          let o = bit_eq c 255 h in
          let p = ap (count is_empty) i in
          let q = ap sum i in
          record {
            tally_is = omega (arith, e, b, o, p, q, s.tally_is);
            few_blacks = omega (arith, b, o, s.few_blacks);
            few_empties = omega (arith, p, s.few_empties);
            small_sum = omega (arith, q, s.small_sum);
          };
    }

module _ (t c v r : ℕ) (z : c ≤ 255) (h : c ≡ 255 → ⊥) (d : v ≡ weight c) (u : one_if (is_empty c) ≤ 1) (a : AddedBetween t v r) (k : ℕ) (l : List ℕ) (m : k ≤ 8) (s : Seen t k l) where
  between : t % 256 ≡ 1 → Seen r (k + 1) (l ++ c ∷ [])
  unfolding line_sum
  between f =
      let one : count is_black l ≡ 1 = omega (arith, f, m, s.tally_is, s.few_blacks) in
      let i = inside_white l c (ne_eqb c 255 h) one in
      let b = count_snoc is_black l c in
      let o = bit_ne c 255 h in
      let p = ap (count is_empty) i in
      let p' = count_snoc is_empty (inside l) c in
      let q = ap sum i in
      let q' = sum_snoc (inside l) c in
      record {
        tally_is = omega (arith, a.one_black f, d, b, o, p, p', q, q', s.tally_is);
        few_blacks = omega (arith, b, o, s.few_blacks);
        few_empties = omega (arith, p, p', u, s.few_empties);
        small_sum = omega (arith, q, q', z, s.small_sum);
      }

  outside : (t % 256 ≡ 1 → ⊥) → Seen r (k + 1) (l ++ c ∷ [])
  unfolding line_sum
  outside f =
      let i = inside_off l c (ne_eqb c 255 h) (λ one. f (omega (arith, one, s.tally_is))) in
      let b = count_snoc is_black l c in
      let o = bit_ne c 255 h in
      let p = ap (count is_empty) i in
      let q = ap sum i in
      record {
        tally_is = omega (arith, a.other f, b, o, p, q, s.tally_is);
        few_blacks = omega (arith, b, o, s.few_blacks);
        few_empties = omega (arith, p, s.few_empties);
        small_sum = omega (arith, q, s.small_sum);
      }

  next : Seen r (k + 1) (l ++ c ∷ [])
  next = elim (ℕ_discrete (t % 256) 1) [ yes f ↦ between f | no f ↦ outside f ]

bit_small : (c : ℕ) → one_if (is_empty c) ≤ 1
bit_small c = elim (ℕ_discrete c 0) [ yes z ↦ omega (arith, bit_eq c 0 z) | no z ↦ omega (arith, bit_ne c 0 z) ]

pub next_other : (t c v r : ℕ) → c ≤ 255 → (c ≡ 255 → ⊥) → v ≡ weight c → AddedBetween t v r → OneMore t c r
next_other t c v r z h d a = record { seen = λ k l m s. next t c v r z h d (bit_small c) a k l m s }

-- the tally of at most nine cells
pub seen_small : (t k : ℕ) (l : List ℕ) → k ≤ 9 → Seen t k l → t ≤ most
seen_small t k l h s = omega (arith, h, s.tally_is, s.few_blacks, s.few_empties, s.small_sum)

-- ---- one entry after the other

-- what holds of those in front and of one more
pub front_next : (P : ℕ → ℕ → Type 0) (l : List ℕ) (j v : ℕ) → j < length l → P j v →
    ((i : ℕ) → i < j → P i (get_or l i 0)) → (i : ℕ) → i < j + 1 → P i (get_or (set l j v) i 0)
front_next P l j v h p m i k =
    elim (ℕ_discrete i j) [
      | yes z ↦ rw (z, get_or-set_same l j v 0 h) p
      | no z ↦ rw (get_or-set_other l j i v 0 z) (m i (omega (arith, k, z)))
    ]

pub rest_next : (old l : List ℕ) (j v : ℕ) → ((i : ℕ) → j ≤ i → get_or l i 0 ≡ get_or old i 0) → (i : ℕ) → j + 1 ≤ i → get_or (set l j v) i 0 ≡ get_or old i 0
rest_next old l j v m i k = get_or-set_other l j i v 0 (λ z. omega (arith, k, z)) ∙ m i (omega (arith, k))

-- ---- a row, and its cells in the columns

pub row_of : (row : Line) {t : ℕ} {g : List ℕ} {start stride n : ℕ} → (row.cells.now ≡ g) × (row.start ≡ start) × (row.stride ≡ stride) × (row.len ≡ n) →
    Seen t row.len (line_cells row) → Seen t n (strided start stride g n)
row_of row e s = rw (← e.0, ← e.1, ← e.2, ← e.3) s

pub added_of : (row : Line) {t : ℕ} {old new g : List ℕ} {start stride n : ℕ} → (row.cells.now ≡ g) × (row.start ≡ start) × (row.stride ≡ stride) × (row.len ≡ n) →
    RowAdded row t old new → (j : ℕ) → j < n → OneMore (get_or old j 0) (get_or g (start + j * stride) 0) (get_or new j 0)
added_of row e a j h = rw (← e.0, ← e.1, ← e.2) (a.columns_more j (omega (arith, h, e.3)))

-- cell i of a column
pub column_next : (step stride : ℕ) (g : List ℕ) (i j t r : ℕ) → OneMore t (get_or g (i * step + j * stride) 0) r → i ≤ 8 →
    Seen t i (strided (j * stride) step g i) → Seen r (i + 1) (strided (j * stride) step g (i + 1))
column_next step stride g i j t r o h s = rw (strided_next, add_comm (j * stride) (i * step)) (o.seen i _ h s)
