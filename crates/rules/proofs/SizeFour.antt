-- Size 4, rows all 3: no grid, for all columns. A row with sum 3 begins with a black, so the first column would have four. Assumes nothing.
use Prim.Native.Nat.{ℕ, ◌<◌}
use mathlib.Core.Path.{◌≡◌, refl, sym, ◌∙◌}
use mathlib.Core.Bool.{Bool, true, false, not, ◌||◌, true≢false}
use mathlib.Core.List.{List, [], ◌∷◌}
use native.Mathlib.Omega.{arith}
use lib.Dec.{eqb}
use lib.ListN.{get_or}
use borrow.Author.Tests.{eqb-true}
use Rattle.tally.specs.Tally.{all, count, sum, in_front, ways, span}
use Rattle.tally.specs.Way.{Way}
use Rattle.tally.proofs.TallyLaws.{and_left, count_none}
use Rattle.tally.proofs.WayLaws.{all_ways}
use Rattle.rules.specs.Grid.{is_black, digits, lawful, until_black, inside, line_sum, meets, keeps_line, Puzzle, across, down, index, target, cell, row, column, line, keeps}
use Rattle.rules.specs.Short.{keeps_marks, symbols}
use Rattle.rules.specs.Number.{grids, solves, number}
use Rattle.rules.proofs.GridLaws.{line_keeps, line_way}

-- four rows of 3, and any columns
abbrev pub threes : List ℕ → Puzzle
threes cs = record { size = 4; rows = 3 ∷ 3 ∷ 3 ∷ 3 ∷ []; columns = cs }

-- a line that keeps the target 3 begins with a black
begins : List ℕ → Bool
begins l = not (keeps_line 4 3 l) || is_black (get_or l 0 0)

all_begin : all begins (ways (symbols 4) 4) ≡ true
unfolding begins all ways in_front digits span keeps_line lawful meets line_sum inside until_black count sum
all_begin = refl

or_right : {a b : Bool} → a ≡ true → (not a || b) ≡ true → b ≡ true
or_right {a} {b} h t = rw h at t

module _ (cs g : List ℕ) (w : Way (symbols 4) 16 g) (k : keeps (threes cs) g ≡ true) where
  first_black : (r : ℕ) → r < 4 → target (threes cs) (across r) ≡ 3 → cell 4 g r 0 ≡ 255
  unfolding begins row span line index target
  first_black r h e =
      let t = line_keeps (threes cs) g k (across r) h in
      eqb-true (cell 4 g r 0) 255 (or_right {b = eqb (cell 4 g r 0) 255} (rw e at t) (all_ways (symbols 4) begins (line_way 4 g w (across r) h) all_begin))

  four_blacks : (n t a b c d : ℕ) → a ≡ 255 → b ≡ 255 → c ≡ 255 → d ≡ 255 → keeps_line n t (a ∷ b ∷ c ∷ d ∷ []) ≡ false
  unfolding keeps_line lawful count
  four_blacks n t a b c d p q r s = rw (p, q, r, s)

  no_grid : ⊥
  unfolding column span line index target
  no_grid =
      let f : keeps_line 4 (get_or cs 0 0) (column 4 g 0) ≡ false =
      four_blacks 4 (get_or cs 0 0) (cell 4 g 0 0) (cell 4 g 1 0) (cell 4 g 2 0) (cell 4 g 3 0) (first_black 0 (omega arith) refl)
      (first_black 1 (omega arith) refl) (first_black 2 (omega arith) refl) (first_black 3 (omega arith) refl) in
      true≢false (sym (line_keeps (threes cs) g k (down 0) (omega arith)) ∙ f)

pub threes_none : (cs ms : List ℕ) → number (threes cs) ms ≡ 0
unfolding number grids solves
threes_none cs ms = count_none (symbols 4) 16 _ (λ g w t. no_grid cs g w (and_left (keeps (threes cs) g) (keeps_marks 4 ms g) t))
