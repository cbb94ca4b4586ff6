-- The grids that are found: which, how many, in which order, and how marks change them. Assumes nothing.
use Prim.Native.Nat.{ℕ, ◌*◌, ◌≤◌, ◌<◌}
use mathlib.Core.Path.{◌≡◌, refl, sym, ap, ◌∙◌, subst}
use mathlib.Core.Bool.{true, ◌&&◌, and_assoc, and_comm}
use mathlib.Core.List.{List, [], ◌∷◌, Memᴰ, Permᴰ}
use native.Mathlib.Omega.{arith}
use lib.ListN.{length}
use Rattle.tally.specs.Tally.{all, count, keep, sort, ordered}
use Rattle.tally.proofs.TallyLaws.{and_right, and_both, test_ext, all_perm, count_ext, same_list, same_eq, count_same}
use Rattle.tally.proofs.ListLaws.{mem_keep, of_keep, keep_ext, keep_keep, length_keep, sort_length, sort_count, mem_sort, of_sort, sort_ordered, keep_sort}
use Rattle.rules.specs.Grid.{Puzzle, keeps}
use Rattle.rules.specs.Mark.{keeps_mark}
use Rattle.rules.specs.Number.{Solution, grids, solves, number}
use Rattle.rules.specs.Order.{sequence, precedes, in_order, found, first_or}
use Rattle.rules.specs.Short.{symbols, keeps_marks}
use Rattle.rules.proofs.GridLaws.{symbols_once, solution_way}
use Rattle.table.specs.Table.{Table, fits}
use Rattle.table.specs.Steps.{marked_all}
use Rattle.soundness.specs.Marks.{AcceptedMark, Whole}
use Rattle.soundness.proofs.MarkLaws.{marks_fits}
use Rattle.grid_order.specs.Remaining.{remaining}
use Rattle.grid_order.proofs.PrecedesLaws.{precedes_total, precedes_transitive}
use Rattle.grid_order.proofs.RemainingLaws.{keep_grids}

module _ (p : Puzzle) (ms : List ℕ) where
  -- They are the solutions, as many as the number says, and each precedes those behind it.
  pub found_solution : {g : List ℕ} → Memᴰ g (found p ms) → Solution p ms g
  unfolding found in_order
  found_solution m =
      let k = of_keep (solves p ms) (grids p.size) (of_sort (precedes p.size (sequence p.size)) (keep (solves p ms) (grids p.size)) m) in
      record { among = k.0; right = k.1 }

  pub solution_found : {g : List ℕ} → Solution p ms g → Memᴰ g (found p ms)
  unfolding found in_order
  solution_found s = mem_sort (precedes p.size (sequence p.size)) (mem_keep (solves p ms) s.among s.right)

  pub found_length : length (found p ms) ≡ number p ms
  unfolding found in_order number
  found_length = sort_length (precedes p.size (sequence p.size)) (keep (solves p ms) (grids p.size)) ∙ length_keep (solves p ms) (grids p.size)

  -- each of them once
  pub found_once : p.size ≤ 9 → {g : List ℕ} → Solution p ms g → count (same_list g) (found p ms) ≡ 1
  unfolding found in_order grids
  found_once small {g} s =
      sort_count (precedes p.size (sequence p.size)) (same_list g) (keep (solves p ms) (grids p.size))
      ∙ sym (length_keep (same_list g) (keep (solves p ms) (grids p.size)))
      ∙ ap length (keep_keep (solves p ms) (same_list g) (grids p.size))
      ∙ length_keep (λ h. solves p ms h && same_list g h) (grids p.size)
      ∙ count_ext (λ h. test_ext (solves p ms h && same_list g h) (same_list g h) (and_right (solves p ms h) (same_list g h))
      (λ t. and_both (subst (λ x. solves p ms x ≡ true) (same_eq g h t) s.right) t)) (grids p.size)
      ∙ count_same (symbols p.size) (symbols_once p.size small) (p.size * p.size) (solution_way s)

  pub found_ordered : ordered (precedes p.size (sequence p.size)) (found p ms) ≡ true
  unfolding found in_order
  found_ordered =
      sort_ordered (precedes p.size (sequence p.size)) (precedes_total p.size (sequence p.size)) (precedes_transitive p.size (sequence p.size))
      (keep (solves p ms) (grids p.size))

  -- The first of them, where there is one: a solution, whatever stands for it where there is none.
  module _ (some : 0 < number p ms) where
    some_found : (g : List ℕ) × (gs : List (List ℕ)) × (found p ms ≡ g ∷ gs)
    some_found = go (found p ms) found_length
      where
        go : (l : List (List ℕ)) → length l ≡ number p ms → (g : List ℕ) × (gs : List (List ℕ)) × (l ≡ g ∷ gs)
        go [] e = absurd (omega arith)
        go (g ∷ gs) e = (g, gs, refl)

    pub first_solution : (before : List ℕ) → Solution p ms (first_or before (found p ms))
    unfolding first_or
    first_solution before =
        let s = some_found in
        let m : Memᴰ s.0 (found p ms) = subst (Memᴰ s.0) (sym s.2) (Memᴰ.head refl) in
        subst (λ l. Solution p ms (first_or before l)) (sym s.2) (found_solution m)

    pub first_same : (a b : List ℕ) → first_or a (found p ms) ≡ first_or b (found p ms)
    unfolding first_or
    first_same a b = rw some_found.2

  -- ONE MARK MORE: those that keep it, in the same order.
  pub found_more : (m : ℕ) → found p (m ∷ ms) ≡ keep (λ g. keeps_mark p.size g m) (found p ms)
  unfolding found in_order solves all
  found_more m =
      let along = precedes p.size (sequence p.size) in
      let kept = λ (g : List ℕ). keeps_mark p.size g m in
      let others = λ (g : List ℕ). keeps_marks p.size ms g in
      ap (sort along)
      (keep_ext (grids p.size) (λ g _. ap (λ b. keeps p g && b) (and_comm (kept g) (others g)) ∙ sym (and_assoc (keeps p g) (others g) (kept g)))
      ∙ sym (keep_keep (solves p ms) kept (grids p.size)))
      ∙ sym (keep_sort along (precedes_total p.size (sequence p.size)) (precedes_transitive p.size (sequence p.size)) kept (keep (solves p ms) (grids p.size)))

-- ORDER OF MARKS: the same marks in any order find the same grids in the same order.
pub found_order : (p : Puzzle) {ms ns : List ℕ} → Permᴰ ms ns → found p ms ≡ found p ns
unfolding found solves
found_order p {ms} {ns} d = ap (in_order p.size) (keep_ext (grids p.size) (λ g _. ap (λ b. keeps p g && b) (all_perm (keeps_mark p.size g) d)))

-- After marks on a table that every grid fits, they are the grids left of it.
pub found_marked : (p : Puzzle) → p.size ≤ 9 → (t : Table) (ms : List ℕ) → ((m : ℕ) → Memᴰ m ms → AcceptedMark p.size m) → Whole p t → found p ms ≡ remaining p (marked_all t ms)
unfolding found remaining solves
found_marked p small t ms a w =
    ap (in_order p.size)
    (keep_grids p (keeps_marks p.size ms) (fits p.size (marked_all t ms))
    (λ g d. sym (marks_fits p small t ms a g d ∙ ap (λ b. b && keeps_marks p.size ms g) (w.whole g d))))
