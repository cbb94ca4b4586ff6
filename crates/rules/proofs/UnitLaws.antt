-- What a unit changes in the checks: nothing where two units take the input alike, nothing in the hall, and 18 and 19 exactly beyond a limit. Assumes nothing.
use Prim.Native.Nat.{ℕ}
use mathlib.Core.Path.{◌≡◌, refl, sym, ap, ◌∙◌}
use mathlib.Core.Bool.{Bool, true, false}
use mathlib.Core.List.{List, [], ◌∷◌, ◌++◌, map}
use native.Mathlib.Decide.{ℕ_discrete}
use lib.Dec.{leb}
use lib.ListN.{length}
use Rattle.tally.specs.Tally.{join}
use Rattle.tally.proofs.TallyLaws.{and_right}
use Rattle.refusal.specs.declared.Refusal.{Refusal}
use Rattle.refusal.specs.declared.Refusal.TheVariants.{Size, SizeLimit, ListLimit}
use Rattle.refusal.specs.Number.{refusal_number}
use Rattle.units.specs.declared.Unit.{Unit}
use Rattle.units.specs.Limits.{hall, takes_size, takes_list}
use Rattle.rules.specs.Grid.{Puzzle, line, lines}
use Rattle.rules.specs.Check.{Check, check, checked, refusal, check_size, check_lengths, check_mark, check_buffer, check_line, check_unit_size, puzzle_checks, count_checks, solve_checks, sheet_checks, sums_checks}
use Rattle.rules.specs.CheckParts.{size_fits, check_targets, mark_checks}
use Rattle.rules.proofs.CheckLaws.{number_positive, lacks, numbered, refusal_lacks, refusal_skip, refusal_stop, refusal_pass, refusal_none, lacks_append, lacks_join}

-- ---- ALIKE: two units that both take the size and the list, or both do not, ask the same

module _ (u v : Unit) (n : ℕ) (s : takes_size u n ≡ takes_size v n) where
  pub alike_sums : (cells : List ℕ) (rows columns : ℕ) → sums_checks u n cells rows columns ≡ sums_checks v n cells rows columns
  unfolding sums_checks
  alike_sums cells rows columns = rw s

module _ (u v : Unit) (p : Puzzle) (s : takes_size u p.size ≡ takes_size v p.size) where
  pub alike_sheet : (cells : List ℕ) → sheet_checks u p cells ≡ sheet_checks v p cells
  unfolding sheet_checks
  alike_sheet cells = rw s

  module _ (ms : List ℕ) (l : takes_list u (length ms) ≡ takes_list v (length ms)) where
    pub alike_count : count_checks u p ms ≡ count_checks v p ms
    unfolding count_checks
    alike_count = rw (s, l)

    pub alike_solve : (len : ℕ) → solve_checks u p ms len ≡ solve_checks v p ms len
    unfolding solve_checks
    alike_solve len = ap (λ qs. qs ++ check_buffer p.size len ∷ []) alike_count

-- ---- EXACTLY: the one check with its number refuses where it fails and those before it pass

abbrev pub Exactly : Type 0 → Type 0 → Type 0
Exactly A B = (A → B) × (B → A)

module _ (k : Refusal) (a : List Check) (b : Bool) (c : List Check) (h : lacks (refusal_number k) a ≡ true) (q : numbered a ≡ true) (l : lacks (refusal_number k) c ≡ true) where
  fails : (b : Bool) → refusal (check k b ∷ c) ≡ refusal_number k → b ≡ false
  unfolding refusal checked
  fails true e = absurd (refusal_lacks (refusal_number k) c l (number_positive k) e)
  fails false e = refl

  first : refusal (a ++ check k b ∷ c) ≡ refusal_number k → refusal a ≡ 0
  first e = elim (ℕ_discrete (refusal a) 0) [ yes y ↦ y | no n ↦ absurd (refusal_lacks (refusal_number k) a h (number_positive k) (sym (refusal_stop a (check k b ∷ c) n) ∙ e)) ]

  pub refusal_exactly : Exactly (refusal (a ++ check k b ∷ c) ≡ refusal_number k) ((refusal a ≡ 0) × (b ≡ false))
  unfolding refusal checked
  refusal_exactly = (
    λ e. (first e, fails b (sym (refusal_skip a (check k b ∷ c) q (first e)) ∙ e)),
    λ y. refusal_skip a (check k b ∷ c) q y.0 ∙ rw y.1,
  )

-- ---- what the checks of a call lack

pub marks_lack : (k : ℕ) → lacks k (check_mark 0 0) ≡ true → (n : ℕ) (ms : List ℕ) → lacks k (mark_checks n ms) ≡ true
unfolding lacks
marks_lack k h n ms = lacks_join k (check_mark n) (λ m. h) ms

lines_lack : (k : ℕ) → lacks k (check_line []) ≡ true → (n : ℕ) (g : List ℕ) → lacks k (join (map (λ ℓ. check_line (line n g ℓ)) (lines n))) ≡ true
unfolding lacks
lines_lack k h n g = lacks_join k (λ ℓ. check_line (line n g ℓ)) (λ ℓ. h) (lines n)

-- ---- 18: exactly a size that 1 lets pass and that the unit does not take

-- c: the checks behind 18
size_exactly : (u : Unit) (n : ℕ) (c : List Check) → lacks 18 c ≡ true →
    Exactly (refusal (check_size n ∷ check_unit_size u n ∷ c) ≡ 18) ((size_fits n ≡ true) × (takes_size u n ≡ false))
unfolding lacks refusal checked
size_exactly u n c l =
    let e = refusal_exactly SizeLimit (check_size n ∷ []) (takes_size u n) c refl refl l in (
      λ r. let y = e.0 r in ((refusal_none Size (size_fits n) [] y.0).0, y.1),
      λ y. e.1 (rw y.0, y.1),
    )

module _ (u : Unit) where
  pub sums_18 : (n : ℕ) (cells : List ℕ) (rows columns : ℕ) →
      Exactly (refusal (sums_checks u n cells rows columns) ≡ 18) ((size_fits n ≡ true) × (takes_size u n ≡ false))
  unfolding sums_checks lacks
  sums_18 n cells rows columns = size_exactly u n _ (lines_lack 18 refl n cells)

  module _ (p : Puzzle) where
    abbrev Beyond : Type 0
    Beyond = (size_fits p.size ≡ true) × (takes_size u p.size ≡ false)

    pub sheet_18 : (cells : List ℕ) → Exactly (refusal (sheet_checks u p cells) ≡ 18) Beyond
    unfolding sheet_checks lacks
    sheet_18 cells = size_exactly u p.size _ refl

    pub count_18 : (ms : List ℕ) → Exactly (refusal (count_checks u p ms) ≡ 18) Beyond
    unfolding count_checks lacks
    count_18 ms = size_exactly u p.size _ (marks_lack 18 refl p.size ms)

    pub solve_18 : (ms : List ℕ) (len : ℕ) → Exactly (refusal (solve_checks u p ms len) ≡ 18) Beyond
    unfolding solve_checks count_checks lacks
    solve_18 ms len =
        size_exactly u p.size _ (lacks_append 18 (mark_checks p.size ms) (check_buffer p.size len ∷ []) (marks_lack 18 refl p.size ms) refl)

    -- ---- 19: exactly a list that the unit does not take, behind a puzzle that it takes

    pub count_19 : (ms : List ℕ) → Exactly (refusal (count_checks u p ms) ≡ 19) ((refusal (puzzle_checks u p) ≡ 0) × (takes_list u (length ms) ≡ false))
    unfolding count_checks lacks
    count_19 ms = refusal_exactly ListLimit (puzzle_checks u p) (takes_list u (length ms)) (mark_checks p.size ms) refl refl (marks_lack 19 refl p.size ms)

    pub solve_19 : (ms : List ℕ) (len : ℕ) →
        Exactly (refusal (solve_checks u p ms len) ≡ 19) ((refusal (puzzle_checks u p) ≡ 0) × (takes_list u (length ms) ≡ false))
    unfolding solve_checks count_checks lacks
    solve_19 ms len =
        refusal_exactly ListLimit (puzzle_checks u p) (takes_list u (length ms)) (mark_checks p.size ms ++ check_buffer p.size len ∷ []) refl refl
        (lacks_append 19 (mark_checks p.size ms) (check_buffer p.size len ∷ []) (marks_lack 19 refl p.size ms) refl)

-- ---- THE HALL: 18 and 19 may be left out

-- a check that passes where those before it do may be left out
refusal_less : (a : List Check) (k : Refusal) (b : Bool) (c : List Check) → numbered a ≡ true → (refusal a ≡ 0 → b ≡ true) → refusal (a ++ check k b ∷ c) ≡ refusal (a ++ c)
refusal_less a k b c q h =
    elim (ℕ_discrete (refusal a) 0) [
      | yes y ↦ refusal_skip a (check k b ∷ c) q y ∙ refusal_pass k b c (h y) ∙ sym (refusal_skip a c q y)
      | no n ↦ refusal_stop a (check k b ∷ c) n ∙ sym (refusal_stop a c n)
    ]

hall_size : (n : ℕ) (c : List Check) → refusal (check_size n ∷ check_unit_size hall n ∷ c) ≡ refusal (check_size n ∷ c)
unfolding lacks
hall_size n c =
    refusal_less (check_size n ∷ []) SizeLimit (takes_size hall n) c refl (λ e. and_right (leb 2 n) (leb n 9) (refusal_none Size (size_fits n) [] e).0)

-- the checks of a puzzle without units: 1, 2, 3
abbrev pub plain_checks : Puzzle → List Check
plain_checks p = check_size p.size ∷ check_lengths p.size (length p.rows) (length p.columns) ∷ check_targets p.size p.rows p.columns ∷ []

pub hall_sums : (n : ℕ) (cells : List ℕ) (rows columns : ℕ) →
    refusal (sums_checks hall n cells rows columns)
    ≡ refusal ((check_size n ∷ check_buffer n (length cells) ∷ check_lengths n rows columns ∷ []) ++ join (map (λ ℓ. check_line (line n cells ℓ)) (lines n)))
unfolding sums_checks
hall_sums n cells rows columns = hall_size n _

module _ (p : Puzzle) where
  pub hall_puzzle : refusal (puzzle_checks hall p) ≡ refusal (plain_checks p)
  hall_puzzle = hall_size p.size _

  pub hall_sheet : (cells : List ℕ) → refusal (sheet_checks hall p cells) ≡ refusal (plain_checks p ++ check_buffer p.size (length cells) ∷ [])
  unfolding sheet_checks
  hall_sheet cells = hall_size p.size _

  pub hall_count : (ms : List ℕ) → refusal (count_checks hall p ms) ≡ refusal (plain_checks p ++ mark_checks p.size ms)
  unfolding count_checks lacks
  hall_count ms =
      refusal_less (puzzle_checks hall p) ListLimit true (mark_checks p.size ms) refl (λ _. refl) ∙ hall_size p.size _

  pub hall_solve : (ms : List ℕ) (len : ℕ) →
      refusal (solve_checks hall p ms len) ≡ refusal (plain_checks p ++ (mark_checks p.size ms ++ check_buffer p.size len ∷ []))
  unfolding solve_checks count_checks lacks
  hall_solve ms len =
      refusal_less (puzzle_checks hall p) ListLimit true (mark_checks p.size ms ++ check_buffer p.size len ∷ []) refl (λ _. refl) ∙ hall_size p.size _
