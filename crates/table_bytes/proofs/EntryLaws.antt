-- Entries written byte by byte, and how many there are. Assumes nothing.
use Prim.Native.Nat.{ℕ, suc, ◌+◌, ◌*◌, ◌/◌, ◌%◌, ◌<◌}
use mathlib.Core.Path.{◌≡◌, refl, ap₂}
use mathlib.Core.List.{List, [], ◌∷◌}
use native.Mathlib.Omega.{arith}
use native.Mathlib.Decide.{ℕ_discrete}
use lib.ListN.{length, get_or}
use borrow.Author.Tests.{eq-eqb, ne_eqb}
use Rattle.rules.specs.Mark.{marks_of}
use Rattle.table.specs.Table.{entries_of}
use Rattle.table_bytes.specs.Entries.{entry_count}

-- ---- the entries of bytes

marks_ext : (bs es : List ℕ) → length bs ≡ 2 * length es →
    ((j : ℕ) → j < length es → get_or bs (2 * j) 0 * 256 + get_or bs (2 * j + 1) 0 ≡ get_or es j 0) → marks_of bs ≡ es
unfolding marks_of
marks_ext [] [] h e = refl
marks_ext [] (x ∷ es) h e = absurd (omega arith)
marks_ext (a ∷ []) [] h e = absurd (omega arith)
marks_ext (a ∷ []) (x ∷ es) h e = absurd (omega arith)
marks_ext (a ∷ (b ∷ bs)) [] h e = absurd (omega arith)
marks_ext (a ∷ (b ∷ bs)) (x ∷ es) h e =
    ap₂ ◌∷◌ (e 0 (omega arith)) (marks_ext bs es (omega arith) (λ j l.
    let p : 2 * suc j ≡ suc (suc (2 * j)) = omega arith in
    let q : suc (suc (2 * j)) + 1 ≡ suc (suc (2 * j + 1)) = omega arith in
    rw (p, q) at (e (suc j) (omega arith))))

marks_length : (bs : List ℕ) → length bs % 2 ≡ 0 → length (marks_of bs) ≡ length bs / 2
unfolding marks_of
marks_length [] e = refl
marks_length (a ∷ []) e = absurd (omega arith)
marks_length (a ∷ (b ∷ bs)) e = omega (arith, marks_length bs (omega arith))

pub entries_are : (bs es : List ℕ) → length bs ≡ 2 * length es →
    ((j : ℕ) → j < length es → get_or bs (2 * j) 0 * 256 + get_or bs (2 * j + 1) 0 ≡ get_or es j 0) → entries_of bs ≡ es
unfolding entries_of
entries_are bs es e h = rw (eq-eqb (length bs % 2) 0 (omega arith)) (marks_ext bs es e h)

-- ---- room

pub count_even : (len : ℕ) → len % 2 ≡ 0 → len / 2 ≡ entry_count len
count_even len e = rw (eq-eqb (len % 2) 0 e)

pub count_odd : (len : ℕ) → (len % 2 ≡ 0 → ⊥) → 0 ≡ entry_count len
count_odd len e = rw (ne_eqb (len % 2) 0 e)

pub entries_length : (bs : List ℕ) → length (entries_of bs) ≡ entry_count (length bs)
unfolding entries_of
entries_length bs =
    elim (ℕ_discrete (length bs % 2) 0) [
      | yes z ↦ rw (eq-eqb (length bs % 2) 0 z) (marks_length bs z)
      | no z ↦ rw (ne_eqb (length bs % 2) 0 z)
    ]

-- a list with entries has two bytes for each
pub entries_bytes : (bs : List ℕ) → 0 < length (entries_of bs) → length bs ≡ 2 * length (entries_of bs)
entries_bytes bs h =
    elim (ℕ_discrete (length bs % 2) 0) [
      | yes z ↦ let e = count_even (length bs) z in omega (arith, entries_length bs)
      | no z ↦ let e = count_odd (length bs) z in absurd (omega (arith, entries_length bs))
    ]
