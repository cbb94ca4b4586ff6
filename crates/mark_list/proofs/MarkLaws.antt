-- The marks of a list of bytes, one after the other, and their checks. Assumes nothing.
use Prim.Native.Nat.{ℕ, zero, suc, ◌+◌, ◌*◌, ◌%◌, ◌≤◌, ◌<◌}
use mathlib.Core.Path.{◌≡◌, refl, sym, ap, ◌∙◌}
use mathlib.Core.Bool.{Bool, true, false, cond}
use mathlib.Core.List.{List, [], ◌∷◌, ◌++◌}
use native.Mathlib.Omega.{arith}
use native.Mathlib.Decide.{dec_lt}
use native.Mathlib.Nat.{not-suc-le-zero}
use lib.ListN.{length, get_or, drop, drop_of_length-le}
use lib.Seq.{drop-cons}
use borrow.Author.Tests.{eq-eqb, ne_eqb, lt-ltb, le-ltb}
use Rattle.tally.specs.Tally.{join}
use Rattle.std.specs.Prelude.{⊤, Result, Ok, Err}
use Rattle.refusal.specs.declared.Refusal.{Refusal}
use Rattle.refusal.specs.declared.Refusal.TheVariants.{MarkSpare, MarkPlace, MarkValue, ListLimit}
use Rattle.units.specs.declared.Unit.{Unit}
use Rattle.units.specs.Limits.{takes_list}
use Rattle.rules.specs.Mark.{mark_row, mark_column, mark_value, marks_of}
use Rattle.rules.specs.Check.{checked, named, check_mark}
use Rattle.rules.specs.CheckParts.{mark_checks, list_checks}
use Rattle.rules.proofs.CheckLaws.{lacks, numbered, checked_skip, checked_stop}
use Rattle.mark_list.specs.declared.Mark.{Mark}
use Rattle.mark_list.specs.Unpacked.{unpacked, word_at}

-- ---- the list

pub get_or_past : (l : List ℕ) (k d : ℕ) → length l ≤ k → get_or l k d ≡ d
get_or_past [] k d h = refl
get_or_past (x ∷ l) zero d h = absurd (omega arith)
get_or_past (x ∷ l) (suc k) d h = get_or_past l k d (omega arith)

get_or_default : (l : List ℕ) (k d e : ℕ) → k < length l → get_or l k d ≡ get_or l k e
get_or_default [] k d e h = absurd (not-suc-le-zero h)
get_or_default (x ∷ l) zero d e h = refl
get_or_default (x ∷ l) (suc k) d e h = get_or_default l k d e (omega arith)

-- what is left of the marks from mark i on
pub marks_next : (bs : List ℕ) (i : ℕ) → 2 * i < length bs → marks_of (drop (2 * i) bs) ≡ word_at bs i ∷ marks_of (drop (2 * (i + 1)) bs)
unfolding marks_of
marks_next bs i h =
    let one : suc (2 * i) ≡ 2 * i + 1 = omega arith in
    let two : suc (2 * i + 1) ≡ 2 * (i + 1) = omega arith in
    let first : drop (2 * i) bs ≡ get_or bs (2 * i) 0 ∷ drop (2 * i + 1) bs = drop-cons bs (2 * i) 0 h ∙ ap (λ (k : ℕ). get_or bs (2 * i) 0 ∷ drop k bs) one in
    elim (dec_lt (2 * i + 1) (length bs)) [
      | yes l ↦
          let second : drop (2 * i + 1) bs ≡ get_or bs (2 * i + 1) 7 ∷ drop (2 * (i + 1)) bs =
          drop-cons bs (2 * i + 1) 7 l ∙ ap (λ (k : ℕ). get_or bs (2 * i + 1) 7 ∷ drop k bs) two in
          ap marks_of (first ∙ ap (λ (t : List ℕ). get_or bs (2 * i) 0 ∷ t) second)
      | no l ↦
          let past : length bs ≤ 2 * i + 1 = omega arith in
          let further : length bs ≤ 2 * (i + 1) = omega arith in
          let short = drop_of_length-le bs past in
          let gone = drop_of_length-le bs further in
          let seven = get_or_past bs (2 * i + 1) 7 (omega arith) in
          ap marks_of (first ∙ ap (λ (t : List ℕ). get_or bs (2 * i) 0 ∷ t) short) ∙ rw (gone, seven)
    ]

pub marks_end : (bs : List ℕ) (i : ℕ) → length bs ≤ 2 * i → marks_of (drop (2 * i) bs) ≡ []
unfolding marks_of
marks_end bs i h = rw (drop_of_length-le bs h)

-- the word of a whole mark and of half a mark
pub word_whole : (bs : List ℕ) (i : ℕ) → 2 * i + 1 < length bs → get_or bs (2 * i) 0 * 256 + get_or bs (2 * i + 1) 0 ≡ word_at bs i
word_whole bs i h = ap (λ x. get_or bs (2 * i) 0 * 256 + x) (get_or_default bs (2 * i + 1) 0 7 h)

pub word_half : (bs : List ℕ) (i : ℕ) → length bs ≤ 2 * i + 1 → get_or bs (2 * i) 0 * 256 + 7 ≡ word_at bs i
word_half bs i h = ap (λ x. get_or bs (2 * i) 0 * 256 + x) (sym (get_or_past bs (2 * i + 1) 7 h))

-- ---- the checks of one mark, as the code has its fields

module _ (n w : ℕ) (m : Mark) (u : m ≡ unpacked w) where
  row_is : m.candidate.row ≡ mark_row w
  row_is = ap (λ (x : Mark). x.candidate.row) u

  column_is : m.candidate.column ≡ mark_column w
  column_is = ap (λ (x : Mark). x.candidate.column) u

  value_is : m.candidate.value ≡ mark_value w
  value_is = ap (λ (x : Mark). x.candidate.value) u

  pub mark_5_row : w % 8 ≡ 0 → n ≤ m.candidate.row → Err MarkPlace ≡ checked (check_mark n w)
  unfolding checked
  mark_5_row h r = rw (eq-eqb (w % 8) 0 h, le-ltb (mark_row w) n (omega (arith, row_is)))

  pub mark_5_column : w % 8 ≡ 0 → m.candidate.row < n → n ≤ m.candidate.column → Err MarkPlace ≡ checked (check_mark n w)
  unfolding checked
  mark_5_column h r c = rw (eq-eqb (w % 8) 0 h, lt-ltb (mark_row w) n (omega (arith, row_is)), le-ltb (mark_column w) n (omega (arith, column_is)))

  module _ (h : w % 8 ≡ 0) (r : m.candidate.row < n) (c : m.candidate.column < n) (b : Bool) (e : b ≡ named n m.candidate.value) where
    last : checked (check_mark n w) ≡ cond b (Ok tt) (Err MarkValue)
    unfolding checked
    last = rw (eq-eqb (w % 8) 0 h, lt-ltb (mark_row w) n (omega (arith, row_is)), lt-ltb (mark_column w) n (omega (arith, column_is)), ← value_is, ← e)

    pub mark_0 : b ≡ true → Ok tt ≡ checked (check_mark n w)
    mark_0 t = sym (last ∙ rw t)

    pub mark_6 : b ≡ false → Err MarkValue ≡ checked (check_mark n w)
    mark_6 t = sym (last ∙ rw t)

pub mark_4 : (n w : ℕ) → (w % 8 ≡ 0 → ⊥) → Err MarkSpare ≡ checked (check_mark n w)
unfolding checked
mark_4 n w h = rw (ne_eqb (w % 8) 0 h)

pub mark_numbered : (n m : ℕ) → numbered (check_mark n m) ≡ true
unfolding lacks
mark_numbered n m = refl

-- ---- the checks of a list

module _ (n : ℕ) (bs : List ℕ) (i : ℕ) where
  abbrev ahead : ℕ → Result ⊤ Refusal
  ahead j = checked (mark_checks n (marks_of (drop (2 * j) bs)))

  split : 2 * i < length bs → ahead i ≡ checked (check_mark n (word_at bs i) ++ mark_checks n (marks_of (drop (2 * (i + 1)) bs)))
  unfolding join
  split h = rw (marks_next bs i h)

  pub list_stop : 2 * i < length bs → (k : Refusal) → Err k ≡ checked (check_mark n (word_at bs i)) → ahead i ≡ Err k
  list_stop h k e = split h ∙ checked_stop (check_mark n (word_at bs i)) _ k (sym e)

  pub list_skip : 2 * i < length bs → Ok tt ≡ checked (check_mark n (word_at bs i)) → ahead i ≡ ahead (i + 1)
  list_skip h e = split h ∙ checked_skip (check_mark n (word_at bs i)) _ (sym e)

pub list_end : (n : ℕ) (bs : List ℕ) (i : ℕ) → length bs ≤ 2 * i → checked (mark_checks n (marks_of (drop (2 * i) bs))) ≡ Ok tt
unfolding join checked
list_end n bs i h = rw (marks_end bs i h)

-- ---- the length of a list

-- as many marks as the code counts
pub marks_length : (bs : List ℕ) (count : ℕ) → length bs ≤ 2 * count → 2 * count ≤ length bs + 1 → length (marks_of bs) ≡ count
unfolding marks_of
marks_length [] count a b = omega arith
marks_length (x ∷ []) count a b = omega arith
marks_length (x ∷ (y ∷ bs)) zero a b = absurd (omega arith)
marks_length (x ∷ (y ∷ bs)) (suc count) a b = let e = marks_length bs count (omega arith) (omega arith) in omega arith

module _ (u : Unit) (n : ℕ) (bs : List ℕ) (count : ℕ) (a : length bs ≤ 2 * count) (b : 2 * count ≤ length bs + 1) where
  pub list_19 : takes_list u count ≡ false → Err ListLimit ≡ checked (list_checks u n (marks_of bs))
  unfolding checked
  list_19 t = rw (marks_length bs count a b, t)

  pub list_marks : (r : Result ⊤ Refusal) → r ≡ checked (mark_checks n (marks_of bs)) → takes_list u count ≡ true → r ≡ checked (list_checks u n (marks_of bs))
  unfolding checked
  list_marks r d t = rw (marks_length bs count a b, t) d
