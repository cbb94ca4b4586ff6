-- Laws of the fields of a record. Assumes nothing.
use Rattle.std.proofs.Common.{ℕ, zero, suc, ◌+◌, ◌*◌, ◌≤◌, ◌<◌, ◌≡◌, inl, inr, sym, subst, ap, ◌∙◌, Bool, true, false, List, [], ◌∷◌, length, get_or, Option, Some, None, Bor, arith, rules, add-one}
use lib.Dec.{ltb, leb, eqb}
use borrow.Author.Tests.{lt-ltb, le-leb, lt-leb, leb-true}
use Rattle.std.specs.Int.{w64, from_be_bytes}
use Rattle.std.specs.Bool.{then_some}
use Rattle.std.specs.Option.{MatchOption, unwrap_or}
use Rattle.std.specs.Slice.{IsGetRangeResult}
use Rattle.std.proofs.lemmas.Slice.Eq.{text_from_reads}
use Rattle.tally.proofs.TallyLaws.{and_left, and_right}
use Rattle.record_fields.specs.declared.Call.{Call}
use Rattle.record_fields.specs.declared.Call.TheVariants.{TargetSums, MarkSheet, Candidates, Count, Solve, LineCheck}
use Rattle.record_fields.specs.Calls.{tag_of}
use Rattle.record_fields.specs.Fields.{field_start, slice, field, tag, field_count, record_length, readable, number_from}

module _ (xs : List ℕ) where
  -- The next field begins where a field ends.
  pub start_next :
      (i at high low : ℕ) → at ≡ field_start xs i → high ≡ get_or xs at 0 → low ≡ get_or xs (at + 1) 0
      → at + (2 + (high * 256 + low)) ≡ field_start xs (i + 1)
  unfolding field_start
  start_next i at high low a h l =
      let e : field_start xs (suc i) ≡ at + 2 + high * 256 + low = rw (← a, ← h, ← l) in rw (add-one i) (omega arith)

  -- A field's content begins before the next field does.
  start_content : (k : ℕ) → field_start xs k + 2 ≤ field_start xs (k + 1)
  unfolding field_start
  start_content k = rw (add-one k) (omega arith)

  pub start_positive : (k : ℕ) → 0 < field_start xs k
  unfolding field_start
  start_positive zero = omega arith
  start_positive (suc k) = omega (arith, start_positive k)

  -- What is got from the list is the field, and where nothing is got the field is not whole.
  pub field_got :
      (k start end : ℕ) (r : Option (Bor (List ℕ))) (none : Bor (List ℕ)) → start ≡ field_start xs k → end ≡ field_start xs (k + 1)
      → IsGetRangeResult xs (start + 2) end r → none.now ≡ [] → (unwrap_or r none).now ≡ field xs k
  unfolding slice
  field_got k start end None none s e (inl h, _) n = absurd (omega (arith, start_content k))
  field_got k start end None none s e (inr h, _) n =
      let f : leb (field_start xs (k + 1)) (length xs) ≡ false = lt-leb (field_start xs (k + 1)) (length xs) (omega arith) in simp f n
  field_got k start end (Some x) none s e (h, _) n =
      let f : leb (field_start xs (k + 1)) (length xs) ≡ true = le-leb (field_start xs (k + 1)) (length xs) (omega (arith, h.1)) in simp (f, ← s, ← e) h.2

  pub unreadable : field_count (tag xs) ≡ 0 → readable xs ≡ false
  unfolding readable
  unreadable e = rw e

  known : (call : Call) → 0 < field_count (tag_of call)
  unfolding field_count
  known TargetSums = omega arith
  known MarkSheet = omega arith
  known Candidates = omega arith
  known Count = omega arith
  known Solve = omega arith
  known LineCheck = omega arith

  -- The record ends here, by the call that has its tag.
  module _ (call : Call) (e : tag_of call ≡ tag xs) (count end : ℕ) (is-count : count ≡ field_count (tag_of call)) (is-end : end ≡ field_start xs count) where
    known_tag : ltb 0 (field_count (tag xs)) ≡ true
    known_tag = lt-ltb 0 (field_count (tag xs)) (subst (λ t. 0 < field_count t) e (known call))

    ends : end ≡ record_length xs
    ends = is-end ∙ ap (field_start xs) (is-count ∙ ap field_count e)

    pub unreadable_end : length xs < end → leb end (length xs) ≡ readable xs
    unfolding readable
    unreadable_end h = rw (known_tag, ← ends, lt-leb end (length xs) h)

    pub readable_whole : (f : List ℕ) → f ≡ field xs 0 → end ≤ length xs → eqb (length f) 1 ≡ readable xs
    unfolding readable
    readable_whole f is_field h = rw (known_tag, ← ends, le-leb end (length xs) h, is_field)

-- What is found where a test says whether the record can be read.
pub found_by :
    (xs : List ℕ) (call : Call) (test : Bool) → tag_of call ≡ tag xs → test ≡ readable xs
    → MatchOption (then_some test call) (readable xs ≡ false) (λ c. (readable xs ≡ true) × (tag_of c ≡ tag xs))
found_by xs call true e r = (sym r, e)
found_by xs call false e r = sym r

-- A record that can be read lies within the list.
pub readable_within : (xs : List ℕ) → readable xs ≡ true → record_length xs ≤ length xs
unfolding readable
readable_within xs e = leb-true (record_length xs) (length xs) (and_left _ _ (and_right (ltb 0 (field_count (tag xs))) _ e))

-- Eight bytes are the number that they are for the machine.
pub number_of_eight : (bs : List ℕ) → length bs ≡ 8 → number_from 0 bs ≡ from_be_bytes w64 bs
unfolding number_from
number_of_eight bs h =
    let b : ℕ → ℕ = λ i. get_or bs i 0 in
    let e : bs ≡ b 0 ∷ (b 1 ∷ (b 2 ∷ (b 3 ∷ (b 4 ∷ (b 5 ∷ (b 6 ∷ (b 7 ∷ []))))))) = text_from_reads _ _ h (search rules) in
    subst (λ l. number_from 0 l ≡ from_be_bytes w64 l) (sym e) (omega arith)
