-- The value of a field, digit by digit. Assumes nothing.
use Rattle.std.proofs.Common.{ℕ, ◌+◌, ◌-◌, ◌*◌, ◌≤◌, ◌<◌, ◌≡◌, ◌⊎◌, inl, inr, refl, sym, ◌∙◌, Bool, true, false, ◌&&◌, List, [], ◌∷◌, length, get_or, drop, Some, None, Result, Ok, Err, OkIff, ap, arith, add-one}
use lib.ListN.{drop_of_length-le}
use lib.Seq.{drop-cons}
use borrow.Author.Tests.{eq-eqb, ne_eqb, le-leb, lt-leb}
use Rattle.std.specs.Bool.{then_some}
use Rattle.std.specs.Result.{result_ok}
use Rattle.tally.specs.Tally.{all}
use Rattle.text_rules.specs.Fields.{is_digit, value_from, value, is_decimal, shaped}
use Rattle.text_numbers.specs.Read.{value_if}

-- one digit more does not make it less
value_least : (v : ℕ) (f : List ℕ) → v ≤ value_from v f
unfolding value_from
value_least v [] = omega arith
value_least v (b ∷ f) = omega (arith, value_least (v * 10 + (b - 48)) f)

-- a value that is above 255 stays so
value_above : (v : ℕ) (f : List ℕ) → 255 < v → value_if v f ≡ None
unfolding value_if
value_above v f h = rw (lt-leb (value_from v f) 255 (omega (arith, value_least v f))) (neither (all is_digit f))
  where
    neither : (t : Bool) → then_some (t && false) (value_from v f) ≡ None
    neither true = refl
    neither false = refl

-- A number below 256 is a byte.
pub byte_ok : {E : Type 0} (r : Result ℕ E) (v : ℕ) → OkIff r (v < 256) v → v < 256 → result_ok r ≡ Some v
byte_ok (Ok x) v o h = ap Some o.1
byte_ok (Err e) v o h = absurd (o h)

-- The digits in front of a place have the value v.
pub record Valued (f : List ℕ) (v i : ℕ) : Type 0 where
  pub small : v < 256
  pub same : value_if v (drop i f) ≡ value_if 0 f

module _ {f : List ℕ} {v i : ℕ} (w : Valued f v i) where
  pub valued_end : length f ≤ i → Some v ≡ value_if 0 f
  unfolding value_if value_from all
  valued_end h = sym (sym w.same ∙ rw (drop_of_length-le f {i = i} h, le-leb v 255 (omega (arith, w.small))))

  module _ (h : i < length f) where
    pub valued_other : (get_or f i 0 < 48) ⊎ (57 < get_or f i 0) → None ≡ value_if 0 f
    unfolding value_if all is_digit
    valued_other (inl l) = sym (sym w.same ∙ rw (drop-cons f i 0 h, lt-leb 48 (get_or f i 0) l))
    valued_other (inr l) = sym (sym w.same ∙ rw (drop-cons f i 0 h, le-leb 48 (get_or f i 0) (omega arith), lt-leb (get_or f i 0) 57 l))

    module _ (d : (48 ≤ get_or f i 0) × (get_or f i 0 ≤ 57)) where
      next : value_if (v * 10 + (get_or f i 0 - 48)) (drop (i + 1) f) ≡ value_if 0 f
      unfolding value_if value_from all is_digit
      next = sym (sym w.same ∙ rw (drop-cons f i 0 h, add-one i, le-leb 48 (get_or f i 0) d.0, le-leb (get_or f i 0) 57 d.1))

      pub valued_above : 255 < v * 10 + (get_or f i 0 - 48) → None ≡ value_if 0 f
      valued_above q = sym (value_above _ (drop (i + 1) f) q) ∙ next

      pub valued_next : (u : ℕ) → u ≡ v * 10 + (get_or f i 0 - 48) → u < 256 → Valued f u (i + 1)
      valued_next u e q = record { small = q; same = rw e next }

-- ---- a decimal

pub decimal_none : (f : List ℕ) → length f < 1 → None ≡ then_some (is_decimal f) (value f)
unfolding is_decimal shaped
decimal_none [] h = refl
decimal_none (b ∷ f) h = absurd (omega arith)

pub decimal_zero : (f : List ℕ) → 2 ≤ length f → get_or f 0 0 ≡ 48 → None ≡ then_some (is_decimal f) (value f)
unfolding is_decimal shaped
decimal_zero [] h e = refl
decimal_zero (b ∷ []) h e = absurd (omega arith)
decimal_zero (b ∷ (c ∷ f)) h e = rw (eq-eqb b 48 e)

pub decimal_one : (f : List ℕ) → 1 ≤ length f → length f < 2 → value_if 0 f ≡ then_some (is_decimal f) (value f)
unfolding value_if is_decimal shaped
decimal_one [] h g = absurd (omega arith)
decimal_one (b ∷ []) h g = refl
decimal_one (b ∷ (c ∷ f)) h g = absurd (omega arith)

pub decimal_more : (f : List ℕ) → 2 ≤ length f → (get_or f 0 0 ≡ 48 → ⊥) → value_if 0 f ≡ then_some (is_decimal f) (value f)
unfolding value_if is_decimal shaped
decimal_more [] h n = absurd (omega arith)
decimal_more (b ∷ []) h n = absurd (omega arith)
decimal_more (b ∷ (c ∷ f)) h n = rw (ne_eqb b 48 n)
