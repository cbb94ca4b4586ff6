-- Raising the supports of a line, one after the other. Assumes nothing.
use Prim.Native.Nat.{ℕ, suc, ◌+◌, ◌-◌, ◌*◌, ◌^◌, min, ◌≤◌, ◌<◌}
use mathlib.Core.Path.{◌≡◌, refl, sym, ◌∙◌}
use mathlib.Core.List.{List}
use native.Mathlib.Omega.{arith}
use native.Mathlib.Nat.{lt_of_lt_of_le}
use native.Mathlib.Decide.{ℕ_discrete, dec_lt}
use lib.ListN.{set, length-set}
use lib.Seq.{get_or-set_same, get_or-set_other}
use lib.Pow.{pow_mono, shr_lt}
use Rattle.bits.specs.Bit.{bit}
use Rattle.bits.proofs.BitLaws.{bit_lt, bit_none}
use Rattle.value.specs.Mask.{LowestOf}
use Rattle.value.proofs.LowestLaws.{rest_without, rest_keeps}
use Rattle.bits.specs.Sum.{same}
use Rattle.bits.proofs.SumLaws.{same_yes, same_no}
use Rattle.lane.specs.declared.Lane.{Lane}
use Rattle.arcs.proofs.KillLaws.{black_low, black_high}
use Rattle.words.specs.Word.{set_of, inner_of, first_of, second_of, part}
use Rattle.words.proofs.PatternLaws.{part_digit, part_first, part_second, part_other, first_in, second_in}
use Rattle.arcs.specs.Arc.{support}
use Rattle.queue_state.specs.Layout.{support_place}
use Rattle.arrangements.specs.declared.Arrangement.{Arrangement}
use Rattle.listing.specs.Listing.{Raised, one_at, digits_at, inner_at, RaiseAsk, WordAsk}

same_lt : (a b : ℕ) → same a b < 2
same_lt a b = elim (ℕ_discrete a b) [ yes e ↦ omega (arith, same_yes a b e) | no e ↦ omega (arith, same_no a b e) ]

-- at one value, only the place counts
same_place : (f p k v : ℕ) → v ≡ k → same (p * 16 + v) (f * 16 + k) ≡ same f p
same_place f p k v e =
    elim (ℕ_discrete f p) [
      | yes d ↦ same_yes (p * 16 + v) (f * 16 + k) (omega arith) ∙ sym (same_yes f p d)
      | no d ↦ same_no (p * 16 + v) (f * 16 + k) (λ x. d (omega arith)) ∙ sym (same_no f p d)
    ]

-- ---- one after the other

pub raised_none : (ℓ : ℕ) (l : List ℕ) (f : ℕ → ℕ → ℕ) → ((p v : ℕ) → p < 9 → v < 16 → f p v ≡ 0) → Raised ℓ l l f
raised_none ℓ l f e = record { size = refl; supports = λ p v h k. omega (arith, e p v h k); rest = λ q h. refl }

pub raised_both : {ℓ : ℕ} {a b c : List ℕ} {f g : ℕ → ℕ → ℕ} (d : ℕ → ℕ → ℕ) → Raised ℓ a b f → Raised ℓ b c g →
    ((p v : ℕ) → p < 9 → v < 16 → d p v ≡ f p v + g p v) → Raised ℓ a c d
raised_both d r s e =
    record {
      size = s.size ∙ r.size;
      supports = λ p v h k. omega (arith, r.supports p v h k, s.supports p v h k, e p v h k);
      rest = λ q h. s.rest q h ∙ r.rest q h;
    }

-- one support, as the code raises it
pub raise_done : (l : List ℕ) (ℓ p v : ℕ) → ℓ < 18 → RaiseAsk ℓ p v l → Raised ℓ l (set l (support_place (ℓ * 9 + p) v) (support l (ℓ * 9 + p) v + 1)) (one_at p v)
unfolding one_at
raise_done l ℓ p v line a =
    record {
      size = length-set l _ _;
      supports = λ q w h k. at q w h k (ℕ_discrete (q * 16 + w) (p * 16 + v));
      rest = λ q h. get_or-set_other l _ q _ 0 (h p v a.place a.value);
    }
  where
    at : (q w : ℕ) → q < 9 → w < 16 → Dec (q * 16 + w ≡ p * 16 + v) →
        support (set l (support_place (ℓ * 9 + p) v) (support l (ℓ * 9 + p) v + 1)) (ℓ * 9 + q) w ≡ support l (ℓ * 9 + q) w + same (q * 16 + w) (p * 16 + v)
    at q w h k (yes e) =
        let eq : q ≡ p = omega (arith, a.value) in
        let ew : w ≡ v = omega (arith, a.value) in
        rw (eq, ew) (get_or-set_same l _ _ 0 (omega (arith, a.long, line, a.place, a.value)) ∙ omega (arith, same_yes (p * 16 + v) (p * 16 + v) refl))
    at q w h k (no e) =
        get_or-set_other l _ (support_place (ℓ * 9 + q) w) _ 0 (λ d. e (omega arith)) ∙ omega (arith, same_no (q * 16 + w) (p * 16 + v) e)

-- ---- the digits of a set at one place

pub record Digits (ℓ p set rest : ℕ) (l₀ l : List ℕ) : Type 0 where
  pub can : (v : ℕ) → v < 16 → RaiseAsk ℓ p v l₀
  pub within : (v : ℕ) → bit v rest ≤ bit v set
  pub raised : Raised ℓ l₀ l (λ q w. min (same q p) (bit w set - bit w rest))

module _ {ℓ p set rest digit rest' : ℕ} {l₀ l : List ℕ} (d : Digits ℓ p set rest l₀ l) (b : LowestOf rest digit rest') where
  pub digits_can : RaiseAsk ℓ p digit l
  digits_can =
      let a = d.can digit b.value in
      let r = d.raised.supports p digit a.place b.value in
      record {
        long = d.raised.size ∙ a.long;
        place = a.place;
        value = a.value;
        low = omega (arith, a.low, b.here, bit_lt digit set);
      }

  pub digits_next : {l' : List ℕ} → Raised ℓ l l' (one_at p digit) → Digits ℓ p set rest' l₀ l'
  unfolding one_at
  digits_next {l'} r =
      record {
        can = d.can;
        within = λ w. within w (ℕ_discrete w digit);
        raised = raised_both _ d.raised r (λ q w h k. sums q w h k (ℕ_discrete w digit) (ℕ_discrete q p));
      }
    where
      within : (w : ℕ) → Dec (w ≡ digit) → bit w rest' ≤ bit w set
      within w (yes e) = rw e (omega (arith, rest_without b))
      within w (no e) = omega (arith, rest_keeps b w e, d.within w)

      sums : (q w : ℕ) → q < 9 → w < 16 → Dec (w ≡ digit) → Dec (q ≡ p) →
          min (same q p) (bit w set - bit w rest') ≡ min (same q p) (bit w set - bit w rest) + same (q * 16 + w) (p * 16 + digit)
      sums q w h k (yes e) (yes f) =
          let a : bit w rest' ≡ 0 = rw e (rest_without b) in
          let g : bit w rest ≡ 1 = rw e b.here in
          omega (arith, same_yes q p f, same_yes (q * 16 + w) (p * 16 + digit) (omega arith), d.within w, bit_lt w set)
      sums q w h k (yes e) (no f) = omega (arith, same_no q p f, same_no (q * 16 + w) (p * 16 + digit) (λ x. f (omega arith)))
      sums q w h k (no e) f =
          let a = rest_keeps b w e in
          rw a (omega (arith, same_no (q * 16 + w) (p * 16 + digit) (λ x. e (omega (arith, b.value)))))

pub digits_end : {ℓ p set rest : ℕ} {l₀ l : List ℕ} → Digits ℓ p set rest l₀ l → rest ≡ 0 → Raised ℓ l₀ l (digits_at p set)
unfolding digits_at
digits_end {set = set} {rest = rest} d e =
    record {
      size = d.raised.size;
      supports = λ q w h k. let z : bit w rest ≡ 0 = rw e (bit_none w) in rw z at (d.raised.supports q w h k) ∙ omega arith;
      rest = d.raised.rest;
    }

-- ---- the digits of a word at its inner places

-- a number of m bits has none from m on
bit_past : (v m x : ℕ) → x < 2 ^ m → m ≤ v → bit v x ≡ 0
unfolding bit
bit_past v m x h k = let e : 0 + v ≡ v = omega arith in omega (arith, shr_lt {n = x} 0 v (rw e (lt_of_lt_of_le h (pow_mono k))))

pub record Inner (ℓ w rest : ℕ) (l₀ l : List ℕ) : Type 0 where
  pub can : (p v : ℕ) → p < 9 → v < 16 → RaiseAsk ℓ p v l₀
  pub within : (p : ℕ) → bit p rest ≤ bit p (inner_of w)
  pub raised : Raised ℓ l₀ l (λ p v. min (bit v (set_of w)) (bit p (inner_of w) - bit p rest))

module _ {ℓ w rest p rest' : ℕ} {l₀ l : List ℕ} (d : Inner ℓ w rest l₀ l) (b : LowestOf rest p rest') where
  among : p < 9
  among =
      elim (dec_lt p 9) [
        | yes h ↦ h
        | no h ↦ absurd (omega (arith, b.here, d.within p, bit_past p 9 (inner_of w) (omega arith) (omega arith)))
      ]

  pub inner_can : (v : ℕ) → v < 16 → RaiseAsk ℓ p v l
  inner_can v h =
      let a = d.can p v among h in
      record {
        long = d.raised.size ∙ a.long;
        place = a.place;
        value = a.value;
        low = omega (arith, a.low, d.raised.supports p v among h, b.here, bit_lt p (inner_of w));
      }

  pub inner_next : {l' : List ℕ} (set : ℕ) → set ≡ set_of w → Raised ℓ l l' (digits_at p set) → Inner ℓ w rest' l₀ l'
  unfolding digits_at
  inner_next {l'} set e r =
      record {
        can = d.can;
        within = λ q. within q (ℕ_discrete q p);
        raised = raised_both _ d.raised r (λ q v h k. sums q v (ℕ_discrete q p));
      }
    where
      within : (q : ℕ) → Dec (q ≡ p) → bit q rest' ≤ bit q (inner_of w)
      within q (yes f) = rw f (omega (arith, rest_without b))
      within q (no f) = omega (arith, rest_keeps b q f, d.within q)

      sums : (q v : ℕ) → Dec (q ≡ p) →
          min (bit v (set_of w)) (bit q (inner_of w) - bit q rest') ≡ min (bit v (set_of w)) (bit q (inner_of w) - bit q rest) + min (same q p) (bit v set)
      sums q v (yes f) =
          let a : bit q rest' ≡ 0 = rw f (rest_without b) in
          let g : bit q rest ≡ 1 = rw f b.here in
          rw e (omega (arith, same_yes q p f, d.within q, bit_lt q (inner_of w), bit_lt v (set_of w)))
      sums q v (no f) = rw (rest_keeps b q f) (omega (arith, same_no q p f))

pub inner_end : {ℓ w rest : ℕ} {l₀ l : List ℕ} → Inner ℓ w rest l₀ l → rest ≡ 0 → Raised ℓ l₀ l (inner_at w)
inner_end {w = w} {rest = rest} d e =
    record {
      size = d.raised.size;
      supports = λ p v h k. let z : bit p rest ≡ 0 = rw e (bit_none p) in rw z at (d.raised.supports p v h k) ∙ omega arith;
      rest = d.raised.rest;
    }

-- ---- the pattern of a word

-- x and y are the places of its blacks
module _ (arrangement : Arrangement) {l : List ℕ} (a : WordAsk arrangement.lane arrangement.word l)
    (x y : ℕ) (ex : x ≡ first_of arrangement.word) (ey : y ≡ second_of arrangement.word) where
  abbrev lane : Lane
  lane = arrangement.lane

  abbrev w : ℕ
  w = arrangement.word

  abbrev n : ℕ
  n = lane.len

  abbrev ℓ : ℕ
  ℓ = lane.number

  abbrev k : ℕ
  k = lane.first

  black_from : 8 ≤ k
  black_from = omega (arith, lane.black, black_low ℓ)

  black_to : k < 15
  black_to = omega (arith, lane.black, black_high ℓ)

  first_fits : x < 9
  first_fits = omega (arith, first_in n k w arrangement.shaped black_from, arrangement.fits.high)

  second_fits : y < 9
  second_fits = omega (arith, second_in n k w arrangement.shaped black_from, arrangement.fits.high)

  pub word_first : RaiseAsk ℓ x k l
  word_first =
      record {
        long = a.long;
        place = first_fits;
        value = omega (arith, black_to);
        low = omega (arith, a.low x k first_fits (omega (arith, black_to)));
      }

  pub word_second : {l₁ : List ℕ} → Raised ℓ l l₁ (one_at x k) → RaiseAsk ℓ y (k + 1) l₁
  unfolding one_at
  word_second r =
      record {
        long = r.size ∙ a.long;
        place = second_fits;
        value = omega (arith, black_to);
        low =
            omega (
              arith,
              r.supports y (k + 1) second_fits (omega (arith, black_to)),
              a.low y (k + 1) second_fits (omega (arith, black_to)),
              same_no (y * 16 + (k + 1)) (x * 16 + k) (λ e. omega (arith, black_to)),
            );
      }

  pub word_inner : {l₁ l₂ : List ℕ} → Raised ℓ l l₁ (one_at x k) → Raised ℓ l₁ l₂ (one_at y (k + 1)) → (p v : ℕ) → p < 9 → v < 16 → RaiseAsk ℓ p v l₂
  unfolding one_at
  word_inner r s p v g b =
      record {
        long = s.size ∙ r.size ∙ a.long;
        place = g;
        value = b;
        low =
            omega (arith, r.supports p v g b, s.supports p v g b, a.low p v g b, same_lt (p * 16 + v) (x * 16 + k), same_lt (p * 16 + v) (y * 16 + (k + 1)));
      }

  pub word_raised : {l₁ l₂ l₃ : List ℕ} → Raised ℓ l l₁ (one_at x k) → Raised ℓ l₁ l₂ (one_at y (k + 1)) → Raised ℓ l₂ l₃ (inner_at w) →
      Raised ℓ l l₃ (part k w)
  unfolding one_at
  word_raised r s t =
      raised_both (part k w) (raised_both (λ p v. one_at x k p v + one_at y (k + 1) p v) r s (λ p v _ _. refl)) t
      (λ p v h b. rw (ex, ey) (sums p v h b (dec_lt v 8)))
    where
      blacks : (p v : ℕ) → p < 9 → 8 ≤ v → v < 16 → Dec (v ≡ k) → Dec (v ≡ suc k) →
          part k w p v ≡ same (p * 16 + v) (first_of w * 16 + k) + same (p * 16 + v) (second_of w * 16 + (k + 1))
      blacks p v h c b (yes d) e =
          let q : part k w p v ≡ same (first_of w) p = rw d (part_first k w p black_from) in
          omega (arith, same_place (first_of w) p k v d, same_no (p * 16 + v) (second_of w * 16 + (k + 1)) (λ q. omega (arith, black_to)))
      blacks p v h c b (no d) (yes e) =
          let q : part k w p v ≡ same (second_of w) p = rw e (part_second k w p black_from) in
          omega (arith, same_place (second_of w) p (k + 1) v (omega arith), same_no (p * 16 + v) (first_of w * 16 + k) (λ q. omega (arith, black_to)))
      blacks p v h c b (no d) (no e) =
          part_other k w p v c d e
          ∙ omega (
            arith,
            same_no (p * 16 + v) (second_of w * 16 + (k + 1)) (λ q. e (omega (arith, black_to))),
            same_no (p * 16 + v) (first_of w * 16 + k) (λ q. d (omega (arith, black_to))),
          )

      sums : (p v : ℕ) → p < 9 → v < 16 → Dec (v < 8) → part k w p v ≡ one_at (first_of w) k p v + one_at (second_of w) (k + 1) p v + inner_at w p v
      sums p v h b (yes c) =
          part_digit k w p v c
          ∙ omega (
            arith,
            same_no (p * 16 + v) (first_of w * 16 + k) (λ q. omega (arith, black_from, black_to)),
            same_no (p * 16 + v) (second_of w * 16 + (k + 1)) (λ q. omega (arith, black_from, black_to)),
          )
      sums p v h b (no c) =
          blacks p v h (omega arith) b (ℕ_discrete v k) (ℕ_discrete v (suc k))
          ∙ omega (arith, bit_past v 8 (set_of w) (omega arith) (omega arith))
