-- The walk over the inner places of a word. Assumes nothing.
use Prim.Native.Nat.{ℕ, ◌+◌, ◌-◌, ◌*◌, ◌/◌, ◌%◌, min, ◌≤◌, ◌<◌}
use mathlib.Core.Path.{◌≡◌, sym, ap, ◌∙◌}
use mathlib.Core.Logic.{inl, inr}
use mathlib.Core.Bool.{cond}
use mathlib.Core.List.{List}
use native.Mathlib.Omega.{arith}
use native.Mathlib.Decide.{ℕ_discrete, dec_lt}
use lib.Dec.{ltb}
use borrow.Author.Tests.{lt-ltb, le-ltb}
use Rattle.bits.specs.Bit.{bit}
use Rattle.bits.proofs.BitLaws.{bit_lt}
use Rattle.bits.proofs.SumLaws.{same_yes, same_no}
use Rattle.queue_state.proofs.StruckLaws.{grown_sized}
use Rattle.lane.specs.declared.Lane.{Lane}
use Rattle.words.specs.Word.{set_of, inner_of, from_of, to_of, steps, after}
use Rattle.words.proofs.StepLaws.{steps_none, steps_lt, steps_same, steps_after, after_in}
use Rattle.arcs.specs.Arc.{support}
use Rattle.arcs.specs.Sunk.{Sunk, masked, DigitsAsk}
use Rattle.arcs.proofs.SunkLaws.{sunk_none, sunk_as, sunk_both}
use Rattle.arrangements.specs.declared.Arrangement.{Arrangement}
use Rattle.arcs.specs.Kill.{inners, InnerAsk}

-- 1 where a is below b, else 0
unfoldable pub below : ℕ → ℕ → ℕ
below a b = cond (ltb a b) 1 0

below_yes : (a b : ℕ) → a < b → below a b ≡ 1
unfolding below
below_yes a b h = rw (lt-ltb a b h)

below_no : (a b : ℕ) → b ≤ a → below a b ≡ 0
unfolding below
below_no a b h = rw (le-ltb a b h)

-- two numbers at the same side of b
below_next : (a b : ℕ) → (a ≡ b → ⊥) → below a (b + 1) ≡ below a b
below_next a b d =
    elim (dec_lt a b) [
      | yes l ↦ below_yes a (b + 1) (omega arith) ∙ sym (below_yes a b l)
      | no l ↦ below_no a (b + 1) (omega arith) ∙ sym (below_no a b (omega arith))
    ]

-- the inner places before p have fallen
abbrev pub passed : ℕ → ℕ → ℕ → ℕ → ℕ → ℕ → ℕ
passed n line w p y v = min (below (steps n (from_of w) (y % 9)) (steps n (from_of w) p)) (inners line w y v)

pub record Walking (n line w : ℕ) (l₀ l : List ℕ) (p : ℕ) : Type 0 where
  pub within : p < n
  pub begun : 0 < steps n (from_of w) p
  pub upto : steps n (from_of w) p ≤ steps n (from_of w) (to_of w)
  pub sunk : Sunk (passed n line w p) l₀ l

module _ (arrangement : Arrangement) {l₀ : List ℕ} (a : InnerAsk arrangement.lane arrangement.word l₀) where
  abbrev lane : Lane
  lane = arrangement.lane

  abbrev w : ℕ
  w = arrangement.word

  abbrev n : ℕ
  n = lane.len

  abbrev line : ℕ
  line = lane.number

  -- one step on is still on the way
  ahead : (p : ℕ) → p < n → steps n (from_of w) p < steps n (from_of w) (to_of w) → steps n (from_of w) (after n p) ≡ steps n (from_of w) p + 1
  ahead p h l =
      steps_after n (from_of w) p arrangement.shaped.from_in h (omega (arith, steps_lt n (from_of w) (to_of w) arrangement.shaped.from_in arrangement.shaped.to_in))

  pub walking_start : (f p : ℕ) → f ≡ from_of w → p ≡ after n f → Walking n line w l₀ l₀ p
  walking_start f p e q =
      let z = steps_none n (from_of w) in
      let i = arrangement.shaped.from_in in
      let g = ahead (from_of w) i (omega (arith, arrangement.shaped.apart)) in
      let d : p ≡ after n (from_of w) = q ∙ ap (after n) e in
      let st : steps n (from_of w) p ≡ 1 = ap (steps n (from_of w)) d ∙ g ∙ omega arith in
      record {
        within = rw d (after_in n (from_of w) i);
        begun = omega arith;
        upto = omega (arith, arrangement.shaped.apart);
        sunk = sunk_none l₀ (λ y v hy hv. none y v hy (dec_lt 0 (steps n (from_of w) (y % 9))) st);
      }
    where
      none : (y v : ℕ) → y < 162 → Dec (0 < steps n (from_of w) (y % 9)) → steps n (from_of w) p ≡ 1 → passed n line w p y v ≡ 0
      none y v hy (yes l) e = omega (arith, below_no (steps n (from_of w) (y % 9)) (steps n (from_of w) p) (omega arith))
      none y v hy (no l) e = out (dec_lt (y % 9) n)
        where
          out : Dec (y % 9 < n) → passed n line w p y v ≡ 0
          out (yes i) = omega (arith, arrangement.shaped.beyond (y % 9) i (inl (omega arith)))
          out (no i) = omega (arith, arrangement.shaped.past (y % 9) (omega arith) (omega arith))

  module _ {l : List ℕ} {p : ℕ} (c : Walking n line w l₀ l p) (t : ℕ) (e : t ≡ to_of w) (d : p ≡ t → ⊥) where
    before_end : steps n (from_of w) p < steps n (from_of w) (to_of w)
    before_end = go (ℕ_discrete (steps n (from_of w) p) (steps n (from_of w) (to_of w)))
      where
        go : Dec (steps n (from_of w) p ≡ steps n (from_of w) (to_of w)) → steps n (from_of w) p < steps n (from_of w) (to_of w)
        go (yes q) = absurd (d (steps_same n (from_of w) p (to_of w) arrangement.shaped.from_in c.within arrangement.shaped.to_in q ∙ sym e))
        go (no q) = omega (arith, c.upto)

    inner : bit p (inner_of w) ≡ 1
    inner = arrangement.shaped.between p c.within c.begun before_end

    narrow : p < 9
    narrow = omega (arith, c.within, arrangement.fits.high)

    slot_line : (line * 9 + p) / 9 ≡ line
    slot_line = omega (arith, narrow)

    slot_place : (line * 9 + p) % 9 ≡ p
    slot_place = omega (arith, narrow)

    pub walking_ask : (x : ℕ) → x ≡ set_of w → DigitsAsk lane p x l
    walking_ask x f =
        record {
          sized = grown_sized c.sunk.grown a.sized;
          place = narrow;
          enough = λ v h. rw f (enough v h);
        }
      where
        enough : (v : ℕ) → v < 16 → bit v (set_of w) ≤ support l (line * 9 + p) v
        enough v h =
            let z : below (steps n (from_of w) ((line * 9 + p) % 9)) (steps n (from_of w) p) ≡ 0 = rw slot_place (below_no _ _ (omega arith)) in
            omega (arith, c.sunk.falls (line * 9 + p) v (omega (arith, narrow, lane.within)) h, a.enough p v narrow h, inner, bit_lt v (set_of w))

    pub walking_next : {l' : List ℕ} (x p' : ℕ) → x ≡ set_of w → p' ≡ after n p → Sunk (masked (line * 9 + p) x) l l' → Walking n line w l₀ l' p'
    walking_next {l'} x p' f g m =
        let h = ahead p c.within before_end in
        let k : steps n (from_of w) p' ≡ steps n (from_of w) p + 1 = ap (steps n (from_of w)) g ∙ h in
        record {
          within = rw g (after_in n p c.within);
          begun = omega arith;
          upto = omega (arith, before_end);
          sunk = sunk_as (sunk_both c.sunk m) (λ y v hy hv. both y v hy k (ℕ_discrete y (line * 9 + p)) (ℕ_discrete (y / 9) line));
        }
      where
        both : (y v : ℕ) → y < 162 → steps n (from_of w) p' ≡ steps n (from_of w) p + 1 → Dec (y ≡ line * 9 + p) → Dec (y / 9 ≡ line) →
            passed n line w p y v + masked (line * 9 + p) x y v ≡ passed n line w p' y v
        both y v hy k (yes q) r =
            let b : bit (y % 9) (inner_of w) ≡ 1 = rw (q, slot_place) inner in
            let z : below (steps n (from_of w) (y % 9)) (steps n (from_of w) p) ≡ 0 = rw (q, slot_place) (below_no _ _ (omega arith)) in
            let u : below (steps n (from_of w) (y % 9)) (steps n (from_of w) p') ≡ 1 = rw (q, slot_place, k) (below_yes _ _ (omega arith)) in
            let i : bit v x ≡ bit v (set_of w) = ap (bit v) f in
            omega (arith, same_yes y (line * 9 + p) q, same_yes (y / 9) line (omega (arith, slot_line)), bit_lt v (set_of w))
        both y v hy k (no q) (no r) = omega (arith, same_no y (line * 9 + p) q, same_no (y / 9) line r)
        both y v hy k (no q) (yes r) = go (dec_lt (y % 9) n)
          where
            go : Dec (y % 9 < n) → passed n line w p y v + masked (line * 9 + p) x y v ≡ passed n line w p' y v
            go (yes i) =
                let z : below (steps n (from_of w) (y % 9)) (steps n (from_of w) p') ≡ below (steps n (from_of w) (y % 9)) (steps n (from_of w) p) =
                rw k (below_next _ _ (λ o. q (omega (arith, steps_same n (from_of w) (y % 9) p arrangement.shaped.from_in i c.within o)))) in
                omega (arith, same_no y (line * 9 + p) q)
            go (no i) = omega (arith, same_no y (line * 9 + p) q, arrangement.shaped.past (y % 9) (omega arith) (omega arith))

  pub walking_end : {l : List ℕ} {p : ℕ} → Walking n line w l₀ l p → (t : ℕ) → t ≡ to_of w → p ≡ t → Sunk (inners line w) l₀ l
  walking_end {l} {p} c t e d = sunk_as c.sunk (λ y v hy hv. all y v (dec_lt (y % 9) n) (dec_lt (steps n (from_of w) (y % 9)) (steps n (from_of w) p)))
    where
      at_end : steps n (from_of w) p ≡ steps n (from_of w) (to_of w)
      at_end = ap (steps n (from_of w)) (d ∙ e)

      all : (y v : ℕ) → Dec (y % 9 < n) → Dec (steps n (from_of w) (y % 9) < steps n (from_of w) p) → passed n line w p y v ≡ inners line w y v
      all y v (no i) _ = omega (arith, arrangement.shaped.past (y % 9) (omega arith) (omega arith))
      all y v (yes i) (yes l) = omega (arith, below_yes (steps n (from_of w) (y % 9)) (steps n (from_of w) p) l, bit_lt (y % 9) (inner_of w))
      all y v (yes i) (no l) = omega (arith, arrangement.shaped.beyond (y % 9) i (inr (omega (arith, at_end))))

  -- each step comes nearer
  pub walking_less : {l : List ℕ} {p : ℕ} → Walking n line w l₀ l p → (t : ℕ) → t ≡ to_of w → (p ≡ t → ⊥) → (p' : ℕ) → p' ≡ after n p →
      steps n (from_of w) (to_of w) - steps n (from_of w) p' < steps n (from_of w) (to_of w) - steps n (from_of w) p
  walking_less c t e d p' g =
      let b = before_end c t e d in
      omega (arith, ap (steps n (from_of w)) g, ahead _ c.within b)
