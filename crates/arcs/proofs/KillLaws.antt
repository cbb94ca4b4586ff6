-- The supports of a word fall: its first end, its inner places, its last end. Assumes nothing.
use Prim.Native.Nat.{ℕ, ◌+◌, ◌*◌, ◌/◌, ◌%◌, ◌^◌, min, ◌≤◌, ◌<◌}
use mathlib.Core.Path.{◌≡◌, ap, ◌∙◌}
use mathlib.Core.Logic.{inl, inr}
use mathlib.Core.Bool.{cond}
use mathlib.Core.List.{List}
use native.Mathlib.Omega.{arith}
use native.Mathlib.Decide.{ℕ_discrete, dec_lt}
use lib.Pow.{pow_mono}
use borrow.Author.Tests.{lt-ltb, le-ltb, eq-eqb, ne_eqb}
use Rattle.bits.specs.Bit.{bit}
use Rattle.bits.proofs.BitLaws.{bit_lt, bit_le}
use Rattle.bits.specs.Sum.{same}
use Rattle.bits.proofs.SumLaws.{same_yes, same_no}
use Rattle.queue_state.proofs.StruckLaws.{grown_sized, grown_trans}
use Rattle.lane.specs.declared.Lane.{Lane}
use Rattle.words.specs.Word.{set_of, inner_of, from_of, to_of, head_of, last_of, part, steps}
use Rattle.words.proofs.StepLaws.{steps_none, steps_zero, steps_same}
use Rattle.words.proofs.PatternLaws.{part_lt, part_none, part_digit, pattern_head, pattern_last, pattern_inner_black, pattern_beyond, pattern_past}
use Rattle.arcs.specs.Arc.{support}
use Rattle.table.specs.Lines.{black_at}
use Rattle.arcs.specs.Sunk.{Sunk, single, DropAsk}
use Rattle.arcs.proofs.SunkLaws.{sunk_as, sunk_both}
use Rattle.arrangements.specs.declared.Arrangement.{Arrangement}
use Rattle.arcs.specs.Kill.{parts, inners, InnerAsk, KillAsk}

pub black_low : (ℓ : ℕ) → 8 ≤ black_at ℓ
unfolding black_at
black_low ℓ = elim (dec_lt ℓ 9) [ yes h ↦ rw (lt-ltb ℓ 9 h) (omega arith) | no h ↦ rw (le-ltb ℓ 9 (omega arith)) (omega arith) ]

pub black_high : (ℓ : ℕ) → black_at ℓ ≤ 10
unfolding black_at
black_high ℓ = elim (dec_lt ℓ 9) [ yes h ↦ rw (lt-ltb ℓ 9 h) (omega arith) | no h ↦ rw (le-ltb ℓ 9 (omega arith)) (omega arith) ]

-- a set has no bit from 8 on
pub set_high : (w v : ℕ) → 8 ≤ v → bit v (set_of w) ≡ 0
set_high w v h = go (ℕ_discrete (bit v (set_of w)) 0)
  where
    go : Dec (bit v (set_of w) ≡ 0) → bit v (set_of w) ≡ 0
    go (yes e) = e
    go (no e) =
        let l = bit_le v (set_of w) (omega (arith, bit_lt v (set_of w))) in
        let m : 2 ^ 8 ≤ 2 ^ v = pow_mono h in
        absurd (omega arith)

head_narrow : (k w : ℕ) → k ≤ 10 → head_of k w < 16
unfolding head_of
head_narrow k w h = elim (ℕ_discrete (w / 33554432) 0) [ yes e ↦ rw (eq-eqb _ _ e) (omega arith) | no e ↦ rw (ne_eqb _ _ e) (omega arith) ]

last_narrow : (k w : ℕ) → k ≤ 10 → last_of k w < 16
unfolding last_of
last_narrow k w h = elim (ℕ_discrete (w / 33554432) 0) [ yes e ↦ rw (eq-eqb _ _ e) (omega arith) | no e ↦ rw (ne_eqb _ _ e) (omega arith) ]

module _ (arrangement : Arrangement) {l : List ℕ} (a : KillAsk arrangement.lane arrangement.word l) where
  abbrev lane : Lane
  lane = arrangement.lane

  abbrev w : ℕ
  w = arrangement.word

  abbrev n : ℕ
  n = lane.len

  abbrev line : ℕ
  line = lane.number

  high : n ≤ 9
  high = arrangement.fits.high

  from_narrow : from_of w < 9
  from_narrow = omega (arith, high, arrangement.shaped.from_in)

  to_narrow : to_of w < 9
  to_narrow = omega (arith, high, arrangement.shaped.to_in)

  -- the code's sums fit
  pub kill_black : lane.first < 16
  kill_black = omega (arith, lane.black, black_high line)

  from_to : from_of w ≡ to_of w → ⊥
  from_to e = omega (arith, arrangement.shaped.apart, steps_none n (from_of w), ap (steps n (from_of w)) e)

  from_outer : bit (from_of w) (inner_of w) ≡ 0
  from_outer = arrangement.shaped.beyond (from_of w) arrangement.shaped.from_in (inl (steps_none n (from_of w)))

  to_outer : bit (to_of w) (inner_of w) ≡ 0
  to_outer = arrangement.shaped.beyond (to_of w) arrangement.shaped.to_in (inr (omega arith))

  -- the parts of the word: at its first end, at its last, between them, and elsewhere
  part_from : (v : ℕ) → part (black_at line) w (from_of w) v ≡ same v (head_of (black_at line) w)
  unfolding part same
  part_from v = ap (λ b. cond b 1 0) (pattern_head n (black_at line) w arrangement.shaped (black_low line) v)

  part_to : (v : ℕ) → part (black_at line) w (to_of w) v ≡ same v (last_of (black_at line) w)
  unfolding part same
  part_to v = ap (λ b. cond b 1 0) (pattern_last n (black_at line) w arrangement.shaped (black_low line) v)

  part_off : (q v : ℕ) → q < 9 → (q ≡ from_of w → ⊥) → (q ≡ to_of w → ⊥) → part (black_at line) w q v ≡ min (bit q (inner_of w)) (bit v (set_of w))
  part_off q v hq d e = go (dec_lt v 8)
    where
      far : Dec (q < n) → Dec (steps n (from_of w) (to_of w) < steps n (from_of w) q) → 8 ≤ v → part (black_at line) w q v ≡ 0
      far (no i) _ h = part_none (black_at line) w q v (pattern_past n (black_at line) w arrangement.shaped (black_low line) q v (omega arith) hq)
      far (yes i) (yes j) h = part_none (black_at line) w q v (pattern_beyond n (black_at line) w arrangement.shaped (black_low line) q v i j)
      far (yes i) (no j) h =
          part_none (black_at line) w q v
          (pattern_inner_black n (black_at line) w arrangement.shaped (black_low line) q i (near (ℕ_discrete (steps n (from_of w) q) 0))
          (short (ℕ_discrete (steps n (from_of w) q) (steps n (from_of w) (to_of w)))) v h)
        where
          near : Dec (steps n (from_of w) q ≡ 0) → 0 < steps n (from_of w) q
          near (yes z) = absurd (d (steps_zero n (from_of w) q arrangement.shaped.from_in i z))
          near (no z) = omega arith

          short : Dec (steps n (from_of w) q ≡ steps n (from_of w) (to_of w)) → steps n (from_of w) q < steps n (from_of w) (to_of w)
          short (yes z) = absurd (e (steps_same n (from_of w) q (to_of w) arrangement.shaped.from_in i arrangement.shaped.to_in z))
          short (no z) = omega arith

      go : Dec (v < 8) → part (black_at line) w q v ≡ min (bit q (inner_of w)) (bit v (set_of w))
      go (yes h) = omega (arith, part_digit (black_at line) w q v h)
      go (no h) = omega (arith, set_high w v (omega arith), far (dec_lt q n) (dec_lt (steps n (from_of w) (to_of w)) (steps n (from_of w) q)) (omega arith))

  pub kill_first : (f m : ℕ) → f ≡ from_of w → m ≡ head_of lane.first w → DropAsk lane f m l
  kill_first f m e h =
      let i : f < 9 = omega (arith, from_narrow) in
      let j : m ≡ head_of (black_at line) w = h ∙ ap (λ k. head_of k w) lane.black in
      let b : m < 16 = omega (arith, head_narrow (black_at line) w (black_high line)) in
      let p : part (black_at line) w f m ≡ 1 = ap (λ q. part (black_at line) w q m) e ∙ part_from m ∙ same_yes _ _ j in
      record {
        sized = a.sized;
        place = i;
        value = b;
        positive = omega (arith, a.enough f m i b);
      }

  module _ {l₁ : List ℕ} (f m : ℕ) (e : f ≡ from_of w) (s : Sunk (single (line * 9 + f) m) l l₁) where
    pub kill_inner : InnerAsk lane w l₁
    kill_inner =
        record {
          sized = grown_sized s.grown a.sized;
          enough = λ q v i j. enough q v i j
              (ℕ_discrete q (from_of w)) (dec_lt v 8);
        }
      where
        enough : (q v : ℕ) → q < 9 → v < 16 → Dec (q ≡ from_of w) → Dec (v < 8) → min (bit q (inner_of w)) (bit v (set_of w)) ≤ support l₁ (line * 9 + q) v
        enough q v i j (yes d) _ = let z : bit q (inner_of w) ≡ 0 = rw d from_outer in omega arith
        enough q v i j (no d) (no h) = omega (arith, set_high w v (omega arith))
        enough q v i j (no d) (yes h) =
            omega (
              arith,
              a.enough q v i j,
              part_digit (black_at line) w q v h,
              s.falls (line * 9 + q) v (omega (arith, lane.within)) j,
              same_no
                  (line * 9 + q) (line * 9 + f) (λ z. d (omega arith)),
            )

    module _ {l₂ : List ℕ} (g : Sunk (inners line w) l₁ l₂) where
      pub kill_last : (t y : ℕ) → t ≡ to_of w → y ≡ last_of lane.first w → DropAsk lane t y l₂
      kill_last t y d r =
          let i : t < 9 = omega (arith, to_narrow) in
          let j : y ≡ last_of (black_at line) w = r ∙ ap (λ k. last_of k w) lane.black in
          let b : y < 16 = omega (arith, last_narrow (black_at line) w (black_high line)) in
          let p : part (black_at line) w t y ≡ 1 = ap (λ q. part (black_at line) w q y) d ∙ part_to y ∙ same_yes _ _ j in
          let c : (line * 9 + t) % 9 ≡ t = omega arith in
          let o : bit ((line * 9 + t) % 9) (inner_of w) ≡ 0 = rw (c, d) to_outer in
          let u : line * 9 + t < 162 = omega (arith, lane.within) in
          record {
            sized = grown_sized (grown_trans s.grown g.grown) a.sized;
            place = i;
            value = b;
            positive = omega (
              arith,
              a.enough t y i b,
              s.falls (line * 9 + t) y u b,
              g.falls (line * 9 + t) y u b,
              same_no (line * 9 + t) (line * 9 + f)
                  (λ z. from_to (omega arith)),
            );
          }

      pub kill_end : (t y : ℕ) {l₃ : List ℕ} → t ≡ to_of w → m ≡ head_of lane.first w → y ≡ last_of lane.first w → Sunk (single (line * 9 + t) y) l₂ l₃ →
          Sunk (parts line w) l l₃
      kill_end t y d h r z =
          sunk_as (sunk_both (sunk_both s g) z) (λ x v i j. all x v i (ℕ_discrete (x / 9) line) (ℕ_discrete (x % 9) (from_of w)) (ℕ_discrete (x % 9) (to_of w)))
        where
          head_is : m ≡ head_of (black_at line) w
          head_is = h ∙ ap (λ k. head_of k w) lane.black

          last_is : y ≡ last_of (black_at line) w
          last_is = r ∙ ap (λ k. last_of k w) lane.black

          all : (x v : ℕ) → x < 162 → Dec (x / 9 ≡ line) → Dec (x % 9 ≡ from_of w) → Dec (x % 9 ≡ to_of w) →
              single (line * 9 + f) m x v + inners line w x v + single (line * 9 + t) y x v ≡ parts line w x v
          all x v i (no c) _ _ =
              omega (
                arith,
                same_no (x / 9) line c,
                same_no x (line * 9 + f) (λ q. c (omega (arith, from_narrow))),
                same_no x (line * 9 + t)
                    (λ q. c (omega (arith, to_narrow))),
              )
          all x v i (yes c) (yes u) _ =
              let b : bit (x % 9) (inner_of w) ≡ 0 = rw u from_outer in
              let p : part (black_at line) w (x % 9) v ≡ same v m = rw (u, head_is) (part_from v) in
              omega (
                arith,
                same_yes (x / 9) line c,
                same_yes x (line * 9 + f) (omega arith),
                same_no x (line * 9 + t) (λ q. from_to (omega arith)),
                part_lt (black_at line) w (x % 9) v,
              )
          all x v i (yes c) (no u) (yes o) =
              let b : bit (x % 9) (inner_of w) ≡ 0 = rw o to_outer in
              let p : part (black_at line) w (x % 9) v ≡ same v y = rw (o, last_is) (part_to v) in
              omega (
                arith,
                same_yes (x / 9) line c,
                same_yes x (line * 9 + t) (omega arith),
                same_no x (line * 9 + f) (λ q. u (omega arith)),
                part_lt
                    (black_at line) w (x % 9) v,
              )
          all x v i (yes c) (no u) (no o) =
              omega (
                arith,
                part_off (x % 9) v (omega arith) u o,
                same_no x (line * 9 + f) (λ q. u (omega arith)),
                same_no x (line * 9 + t)
                    (λ q. o (omega arith)),
              )
