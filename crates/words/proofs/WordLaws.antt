-- What a word has in its fields, and that its pattern is that of its arrangement. Assumes nothing.
use Prim.Native.Nat.{ℕ, suc, ◌+◌, ◌-◌, ◌*◌, ◌/◌, ◌%◌, ◌≤◌, ◌<◌}
use mathlib.Core.Path.{◌≡◌, sym, ap, ◌∙◌}
use mathlib.Core.Logic.{⊎_elim}
use mathlib.Core.Bool.{cond}
use native.Mathlib.Omega.{arith}
use native.Mathlib.Decide.{dec_lt}
use lib.Dec.{ltb}
use borrow.Author.Tests.{lt-ltb, le-ltb, eq-eqb, ne_eqb}
use Rattle.bits.specs.Bit.{bit}
use Rattle.rules.specs.Size.{Size}
use Rattle.subset_table.specs.Subsets.{mask_in, size_in}
use Rattle.words.specs.Word.{Known, set_of, inner_of, first_of, second_of, outside_of, inner_places, word_from, word_of, from_of, to_of, head_of, last_of, steps, Shaped}
use Rattle.words.proofs.WordFacts.{subset_fits, mask_small, inner_small, inner_between, inner_start, inner_far, inner_past}
use Rattle.words.proofs.StepLaws.{steps_on, steps_back}

-- the place of the last end
abbrev pub ending : ℕ → ℕ → ℕ → ℕ
ending n len start = cond (ltb (start + len + 1) n) (start + len + 1) (start + len + 1 - n)

-- ---- the fields of a word

pub record Fields (n set len start w : ℕ) : Type 0 where
  pub set_is : set_of w ≡ set
  pub inner_is : inner_of w ≡ inner_places n len start
  pub from_is : from_of w ≡ start
  pub to_is : to_of w ≡ ending n len start
  pub head_is : (k : ℕ) → head_of k w ≡ cond (ltb (start + len + 1) n) k (suc k)
  pub last_is : (k : ℕ) → last_of k w ≡ cond (ltb (start + len + 1) n) (suc k) k

record Decoded (s i a b o w : ℕ) : Type 0 where
  set_is : set_of w ≡ s
  inner_is : inner_of w ≡ i
  first_is : first_of w ≡ a
  second_is : second_of w ≡ b
  outside_is : outside_of w ≡ o

decode : (s i a b o w : ℕ) → s < 256 → i < 512 → a < 16 → b < 16 → w ≡ s + i * 256 + a * 131072 + b * 2097152 + o * 33554432 → Decoded s i a b o w
decode s i a b o w hs hi ha hb e =
    let x₁ : w / 256 ≡ i + a * 512 + b * 8192 + o * 131072 = omega arith in
    let x₂ : w / 131072 ≡ a + b * 16 + o * 256 = omega arith in
    let x₃ : w / 2097152 ≡ b + o * 16 = omega arith in
    record { set_is = omega arith; inner_is = omega arith; first_is = omega arith; second_is = omega arith; outside_is = omega arith }

module _ (n set len start : ℕ) (z : Size n) (b : set < 256) (l : len + 2 ≤ n) (h : start < n) where
  i : ℕ
  i = inner_places n len start

  small : i < 512
  unfolding i
  small = inner_small n len start z l h

  inside_fields : (w : ℕ) → start + len + 1 < n → w ≡ set + i * 256 + start * 131072 + (start + len + 1) * 2097152 → Fields n set len start w
  unfolding i from_of to_of head_of last_of
  inside_fields w q e =
      let r = z.high in
      let d = decode set i start (start + len + 1) 0 w b small (omega arith) (omega arith) (omega arith) in
      let o = eq-eqb (outside_of w) 0 d.outside_is in
      record {
        set_is = d.set_is;
        inner_is = d.inner_is;
        from_is = rw o d.first_is;
        to_is = rw (o, lt-ltb (start + len + 1) n q) d.second_is;
        head_is = λ k. rw (o, lt-ltb (start + len + 1) n q);
        last_is = λ k. rw (o, lt-ltb (start + len + 1) n q);
      }

  outside_fields : (w : ℕ) → n ≤ start + len + 1 → w ≡ set + i * 256 + (start + len + 1 - n) * 131072 + start * 2097152 + 33554432 → Fields n set len start w
  unfolding i from_of to_of head_of last_of
  outside_fields w q e =
      let r = z.high in
      let d = decode set i (start + len + 1 - n) start 1 w b small (omega arith) (omega arith) (omega arith) in
      let o = ne_eqb (outside_of w) 0 (omega (arith, d.outside_is)) in
      record {
        set_is = d.set_is;
        inner_is = d.inner_is;
        from_is = rw o d.second_is;
        to_is = rw (o, le-ltb (start + len + 1) n q) d.first_is;
        head_is = λ k. rw (o, le-ltb (start + len + 1) n q);
        last_is = λ k. rw (o, le-ltb (start + len + 1) n q);
      }

  pub word_fields : Fields n set len start (word_from n set len start)
  unfolding i word_from
  word_fields =
      elim (dec_lt (start + len + 1) n) [
        | yes q ↦ inside_fields (word_from n set len start) q (rw (lt-ltb (start + len + 1) n q))
        | no q ↦ outside_fields (word_from n set len start) (omega arith) (rw (le-ltb (start + len + 1) n (omega arith)))
      ]

module _ (n len start : ℕ) (l : len + 2 ≤ n) (h : start < n) where
  pub ending_in : ending n len start < n
  ending_in =
      elim (dec_lt (start + len + 1) n) [
        | yes q ↦ rw (lt-ltb (start + len + 1) n q) q
        | no q ↦ rw (le-ltb (start + len + 1) n (omega arith)) (omega arith)
      ]

  pub ending_steps : steps n start (ending n len start) ≡ len + 1
  ending_steps =
      elim (dec_lt (start + len + 1) n) [
        | yes q ↦ rw (lt-ltb (start + len + 1) n q) (steps_on n start (start + len + 1) (omega arith) ∙ omega arith)
        | no q ↦ rw (le-ltb (start + len + 1) n (omega arith)) (steps_back n start (start + len + 1 - n) (omega arith) ∙ omega arith)
      ]

-- ---- a known arrangement

module _ (n id : ℕ) (z : Size n) (y : Known n id) where
  pub known_subset : id / 9 < 128
  known_subset = omega (arith, y.within)

  pub known_fits : size_in (id / 9) + 2 ≤ n
  known_fits = subset_fits (id / 9) known_subset n z y.digits

  pub known_fields : Fields n (mask_in (id / 9)) (size_in (id / 9)) (id % 9) (word_of n id)
  unfolding word_of
  known_fields = word_fields n (mask_in (id / 9)) (size_in (id / 9)) (id % 9) z (mask_small (id / 9) known_subset) known_fits y.starts

  pub known_steps : steps n (from_of (word_of n id)) (to_of (word_of n id)) ≡ size_in (id / 9) + 1
  known_steps = rw (known_fields.from_is, known_fields.to_is) (ending_steps n (size_in (id / 9)) (id % 9) known_fits y.starts)

  -- a walk may go by its word
  pub known_shaped : Shaped n (word_of n id)
  known_shaped =
      let f = known_fields in
      record {
        from_in = rw f.from_is y.starts;
        to_in = rw f.to_is (ending_in n (size_in (id / 9)) (id % 9) known_fits y.starts);
        apart = omega (arith, known_steps);
        between = λ p hp a b. ap (bit p) f.inner_is ∙ inner_between n (size_in (id / 9)) (id % 9) z known_fits y.starts p hp (near p a)
            (omega (arith, known_steps, ap (λ a. steps n a p) f.from_is));
        beyond = λ p hp. ⊎_elim
            (λ a. ap (bit p) f.inner_is ∙ inner_start n (size_in (id / 9)) (id % 9) z known_fits y.starts p hp
            (sym (ap (λ a. steps n a p) f.from_is) ∙ a))
            (λ a. ap (bit p) f.inner_is ∙ inner_far n (size_in (id / 9)) (id % 9) z known_fits y.starts p hp
            (omega (arith, known_steps, ap (λ a. steps n a p) f.from_is)));
        past = λ p a b. ap (bit p) f.inner_is ∙ inner_past n (size_in (id / 9)) (id % 9) z known_fits y.starts p a b;
      }
    where
      near : (p : ℕ) → 0 < steps n (from_of (word_of n id)) p → 0 < steps n (id % 9) p
      near p a = rw known_fields.from_is at a
