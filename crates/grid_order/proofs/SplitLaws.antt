-- Lists split at one of their elements. Assumes nothing.
use Prim.Native.Nat.{ℕ, zero, suc, ◌+◌, ◌≤◌, ◌<◌}
use mathlib.Core.Path.{◌≡◌, refl, sym, ap, ◌∙◌, subst}
use mathlib.Core.Logic.{⊎_elim}
use mathlib.Core.List.Memᴰ
use mathlib.Core.List.{List, [], ◌∷◌, ◌++◌, map, reverse, append_assoc, map-append, Memᴰ}
use native.Mathlib.Omega.{arith}
use native.Mathlib.Decide.{ℕ_discrete}
use Rattle.std.proofs.lemmas.List.{reverse-append}
use Rattle.tally.specs.Tally.{span, join}
use Rattle.tally.proofs.TallyLaws.{span_in}
use Rattle.tally.proofs.WayLaws.{of_map}
use Rattle.line_laws.proofs.Lists.{of_join}
use Rattle.grid_order.specs.Split.{Split}

module _ {A : Type 0} where
  pub split_each : {x : A} {xs : List A} {P Q : A → Type 0} → Split x xs P → ((y : A) → P y → Q y) → Split x xs Q
  split_each s f = record { before = s.before; behind = s.behind; whole = s.whole; each = λ y m. f y (s.each y m) }

  pub split_head : (x : A) (xs : List A) (P : A → Type 0) → Split x (x ∷ xs) P
  split_head x xs P = record { before = []; behind = xs; whole = refl; each = λ y m. absurd (Memᴰ.not-nil m) }

  -- behind one more element
  pub split_tail : {x : A} {xs : List A} {P : A → Type 0} (y : A) → P y → Split x xs P → Split x (y ∷ xs) P
  split_tail {P = P} y h s =
      record {
        before = y ∷ s.before;
        behind = s.behind;
        whole = ap (λ l. y ∷ l) s.whole;
        each = λ z m. ⊎_elim (λ e. subst P (sym e) h) (s.each z) (Memᴰ.cases_cons m);
      }

  -- in the first of two lists, and in the second
  pub split_left : {x : A} {xs : List A} {P : A → Type 0} (ys : List A) → Split x xs P → Split x (xs ++ ys) P
  split_left {x} ys s =
      record {
        before = s.before;
        behind = s.behind ++ ys;
        whole = ap (λ l. l ++ ys) s.whole ∙ append_assoc s.before (x ∷ s.behind) ys;
        each = s.each;
      }

  pub split_right : {x : A} {ys : List A} {P : A → Type 0} (xs : List A) → ((y : A) → Memᴰ y xs → P y) → Split x ys P → Split x (xs ++ ys) P
  split_right {x} xs h s =
      record {
        before = xs ++ s.before;
        behind = s.behind;
        whole = ap (λ l. xs ++ l) s.whole ∙ sym (append_assoc xs s.before (x ∷ s.behind));
        each = λ y m. ⊎_elim (h y) (s.each y) (Memᴰ.append_cases xs m);
      }

module _ {A B : Type 0} (f : A → List B) where
  join_append : (xs ys : List A) → join (map f (xs ++ ys)) ≡ join (map f xs) ++ join (map f ys)
  unfolding join
  join_append [] ys = refl
  join_append (x ∷ xs) ys = ap (λ l. f x ++ l) (join_append xs ys) ∙ sym (append_assoc (f x) (join (map f xs)) (join (map f ys)))

  -- in the list of one element, among the lists of all
  pub split_join : {x : A} {y : B} {xs : List A} {P : A → Type 0} {Q : B → Type 0} → Split x xs P → ((z : A) → P z → (w : B) → Memᴰ w (f z) → Q w) → Split y (f x) Q →
      Split y (join (map f xs)) Q
  unfolding join
  split_join {x} {y} {xs} {Q = Q} s h t =
      subst (λ l. Split y (join (map f l)) Q) (sym s.whole)
      (subst (λ l. Split y l Q) (sym (join_append s.before (x ∷ s.behind)))
      (split_right (join (map f s.before)) (λ w m. let o = of_join f s.before m in h o.0 (s.each o.0 o.1) w o.2) (split_left (join (map f s.behind)) t)))

pub split_map : {A B : Type 0} (f : A → B) {x : A} {xs : List A} {P : A → Type 0} → Split x xs P → Split (f x) (map f xs) (λ y. (z : A) × P z × (y ≡ f z))
split_map f {x} s =
    record {
      before = map f s.before;
      behind = map f s.behind;
      whole = ap (map f) s.whole ∙ map-append f s.before (x ∷ s.behind);
      each = λ y m. let o = of_map f s.before m in (o.0, s.each o.0 o.1, o.2);
    }

-- a run of numbers, and the same reversed
pub split_span : (a k j : ℕ) → a ≤ j → j < a + k → Split j (span a k) (λ i. (a ≤ i) × (i < j))
unfolding span
split_span a zero j h g = absurd (omega arith)
split_span a (suc k) j h g =
    elim (ℕ_discrete a j) [
      | yes e ↦ subst (λ i. Split i (a ∷ span (suc a) k) (λ y. (a ≤ y) × (y < i))) e (split_head a (span (suc a) k) (λ y. (a ≤ y) × (y < a)))
      | no e ↦ split_tail a (omega arith, omega arith) (split_each (split_span (suc a) k j (omega arith) (omega arith)) (λ y q. (omega (arith, q.0), q.1)))
    ]

reverse_cons : {A : Type 0} (x : A) (xs : List A) → reverse (x ∷ xs) ≡ reverse xs ++ x ∷ []
reverse_cons x xs = reverse-append (x ∷ []) xs

pub in_reverse : {A : Type 0} {x : A} (xs : List A) → Memᴰ x (reverse xs) → Memᴰ x xs
in_reverse [] m = m
in_reverse {x = x} (y ∷ ys) m =
    ⊎_elim (λ k. Memᴰ.tail (in_reverse ys k)) (λ k. Memᴰ.head (Memᴰ.eq_of_singleton k)) (Memᴰ.append_cases (reverse ys) (subst (Memᴰ x) (reverse_cons y ys) m))

pub split_reverse : (a k j : ℕ) → a ≤ j → j < a + k → Split j (reverse (span a k)) (λ i. (j < i) × (i < a + k))
unfolding span
split_reverse a zero j h g = absurd (omega arith)
split_reverse a (suc k) j h g =
    subst (λ l. Split j l (λ i. (j < i) × (i < a + suc k))) (sym (reverse_cons a (span (suc a) k)))
    (elim (ℕ_discrete a j) [
      | yes e ↦
          split_right (reverse (span (suc a) k)) (λ y m. let q = span_in (suc a) k y (in_reverse (span (suc a) k) m) in (omega (arith, q.0), omega (arith, q.1)))
          (subst (λ i. Split i (a ∷ []) (λ y. (i < y) × (y < a + suc k))) e (split_head a [] (λ y. (a < y) × (y < a + suc k))))
      | no e ↦ split_left (a ∷ []) (split_each (split_reverse (suc a) k j (omega arith) (omega arith)) (λ y q. (q.0, omega (arith, q.1))))
    ])
