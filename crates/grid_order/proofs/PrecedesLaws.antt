-- Which of two grids comes first. Assumes nothing.
use Prim.Native.Nat.{ℕ, ◌<◌}
use mathlib.Core.Path.{◌≡◌, refl, sym, ◌∙◌}
use mathlib.Core.Bool.{Bool, true, false, cond, true≢false}
use mathlib.Core.Logic.{◌⊎◌, inl, inr, ⊎_elim}
use mathlib.Core.List.{List, [], ◌∷◌, ◌++◌, Memᴰ}
use native.Mathlib.Omega.{arith}
use native.Mathlib.Decide.{ℕ_discrete, dec_lt}
use lib.Dec.{eqb, ltb}
use borrow.Author.Tests.{eq-eqb, ne_eqb, lt-ltb, le-ltb}
use Rattle.rules.specs.Order.{RowValue, place_of, precedes}

-- ---- one value: where its places a and b differ it decides, and else x does

abbrev by_places : ℕ → ℕ → Bool → Bool
by_places a b x = cond (eqb a b) x (ltb b a)

alike : (a b : ℕ) (x : Bool) → a ≡ b → by_places a b x ≡ x
alike a b x e = rw (eq-eqb a b e)

further : (a b : ℕ) (x : Bool) → b < a → by_places a b x ≡ true
further a b x h = rw (ne_eqb a b (λ e. omega (arith, e, h))) (lt-ltb b a h)

nearer : (a b : ℕ) (x : Bool) → a < b → by_places a b x ≡ false
nearer a b x h = rw (ne_eqb a b (λ e. omega (arith, e, h))) (le-ltb b a (omega arith))

of_places : (a b : ℕ) (x : Bool) → by_places a b x ≡ true → ((a ≡ b) × (x ≡ true)) ⊎ (b < a)
of_places a b x t =
    elim (ℕ_discrete a b) [
      | yes e ↦ inl (e, sym (alike a b x e) ∙ t)
      | no e ↦ elim (dec_lt b a) [ yes h ↦ inr h | no h ↦ absurd (true≢false (sym t ∙ nearer a b x (omega arith))) ]
    ]

total_step : (a b : ℕ) (x y : Bool) → (x ≡ false → y ≡ true) → by_places a b x ≡ false → by_places b a y ≡ true
total_step a b x y f t =
    elim (ℕ_discrete a b) [
      | yes e ↦ alike b a y (sym e) ∙ f (sym (alike a b x e) ∙ t)
      | no e ↦ elim (dec_lt b a) [ yes h ↦ absurd (true≢false (sym (further a b x h) ∙ t)) | no h ↦ further b a y (omega arith) ]
    ]

transitive_step : (a b c : ℕ) (x y z : Bool) → (x ≡ true → y ≡ true → z ≡ true) → by_places a b x ≡ true → by_places b c y ≡ true → by_places a c z ≡ true
transitive_step a b c x y z f t u =
    ⊎_elim
    (λ q. ⊎_elim (λ r. alike a c z (q.0 ∙ r.0) ∙ f q.1 r.1) (λ r. further a c z (omega (arith, q.0))) (of_places b c y u))
    (λ q. ⊎_elim (λ r. further a c z (omega (arith, r.0))) (λ r. further a c z (omega arith)) (of_places b c y u))
    (of_places a b x t)

-- ---- the sequence

module _ (n : ℕ) where
  -- The values before one are at the same places, and that one is further right in g.
  pub precedes_first : (before behind : List RowValue) (s : RowValue) (g h : List ℕ) → ((t : RowValue) → Memᴰ t before → place_of n g t ≡ place_of n h t) →
      place_of n h s < place_of n g s → (precedes n (before ++ s ∷ behind) g h ≡ true) × (precedes n (before ++ s ∷ behind) h g ≡ false)
  unfolding precedes
  precedes_first [] behind s g h same right =
      (further (place_of n g s) (place_of n h s) (precedes n behind g h) right, nearer (place_of n h s) (place_of n g s) (precedes n behind h g) right)
  precedes_first (t ∷ ts) behind s g h same right =
      let e = same t (Memᴰ.head refl) in
      let ih = precedes_first ts behind s g h (λ u m. same u (Memᴰ.tail m)) right in
      (alike (place_of n g t) (place_of n h t) _ e ∙ ih.0, alike (place_of n h t) (place_of n g t) _ (sym e) ∙ ih.1)

  -- Of two grids one precedes the other.
  pub precedes_total : (ss : List RowValue) (g h : List ℕ) → precedes n ss g h ≡ false → precedes n ss h g ≡ true
  unfolding precedes
  precedes_total [] g h e = absurd (true≢false e)
  precedes_total (s ∷ ss) g h e =
      total_step (place_of n g s) (place_of n h s) (precedes n ss g h) (precedes n ss h g) (precedes_total ss g h) e

  pub precedes_transitive : (ss : List RowValue) (f g h : List ℕ) → precedes n ss f g ≡ true → precedes n ss g h ≡ true → precedes n ss f h ≡ true
  unfolding precedes
  precedes_transitive [] f g h a b = refl
  precedes_transitive (s ∷ ss) f g h a b =
      transitive_step (place_of n f s) (place_of n g s) (place_of n h s) (precedes n ss f g) (precedes n ss g h) (precedes n ss f h)
      (precedes_transitive ss f g h) a b
