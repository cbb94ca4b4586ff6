-- Tests that pass exactly where a statement holds, put together as the statements are. Assumes nothing.
use Prim.Native.Nat.{ℕ, ◌<◌}
use mathlib.Core.Path.{◌≡◌, refl, sym, ◌∙◌, subst}
use mathlib.Core.Bool.{Bool, beq, true, false, ◌&&◌, ◌||◌, cond, true≢false, false≢true, or-true}
use mathlib.Core.List.{List, [], ◌∷◌, Memᴰ}
use native.Mathlib.Omega.{arith}
use lib.Dec.{eqb}
use borrow.Author.Tests.{eqb-true, eq-eqb}
use Rattle.tally.specs.Tally.{span, all, any}
use Rattle.tally.proofs.TallyLaws.{and_left, and_right, and_both, span_in, span_mem}
use Rattle.tally.proofs.WayLaws.{all_each}
use Rattle.rules.specs.Grid.{Line, across, down, index, lines}
use Rattle.rules.proofs.GridLaws.{all_lines}

-- The test b passes exactly where P holds.
pub record Decides (b : Bool) (P : Type 0) : Type 0 where
  pub passes : P → b ≡ true
  pub holds : b ≡ true → P

-- What a failed test decides does not hold.
pub refuted : {b : Bool} {P : Type 0} → Decides b P → b ≡ false → P → ⊥
refuted d e x = true≢false (sym (d.passes x) ∙ e)

-- The test b passes if a does.
abbrev pub implies : Bool → Bool → Bool
implies a b = cond a b true

-- The same statement in other words.
pub restate : {b : Bool} {P Q : Type 0} → (Q → P) → (P → Q) → Decides b P → Decides b Q
restate f g d = record { passes = λ x. d.passes (f x); holds = λ t. g (d.holds t) }

-- A test decides that it passes.
pub is : (b : Bool) → Decides b (b ≡ true)
is b = record { passes = λ t. t; holds = λ t. t }

-- Numbers that are equal.
pub equal : (x y : ℕ) → Decides (eqb x y) (x ≡ y)
equal x y = record { passes = eq-eqb x y; holds = eqb-true x y }

-- Tests that have the same outcome.
pub agree : (a b : Bool) → Decides (beq a b) (a ≡ b)
agree true true = record { passes = λ e. refl; holds = λ t. refl }
agree true false = record { passes = λ e. sym e; holds = λ t. sym t }
agree false true = record { passes = λ e. e; holds = λ t. t }
agree false false = record { passes = λ e. refl; holds = λ t. refl }

-- Two statements.
pub both : {a b : Bool} {P Q : Type 0} → Decides a P → Decides b Q → Decides (a && b) (P × Q)
both {a} {b} d e = record { passes = λ x. and_both (d.passes x.0) (e.passes x.1); holds = λ t. (d.holds (and_left a b t), e.holds (and_right a b t)) }

-- A statement under another.
pub if_then : {a b : Bool} {P Q : Type 0} → Decides a P → Decides b Q → Decides (implies a b) (P → Q)
if_then {a = true} d e = record { passes = λ f. e.passes (f (d.holds refl)); holds = λ t x. e.holds t }
if_then {a = false} d e = record { passes = λ f. refl; holds = λ t x. absurd (false≢true (d.passes x)) }

module _ {A : Type 0} {p : A → Bool} {P : A → Type 0} (d : (x : A) → Decides (p x) (P x)) where
  -- what holds of each element passes for all
  all_passes : (xs : List A) → ((x : A) → Memᴰ x xs → P x) → all p xs ≡ true
  unfolding all
  all_passes [] h = refl
  all_passes (x ∷ xs) h = and_both ((d x).passes (h x (Memᴰ.head refl))) (all_passes xs (λ y m. h y (Memᴰ.tail m)))

  -- where a test passes for some element, one is found
  any_holds : (xs : List A) → any p xs ≡ true → (x : A) × Memᴰ x xs × P x
  unfolding any
  any_holds [] t = absurd (true≢false (sym t))
  any_holds (x ∷ xs) t = go (p x) refl t (any_holds xs)
    where
      go : (b : Bool) → p x ≡ b → (b || any p xs) ≡ true → (any p xs ≡ true → (y : A) × Memᴰ y xs × P y) → (y : A) × Memᴰ y (x ∷ xs) × P y
      go true e t r = (x, Memᴰ.head refl, (d x).holds e)
      go false e t r = let w = r t in (w.0, Memᴰ.tail w.1, w.2)

  -- what holds of an element passes for some
  any_passes : {x : A} {xs : List A} → Memᴰ x xs → P x → any p xs ≡ true
  unfolding any
  any_passes {x} (Memᴰ.head {x = y} e) h = let t : p y ≡ true = (d y).passes (subst P e h) in rw t
  any_passes (Memᴰ.tail {x = y} m) h = rw (any_passes m h) (or-true (p y))

  -- A statement about each element.
  pub each : (xs : List A) → Decides (all p xs) ((x : A) → Memᴰ x xs → P x)
  each xs = record { passes = all_passes xs; holds = λ t x m. (d x).holds (all_each p m t) }

  -- A statement about some element.
  pub some : (xs : List A) → Decides (any p xs) ((x : A) × Memᴰ x xs × P x)
  some xs = record { passes = λ w. any_passes w.1 w.2; holds = any_holds xs }

-- A statement about each number below n.
pub each_below : {p : ℕ → Bool} {P : ℕ → Type 0} → ((i : ℕ) → Decides (p i) (P i)) → (n : ℕ) → Decides (all p (span 0 n)) ((i : ℕ) → i < n → P i)
each_below d n =
    restate (λ f i m. let r = span_in 0 n i m in f i (omega arith)) (λ f i h. f i (span_mem 0 n i (omega arith) (omega arith))) (each d (span 0 n))

-- A statement about each line.
pub each_line : {p : Line → Bool} {P : Line → Type 0} → ((ℓ : Line) → Decides (p ℓ) (P ℓ)) → (n : ℕ) → Decides (all p (lines n)) ((ℓ : Line) → index ℓ < n → P ℓ)
unfolding index
each_line {p} {P} d n =
    restate (λ f. (λ r h. f (across r) h, λ c h. f (down c) h)) go
    (subst (λ b. Decides b (((r : ℕ) → r < n → P (across r)) × ((c : ℕ) → c < n → P (down c)))) (sym (all_lines p n)) (both (each_below (λ r. d (across r)) n) (each_below (λ c. d (down c)) n)))
  where
    go : ((r : ℕ) → r < n → P (across r)) × ((c : ℕ) → c < n → P (down c)) → (ℓ : Line) → index ℓ < n → P ℓ
    go f (across r) h = f.0 r h
    go f (down c) h = f.1 c h
