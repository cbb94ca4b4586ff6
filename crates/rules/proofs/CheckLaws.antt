-- Laws of the refusal of a list of checks. Assumes nothing.
use Prim.Native.Nat.{ℕ, zero, suc, ◌+◌, ◌≤◌, ◌<◌}
use mathlib.Core.Path.{◌≡◌, refl, sym, ap, ◌∙◌}
use mathlib.Core.Bool.{Bool, true, false, not, ◌&&◌, true≢false}
use lib.Dec.{eqb}
use borrow.Author.Tests.{not-true, not-false, eq-eqb}
use mathlib.Core.List.{List, [], ◌∷◌, ◌++◌, map, append_assoc}
use native.Mathlib.Omega.{arith}
use native.Mathlib.Decide.{ℕ_discrete}
use Rattle.tally.specs.Tally.{join, span}
use Rattle.tally.proofs.TallyLaws.{and_left, and_right, and_both}
use Rattle.std.specs.Prelude.{⊤, Result, Ok, Err}
use Rattle.refusal.specs.declared.Refusal.{Refusal}
use Rattle.refusal.specs.declared.Refusal.TheVariants.{Size, TargetLengths, Target, MarkSpare, MarkPlace, MarkValue, CellsLength, Blacks, EmptyCell, Sum, TextLine, SizeLimit, ListLimit}
use Rattle.refusal.specs.Number.{refusal_number, number_of}
use Rattle.rules.specs.Check.{Check, check, checked, refusal}

-- no check has the number k
unfoldable pub lacks : ℕ → List Check → Bool
lacks k [] = true
lacks k (check j b ∷ qs) = not (eqb (refusal_number j) k) && lacks k qs

-- no check has the number 0, which says that nothing is refused
abbrev pub numbered : List Check → Bool
numbered qs = lacks 0 qs

-- every refusal has a number, of at most two digits
number_between : (k : Refusal) → (0 < refusal_number k) × (refusal_number k < 100)
number_between Size = (omega arith, omega arith)
number_between TargetLengths = (omega arith, omega arith)
number_between Target = (omega arith, omega arith)
number_between MarkSpare = (omega arith, omega arith)
number_between MarkPlace = (omega arith, omega arith)
number_between MarkValue = (omega arith, omega arith)
number_between CellsLength = (omega arith, omega arith)
number_between Blacks = (omega arith, omega arith)
number_between EmptyCell = (omega arith, omega arith)
number_between Sum = (omega arith, omega arith)
number_between TextLine = (omega arith, omega arith)
number_between SizeLimit = (omega arith, omega arith)
number_between ListLimit = (omega arith, omega arith)

pub number_positive : (k : Refusal) → refusal_number k ≡ 0 → ⊥
number_positive k e = omega (arith, (number_between k).0)

-- nothing is refused exactly where the number is 0
pub passed_number : (qs : List Check) → checked qs ≡ Ok tt → refusal qs ≡ 0
unfolding refusal
passed_number qs e = ap number_of e

passed_answer : (r : Result ⊤ Refusal) → number_of r ≡ 0 → r ≡ Ok tt
passed_answer (Ok tt) e = refl
passed_answer (Err k) e = absurd (number_positive k e)

pub refusal_small : (qs : List Check) → refusal qs < 100
unfolding refusal
refusal_small qs = go (checked qs)
  where
    go : (r : Result ⊤ Refusal) → number_of r < 100
    go (Ok tt) = omega arith
    go (Err k) = (number_between k).1

pub passed_checks : (qs : List Check) → refusal qs ≡ 0 → checked qs ≡ Ok tt
unfolding refusal
passed_checks qs e = passed_answer (checked qs) e

-- their refusal is another number
pub refusal_lacks : (k : ℕ) (a : List Check) → lacks k a ≡ true → (k ≡ 0 → ⊥) → refusal a ≡ k → ⊥
unfolding refusal checked lacks
refusal_lacks k [] h z e = z (sym e)
refusal_lacks k (check j true ∷ qs) h z e = refusal_lacks k qs (and_right (not (eqb (refusal_number j) k)) (lacks k qs) h) z e
refusal_lacks k (check j false ∷ qs) h z e =
    true≢false (sym (and_left (not (eqb (refusal_number j) k)) (lacks k qs) h) ∙ ap not (eq-eqb (refusal_number j) k e))

-- where none of the first checks refuses, the later ones decide
pub refusal_skip : (a b : List Check) → numbered a ≡ true → refusal a ≡ 0 → refusal (a ++ b) ≡ refusal b
unfolding refusal checked lacks
refusal_skip [] b h e = refl
refusal_skip (check j true ∷ qs) b h e = refusal_skip qs b (and_right (not (eqb (refusal_number j) 0)) (lacks 0 qs) h) e
refusal_skip (check j false ∷ qs) b h e = absurd (true≢false (sym (and_left (not (eqb (refusal_number j) 0)) (lacks 0 qs) h) ∙ ap not (eq-eqb (refusal_number j) 0 e)))

-- where one of them refuses, it stays so
pub refusal_stop : (a b : List Check) → (refusal a ≡ 0 → ⊥) → refusal (a ++ b) ≡ refusal a
unfolding refusal checked
refusal_stop [] b h = absurd (h refl)
refusal_stop (check k true ∷ qs) b h = refusal_stop qs b h
refusal_stop (check k false ∷ qs) b h = refl

-- a check that passes leaves it to those behind it
pub refusal_pass : (k : Refusal) (b : Bool) (qs : List Check) → b ≡ true → refusal (check k b ∷ qs) ≡ refusal qs
unfolding refusal checked
refusal_pass k b qs e = rw e

-- the same of the answer
pub checked_skip : (a b : List Check) → checked a ≡ Ok tt → checked (a ++ b) ≡ checked b
unfolding checked
checked_skip [] b e = refl
checked_skip (check k true ∷ qs) b e = checked_skip qs b e
checked_skip (check k false ∷ qs) b e = cc

pub checked_stop : (a b : List Check) (k : Refusal) → checked a ≡ Err k → checked (a ++ b) ≡ Err k
unfolding checked
checked_stop [] b k e = cc
checked_stop (check j true ∷ qs) b k e = checked_stop qs b k e
checked_stop (check j false ∷ qs) b k e = e

-- what a call that makes a check tells, behind a `!`
pub said_yes : (b q : Bool) → b ≡ q → not b ≡ false → q ≡ true
said_yes b q e t = sym e ∙ not-false b t

pub said_no : (b q : Bool) → b ≡ q → not b ≡ true → q ≡ false
said_no b q e t = sym e ∙ not-true b t

module _ {A : Type 0} where
  pub join_append : (a b : List (List A)) → join (a ++ b) ≡ join a ++ join b
  unfolding join
  join_append [] b = refl
  join_append (x ∷ a) b = rw (join_append a b, append_assoc)

-- ---- nothing is refused

pub refusal_none : (k : Refusal) (b : Bool) (qs : List Check) → refusal (check k b ∷ qs) ≡ 0 → (b ≡ true) × (refusal qs ≡ 0)
unfolding refusal checked
refusal_none k true qs e = (refl, e)
refusal_none k false qs e = absurd (number_positive k e)

pub refusal_none_left : (a b : List Check) → refusal (a ++ b) ≡ 0 → refusal a ≡ 0
refusal_none_left a b e = elim (ℕ_discrete (refusal a) 0) [ yes z ↦ z | no z ↦ absurd (z (sym (refusal_stop a b z) ∙ e)) ]

pub refusal_none_right : (a b : List Check) → numbered a ≡ true → refusal (a ++ b) ≡ 0 → refusal b ≡ 0
refusal_none_right a b h e = sym (refusal_skip a b h (refusal_none_left a b e)) ∙ e

pub lacks_append : (k : ℕ) (a b : List Check) → lacks k a ≡ true → lacks k b ≡ true → lacks k (a ++ b) ≡ true
unfolding lacks
lacks_append k [] b h l = l
lacks_append k (check j y ∷ qs) b h l =
    and_both (and_left (not (eqb (refusal_number j) k)) (lacks k qs) h) (lacks_append k qs b (and_right (not (eqb (refusal_number j) k)) (lacks k qs) h) l)

-- the same checks of one thing after the other
pub lacks_join : {A : Type 0} (k : ℕ) (f : A → List Check) → ((x : A) → lacks k (f x) ≡ true) → (xs : List A) → lacks k (join (map f xs)) ≡ true
unfolding join lacks
lacks_join k f h [] = refl
lacks_join k f h (x ∷ xs) = lacks_append k (f x) (join (map f xs)) (h x) (lacks_join k f h xs)

module _ (f : ℕ → List Check) (h : (i : ℕ) → numbered (f i) ≡ true) where
  pub refusal_none_each : (a k : ℕ) → refusal (join (map f (span a k))) ≡ 0 → (i : ℕ) → a ≤ i → i < a + k → refusal (f i) ≡ 0
  unfolding span join
  refusal_none_each a zero e i l u = absurd (omega arith)
  refusal_none_each a (suc k) e i l u =
      elim (ℕ_discrete a i) [
        | yes z ↦ rw z at (refusal_none_left (f a) (join (map f (span (suc a) k))) e)
        | no z ↦ refusal_none_each (suc a) k (refusal_none_right (f a) (join (map f (span (suc a) k))) (h a) e) i (omega arith) (omega arith)
      ]
