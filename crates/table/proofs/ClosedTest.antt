-- Tests that pass exactly where an arrangement is live and exactly where a table is closed, one for each point. Assumes nothing.
use Prim.Native.Nat.{ℕ, suc, ◌+◌, ◌<◌}
use mathlib.Core.Path.{◌≡◌, refl, sym, ◌∙◌}
use mathlib.Core.Logic.{◌≢◌}
use mathlib.Core.Bool.{Bool, beq, true, false, ◌&&◌, ◌||◌, cond, true≢false}
use mathlib.Core.List.Memᴰ
use mathlib.Core.List.{List, [], ◌∷◌, Memᴰ}
use native.Mathlib.Omega.{arith}
use native.Mathlib.Decide.{ℕ_discrete}
use lib.Dec.{eqb}
use lib.ListN.{length}
use borrow.Author.Tests.{eqb-true}
use Rattle.tally.specs.Tally.{span, all, any}
use Rattle.tally.proofs.TallyLaws.{span_in, span_mem}
use Rattle.rules.specs.Grid.{digits, Line, across, down, index, lines, Puzzle, target}
use Rattle.rules.proofs.GridLaws.{line_in, in_line}
use Rattle.rules.specs.Mark.{left_black, right_black, upper_black, lower_black}
use Rattle.table.specs.Closed.{Arrangement, arrangements, place, allows, Live, Supported, Closed, lays}
use Rattle.table.specs.Table.{Table, places, first_black, half}
use Rattle.table.specs.Lines.{Places}
use Rattle.table.proofs.Decides.{Decides, implies, restate, is, equal, agree, both, if_then, each, some, each_below, each_line}

-- ---- live arrangements

-- Each cell of the arrangement has a candidate of its pattern; the pattern has no values but the two blacks and the digits of the set.
unfoldable pub filled_test : ℕ → ℕ → Places → Arrangement → Bool
filled_test n k m a = all (λ j. any (λ v. m (place n a j) v && allows k a j v) (k ∷ suc k ∷ a.digit_set)) (span 0 (length a.digit_set + 2))

-- Each digit of the set is a candidate of a cell between the ends.
unfoldable pub placed_test : ℕ → Places → Arrangement → Bool
placed_test n m a = all (λ d. any (λ j. m (place n a j) d) (span 1 (length a.digit_set))) a.digit_set

unfoldable pub live_test : ℕ → ℕ → Places → Arrangement → Bool
live_test n k m a = filled_test n k m a && placed_test n m a

-- The value v of place i lies in a live arrangement of the line.
unfoldable pub supported_test : ℕ → ℕ → ℕ → Places → ℕ → ℕ → Bool
supported_test n k t m i v = any (λ a. live_test n k m a && lays n k i v a) (arrangements n t)

-- either black stands in the list that is searched
black_in : (k x : ℕ) (b : Bool) {s : List ℕ} → x ≡ cond b k (suc k) → Memᴰ x (k ∷ suc k ∷ s)
black_in k x true e = Memᴰ.head e
black_in k x false e = Memᴰ.tail (Memᴰ.head e)

-- what a pattern allows stands in the list that is searched
allowed_in : (k : ℕ) (a : Arrangement) (j v : ℕ) → allows k a j v ≡ true → Memᴰ v (k ∷ suc k ∷ a.digit_set)
unfolding allows
allowed_in k a j v t = go (eqb j 0) (eqb j (length a.digit_set + 1)) a.is_inside t
  where
    go : (first last b : Bool) →
        cond first (eqb v (cond b k (suc k))) (cond last (eqb v (cond b (suc k) k)) (any (eqb v) a.digit_set)) ≡ true → Memᴰ v (k ∷ suc k ∷ a.digit_set)
    go true last b t = black_in k v b (eqb-true v _ t)
    go false true true t = black_in k v false (eqb-true v _ t)
    go false true false t = black_in k v true (eqb-true v _ t)
    go false false b t = let w = (some (equal v) a.digit_set).holds t in Memᴰ.tail (Memᴰ.tail (Memᴰ.cast w.2 w.1))

-- The test of a live arrangement says what `Live` says.
pub live : (n k : ℕ) (m : Places) (a : Arrangement) → Decides (live_test n k m a) (Live n k m a)
unfolding live_test filled_test placed_test
live n k m a =
    restate (λ w. (λ j h. w.filled j h, λ d i. w.placed d i)) (λ w. record { filled = λ j h. w.0 j h; placed = λ d i. w.1 d i }) (both cells digits)
  where
    cells : Decides (filled_test n k m a) ((j : ℕ) → j < length a.digit_set + 2 → (v : ℕ) × (m (place n a j) v ≡ true) × (allows k a j v ≡ true))
    cells =
        each_below (λ j. restate (λ w. (w.0, allowed_in k a j w.0 w.2, (w.1, w.2))) (λ w. (w.0, w.2.0, w.2.1))
        (some (λ v. both (is (m (place n a j) v)) (is (allows k a j v))) (k ∷ suc k ∷ a.digit_set))) (length a.digit_set + 2)

    digits : Decides (placed_test n m a)
        ((d : ℕ) → Memᴰ d a.digit_set → (j : ℕ) × (0 < j) × (j < length a.digit_set + 1) × (m (place n a j) d ≡ true))
    digits =
        each (λ d. restate (λ w. (w.0, span_mem 1 (length a.digit_set) w.0 (omega (arith, w.1)) (omega (arith, w.2)), w.3))
        (λ w. let r = span_in 1 (length a.digit_set) w.0 w.1 in (w.0, omega arith, omega arith, w.2))
        (some (λ j. is (m (place n a j) d)) (span 1 (length a.digit_set)))) a.digit_set

-- A step of the arrangement lies at place i, and its pattern allows the value v there.
pub record Covers (n k : ℕ) (a : Arrangement) (i v : ℕ) : Type 0 where
  pub step : ℕ
  pub within : step < length a.digit_set + 2
  pub there : place n a step ≡ i
  pub allowed : allows k a step v ≡ true

-- The test of what an arrangement has at a place says what `Covers` says.
pub covers : (n k : ℕ) (a : Arrangement) (i v : ℕ) → Decides (lays n k i v a) (Covers n k a i v)
unfolding lays
covers n k a i v =
    restate (λ c. (c.step, span_mem 0 (length a.digit_set + 2) c.step (omega arith) (omega (arith, c.within)), (c.there, c.allowed)))
    (λ w. let r = span_in 0 (length a.digit_set + 2) w.0 w.1 in record { step = w.0; within = omega arith; there = w.2.0; allowed = w.2.1 })
    (some (λ j. both (equal (place n a j) i) (is (allows k a j v))) (span 0 (length a.digit_set + 2)))

-- The test of support says what `Supported` says.
pub supported : (n k t : ℕ) (m : Places) (i v : ℕ) → Decides (supported_test n k t m i v) (Supported n k t m i v)
unfolding supported_test
supported n k t m i v =
    restate (λ s. (s.arrangement, s.listed, (s.alive, s.covers))) (λ w. record { arrangement = w.0; listed = w.1; alive = w.2.0; covers = w.2.1 })
    (some (λ a. both (live n k m a) (is (lays n k i v a))) (arrangements n t))

-- ---- closed tables

-- No other element of the list passes.
unfoldable pub sole_test : List ℕ → (ℕ → Bool) → ℕ → Bool
sole_test xs p x = all (λ y. implies (p y) (eqb y x)) xs

-- Each candidate of each line passes a test; vs are the values that are looked at.
unfoldable pub every_test : ℕ → Table → (Line → List ℕ) → (Line → ℕ → ℕ → Bool) → Bool
every_test n t vs q = all (λ ℓ. all (λ i. all (λ v. implies (places t ℓ i v) (q ℓ i v)) (vs ℓ)) (span 0 n)) (lines n)

-- The values of a line's own half.
abbrev pub own_half : ℕ → Line → List ℕ
own_half n ℓ = half n (first_black ℓ)

-- The values of the half that a line's cells have in the lines that cross it.
unfoldable pub cross_half : ℕ → Line → List ℕ
cross_half n (across r) = half n upper_black
cross_half n (down c) = half n left_black

-- The place i has no candidate but v among the values ws.
abbrev pub sole_value : Table → Line → List ℕ → ℕ → ℕ → Bool
sole_value t ℓ ws i v = sole_test ws (places t ℓ i) v

-- The candidate v has no place but i in the line.
abbrev pub sole_place : ℕ → Table → Line → ℕ → ℕ → Bool
sole_place n t ℓ i v = sole_test (span 0 n) (λ j. places t ℓ j v) i

-- Point 1: the only candidate of a half has no other place in the line.
unfoldable pub lone_test : ℕ → Table → Bool
lone_test n t = every_test n t (own_half n) (λ ℓ i v. implies (sole_value t ℓ (own_half n ℓ) i v) (sole_place n t ℓ i v))

-- Point 1, crossed: a digit that is the only candidate of the crossing half has no other place in the line.
unfoldable pub crossed_test : ℕ → Table → Bool
crossed_test n t = every_test n t (λ ℓ. digits n) (λ ℓ i v. implies (sole_value t ℓ (cross_half n ℓ) i v) (sole_place n t ℓ i v))

-- Point 2: a candidate with no other place in the line is the only one of its half.
unfoldable pub single_test : ℕ → Table → Bool
single_test n t = every_test n t (own_half n) (λ ℓ i v. implies (sole_place n t ℓ i v) (sole_value t ℓ (own_half n ℓ) i v))

-- Point 3: a cell has row blacks exactly where it has column blacks.
unfoldable pub blacks_test : ℕ → Table → Bool
blacks_test n t = all (λ r. all (λ c. beq (t r c left_black || t r c right_black) (t r c upper_black || t r c lower_black)) (span 0 n)) (span 0 n)

-- Point 4: each candidate lies in a live arrangement.
unfoldable pub supports_test : Puzzle → Table → Bool
supports_test p t = every_test p.size t (own_half p.size) (λ ℓ. supported_test p.size (first_black ℓ) (target p ℓ) (places t ℓ))

-- The outcomes of the points, in this order.
unfoldable pub points : Puzzle → Table → List Bool
points p t = lone_test p.size t ∷ crossed_test p.size t ∷ single_test p.size t ∷ blacks_test p.size t ∷ supports_test p t ∷ []

-- All points hold.
unfoldable pub closed_test : Puzzle → Table → Bool
closed_test p t = all (λ b. b) (points p t)

-- what is there at one place only is gone elsewhere
not_else : (b : Bool) {x y : ℕ} → (b ≡ true → x ≡ y) → x ≢ y → b ≡ false
not_else true h ne = absurd (ne (h refl))
not_else false h ne = refl

-- and back
only_there : {b : Bool} {x y : ℕ} → (x ≢ y → b ≡ false) → b ≡ true → x ≡ y
only_there {x = x} {y = y} h t = elim (ℕ_discrete x y) [ yes e ↦ e | no ne ↦ absurd (true≢false (sym t ∙ h ne)) ]

module _ (p : Puzzle) (t : Table) where
  -- a test of each candidate says what it says of each
  every : (vs : Line → List ℕ) {q : Line → ℕ → ℕ → Bool} {Q : Line → ℕ → ℕ → Type 0} → ((ℓ : Line) (i v : ℕ) → Decides (q ℓ i v) (Q ℓ i v)) →
      Decides (every_test p.size t vs q)
      ((ℓ : Line) → index ℓ < p.size → (i : ℕ) → i < p.size → (v : ℕ) → Memᴰ v (vs ℓ) → places t ℓ i v ≡ true → Q ℓ i v)
  unfolding every_test
  every vs d = each_line (λ ℓ. each_below (λ i. each (λ v. if_then (is (places t ℓ i v)) (d ℓ i v)) (vs ℓ)) p.size) p.size

  -- the tests of other candidates at a place, and of other places of a candidate
  sole_value_lem : (ℓ : Line) (ws : List ℕ) (i v : ℕ) → Decides (sole_value t ℓ ws i v) ((w : ℕ) → Memᴰ w ws → places t ℓ i w ≡ true → w ≡ v)
  unfolding sole_test
  sole_value_lem ℓ ws i v = each (λ w. if_then (is (places t ℓ i w)) (equal w v)) ws

  sole_place_lem : (ℓ : Line) (i v : ℕ) → Decides (sole_place p.size t ℓ i v) ((j : ℕ) → j < p.size → places t ℓ j v ≡ true → j ≡ i)
  unfolding sole_test
  sole_place_lem ℓ i v = each_below (λ j. if_then (is (places t ℓ j v)) (equal j i)) p.size

  -- the two crossed forms as one, over lines
  crossing : Closed p t → (ℓ : Line) → index ℓ < p.size → (i : ℕ) → i < p.size → (v : ℕ) → Memᴰ v (digits p.size) → places t ℓ i v ≡ true →
      ((w : ℕ) → Memᴰ w (cross_half p.size ℓ) → places t ℓ i w ≡ true → w ≡ v) → (j : ℕ) → j < p.size → places t ℓ j v ≡ true → j ≡ i
  unfolding places index cross_half
  crossing c (across r) l i hi d m e only j hj = only_there (c.crossed_back r i j d l hi hj m e only)
  crossing c (down k) l i hi d m e only j hj = only_there (c.crossed i k j d hi l hj m e only)

  -- The test of a closed table says what `Closed` says.
  pub closed : Decides (closed_test p t) (Closed p t)
  unfolding closed_test points all lone_test crossed_test single_test blacks_test supports_test places index cross_half
  closed =
      let n = p.size in
      restate
      (λ c. (
        λ ℓ l i hi v m e only j hj. only_there (λ ne. (c.lines ℓ (line_in n ℓ l)).lone i j v hi hj (λ q. ne (sym q)) m e only),
        (
          crossing c,
          (
            λ ℓ l i hi v m e only w q. (c.lines ℓ (line_in n ℓ l)).single i v w hi m q e only,
            (λ r hr k. c.blacks r k hr, (λ ℓ l i hi v m e. (c.lines ℓ (line_in n ℓ l)).supported i v hi m e, refl)),
          ),
        ),
      ))
      (λ h. record {
        lines = λ ℓ q. let l = in_line n ℓ q in record {
          lone = λ i j v hi hj ne m e only. not_else (places t ℓ j v) (h.0 ℓ l i hi v m e only j hj) (λ q. ne (sym q));
          single = λ i v w hi m q e only. h.1.1.0 ℓ l i hi v m e only w q;
          supported = λ i v hi. h.1.1.1.1.0 ℓ l i hi v;
        };
        crossed = λ r c i d hr hc hi m e only. not_else (t i c d) (h.1.0 (down c) hc r hr d m e only i hi);
        crossed_back = λ r c j d hr hc hj m e only. not_else (t r j d) (h.1.0 (across r) hr c hc d m e only j hj);
        blacks = λ r c hr. h.1.1.1.0 r hr c;
      })
      (both (every (own_half n) (λ ℓ i v. if_then (sole_value_lem ℓ (own_half n ℓ) i v) (sole_place_lem ℓ i v)))
      (both (every (λ ℓ. digits n) (λ ℓ i v. if_then (sole_value_lem ℓ (cross_half n ℓ) i v) (sole_place_lem ℓ i v)))
      (both (every (own_half n) (λ ℓ i v. if_then (sole_place_lem ℓ i v) (sole_value_lem ℓ (own_half n ℓ) i v)))
      (both (each_below (λ r. each_below (λ c. agree (t r c left_black || t r c right_black) (t r c upper_black || t r c lower_black)) n) n)
      (both (every (own_half n) (λ ℓ. supported n (first_black ℓ) (target p ℓ) (places t ℓ))) (is true))))))
