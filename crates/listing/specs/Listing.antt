-- What a line's list and supports are, and what adding arrangements to them does. Assumes nothing.
use Rattle.std.specs.Prelude.{ℕ, ◌+◌, ◌-◌, ◌*◌, ◌≤◌, ◌<◌, min, ◌≡◌, cond, List, ◌++◌, map, ltb, length, get_or, true}
use Rattle.tally.specs.Tally.{span}
use Rattle.tally.specs.Tally as tally
use Rattle.bits.specs.Bit.{bit}
use Rattle.bits.specs.Sum.{sum_over, same}
use Rattle.table.specs.Closed.{arrangements}
use Rattle.lane.specs.declared.Lane.{Lane}
use Rattle.subset_table.specs.Subsets.{subset, of_size}
use Rattle.words.specs.Word.{Known, arrangement_of, word_of, set_of, inner_of, part}
use Rattle.arcs.specs.Arc.{lives, live, support}
use Rattle.table.specs.Lines.{black_at, LineOf}
use Rattle.queue_state.specs.Layout.{lengths_at, length_place, per_line, live_place, support_place, slab_size}

-- The numbers of the arrangements that line ℓ lists.
abbrev pub list_of : List ℕ → ℕ → List ℕ
list_of l ℓ = map (λ j. live l ℓ j) (span 0 (lives l ℓ))

-- Place q of the state is not one of line ℓ: not how many arrangements it lists, not in its list, not among its supports.
pub record Elsewhere (ℓ q : ℕ) : Type 0 where
  pub count : q ≡ length_place ℓ → ⊥
  pub list : (j : ℕ) → j < per_line → (q ≡ live_place ℓ j → ⊥)
  pub supports : (p v : ℕ) → p < 9 → v < 16 → (q ≡ support_place (ℓ * 9 + p) v → ⊥)

-- ---- supports

-- The supports of line ℓ rise by f, at each place and value, and nothing else moves.
pub record Raised (ℓ : ℕ) (l l' : List ℕ) (f : ℕ → ℕ → ℕ) : Type 0 where
  pub size : length l' ≡ length l
  pub supports : (p v : ℕ) → p < 9 → v < 16 → support l' (ℓ * 9 + p) v ≡ support l (ℓ * 9 + p) v + f p v
  pub rest : (q : ℕ) → ((p v : ℕ) → p < 9 → v < 16 → (q ≡ support_place (ℓ * 9 + p) v → ⊥)) → get_or l' q 0 ≡ get_or l q 0

-- By one at one place and value.
unfoldable pub one_at : ℕ → ℕ → ℕ → ℕ → ℕ
one_at p v q w = same (q * 16 + w) (p * 16 + v)

-- By the digits of a set at one place.
unfoldable pub digits_at : ℕ → ℕ → ℕ → ℕ → ℕ
digits_at p set q w = min (same q p) (bit w set)

-- By the digits of a word at its inner places.
abbrev pub inner_at : ℕ → ℕ → ℕ → ℕ
inner_at w q v = min (bit v (set_of w)) (bit q (inner_of w))

-- The support of the value v at place p of line ℓ can rise.
pub record RaiseAsk (ℓ p v : ℕ) (l : List ℕ) : Type 0 where
  pub long : length l ≡ slab_size
  pub place : p < 9
  pub value : v < 16
  pub low : support l (ℓ * 9 + p) v < 65535

-- The pattern of the word w can be added to the supports of a line.
pub record WordAsk (lane : Lane) (w : ℕ) (l : List ℕ) : Type 0 where
  pub long : length l ≡ slab_size
  pub low : (p v : ℕ) → p < 9 → v < 16 → support l (lane.number * 9 + p) v ≤ per_line

-- ---- arrangements

-- The arrangements ids are added to line ℓ, at the end of its list and to its supports, and nothing else moves.
pub record Added (n ℓ : ℕ) (l l' ids : List ℕ) : Type 0 where
  pub size : length l' ≡ length l
  pub list : list_of l' ℓ ≡ list_of l ℓ ++ ids
  pub supports : (p v : ℕ) → p < 9 → v < 16 →
      support l' (ℓ * 9 + p) v ≡ support l (ℓ * 9 + p) v + tally.sum (map (λ id. part (black_at ℓ) (word_of n id) p v) ids)
  pub rest : (q : ℕ) → Elsewhere ℓ q → get_or l' q 0 ≡ get_or l q 0

-- They can be added to a line: there is room for them.
pub record AddAsk (lane : Lane) (l ids : List ℕ) : Type 0 where
  pub long : length l ≡ slab_size
  pub room : lives l lane.number + length ids ≤ per_line
  pub low : (p v : ℕ) → p < 9 → v < 16 → support l (lane.number * 9 + p) v ≤ lives l lane.number

-- Those of one line, one after the other: what is added so far and the rest are the whole.
pub record Adding (lane : Lane) (l₀ l rest whole : List ℕ) : Type 0 where
  pub done : List ℕ
  pub added : Added lane.len lane.number l₀ l done
  pub is : done ++ rest ≡ whole
  pub ask : AddAsk lane l rest

-- Subset s has len digits, all of size n.
pub record StartsAsk (n s len : ℕ) : Type 0 where
  pub among : s < 128
  pub digits : of_size n (subset s) ≡ true
  pub few : len + 2 ≤ n

-- ---- lines

-- Line ℓ lists no arrangement.
pub record Unlisted (ℓ : ℕ) (l : List ℕ) : Type 0 where
  pub none : lives l ℓ ≡ 0
  pub supports : (p v : ℕ) → p < 9 → v < 16 → support l (ℓ * 9 + p) v ≡ 0

-- Line ℓ lists the arrangements of its target t, in the order of the definition, and its supports are their tally.
pub record Lists (n ℓ t : ℕ) (l : List ℕ) : Type 0 where
  pub room : lives l ℓ ≤ per_line
  pub is : map (arrangement_of n) (list_of l ℓ) ≡ arrangements n t
  pub known : (j : ℕ) → j < lives l ℓ → Known n (live l ℓ j)
  pub supports : (p v : ℕ) → p < 9 → v < 16 → support l (ℓ * 9 + p) v ≡ sum_over 0 (lives l ℓ) (λ (j : ℕ). part (black_at ℓ) (word_of n (live l ℓ j)) p v)

-- ---- all lines

-- The target of line ℓ.
unfoldable pub target_at : List ℕ → List ℕ → ℕ → ℕ
target_at rows columns ℓ = cond (ltb ℓ 9) (get_or rows ℓ 0) (get_or columns (ℓ - 9) 0)

-- Each line lists its arrangements, and nothing but lists and supports moved.
pub record LinesListed (n : ℕ) (rows columns l l' : List ℕ) : Type 0 where
  pub size : length l' ≡ length l
  pub each : (ℓ : ℕ) → LineOf n ℓ → Lists n ℓ (target_at rows columns ℓ) l'
  pub rest : (q : ℕ) → q < lengths_at → get_or l' q 0 ≡ get_or l q 0
