-- Adding arrangements to a line, one after the other. Assumes nothing.
use Prim.Native.Nat.{ℕ, zero, suc, ◌+◌, ◌-◌, ◌*◌, ◌/◌, ◌%◌, ◌≤◌, ◌<◌}
use mathlib.Core.Path.{◌≡◌, refl, sym, ap, ap₂, ◌∙◌}
use mathlib.Core.Bool.{Bool, true, false}
use mathlib.Core.List.{List, [], ◌∷◌, ◌++◌, map, append_assoc, append-nil, map-append}
use native.Mathlib.Omega.{arith}
use native.Mathlib.Decide.{dec_lt}
use lib.ListN.{length, get_or, set, length-set, length-append, length-map}
use lib.Seq.{get_or-set_same, get_or-set_other}
use Rattle.std.specs.Bool.{IsTrue}
use Rattle.std.specs.declared.ops.Range.{Range}
use Rattle.tally.specs.Tally.{span, keep, join}
use Rattle.tally.specs.Tally as tally
use Rattle.tally.proofs.TallyLaws.{sum_append, span_length}
use Rattle.rules.proofs.StridedLaws.{map_next}
use Rattle.lane.specs.declared.Lane.{Lane}
use Rattle.rules.specs.Size.{Size}
use Rattle.subset_table.specs.declared.Subset.{Subset}
use Rattle.subset_table.specs.Subsets.{subset, of_size, size_in, from_sum}
use Rattle.words.specs.Word.{Known, Shaped, word_of, part, on_side}
use Rattle.words.proofs.WordFacts.{subset_fits, from_sum_most}
use Rattle.words.proofs.PatternLaws.{part_lt}
use Rattle.words.proofs.WordLaws.{known_shaped}
use Rattle.arcs.specs.Arc.{lives, live, support}
use Rattle.table.specs.Lines.{black_at}
use Rattle.queue_state.specs.Layout.{length_place, per_line, live_place, support_place}
use Rattle.listing.specs.Numbers.{scan, starts_from, side_from, side_of}
use Rattle.listing.specs.Sides.{StartsAre}
use Rattle.listing.specs.Listing.{list_of, Raised, WordAsk, Added, AddAsk, Adding, StartsAsk}

-- ---- lists

-- two lists of the numbers from a on
pub map_same : (f g : ℕ → ℕ) (a k : ℕ) → ((j : ℕ) → a ≤ j → j < a + k → f j ≡ g j) → map f (span a k) ≡ map g (span a k)
unfolding span
map_same f g a zero e = refl
map_same f g a (suc k) e = ap₂ ◌∷◌ (e a (omega arith) (omega arith)) (map_same f g (suc a) k (λ j h l. e j (omega arith) (omega arith)))

-- as many parts as arrangements, each 0 or 1
parts_le : (k n p v : ℕ) (ids : List ℕ) → tally.sum (map (λ id. part k (word_of n id) p v) ids) ≤ length ids
unfolding tally.sum
parts_le k n p v [] = omega arith
parts_le k n p v (id ∷ ids) = omega (arith, part_lt k (word_of n id) p v, parts_le k n p v ids)

-- ---- scans

module _ (f : ℕ → List ℕ) (ok : ℕ → Bool) (m : ℕ) where
  scan_yes : (a : ℕ) → a < m → ok a ≡ true → scan f ok a m ≡ f a ++ scan f ok (a + 1) m
  unfolding scan span keep join
  scan_yes a h e = let u : m - a ≡ suc (m - (a + 1)) = omega arith in let s : a + 1 ≡ suc a = omega arith in rw (u, s, e)

  scan_no : (a : ℕ) → a < m → ok a ≡ false → scan f ok a m ≡ scan f ok (a + 1) m
  unfolding scan span keep join
  scan_no a h e = let u : m - a ≡ suc (m - (a + 1)) = omega arith in let s : a + 1 ≡ suc a = omega arith in rw (u, s, e)

  scan_end : (a : ℕ) → m ≤ a → scan f ok a m ≡ []
  unfolding scan span keep join
  scan_end a h = let u : m - a ≡ 0 = omega arith in rw u

  scan_after : (k : ℕ) → ((i : ℕ) → i < k → i < m → ok i ≡ false) → scan f ok 0 m ≡ scan f ok k m
  scan_after zero e = refl
  scan_after (suc k) e = scan_after k (λ i j l. e i (omega arith) l) ∙ next (dec_lt k m)
    where
      next : Dec (k < m) → scan f ok k m ≡ scan f ok (suc k) m
      next (yes d) = let u : suc k ≡ k + 1 = omega arith in rw u (scan_no k d (e k (omega arith) d))
      next (no d) = scan_end k (omega arith) ∙ sym (scan_end (suc k) (omega arith))

  scan_none : (k a : ℕ) → m ≤ a + k → ((i : ℕ) → a ≤ i → i < m → ok i ≡ false) → scan f ok a m ≡ []
  scan_none zero a h e = scan_end a (omega arith)
  scan_none (suc k) a h e =
      elim (dec_lt a m) [
        | yes d ↦ scan_no a d (e a (omega arith) d) ∙ scan_none k (a + 1) (omega arith) (λ i j l. e i (omega arith) l)
        | no d ↦ scan_end a (omega arith)
      ]

-- ---- one after the other

list_length : (l : List ℕ) (ℓ : ℕ) → length (list_of l ℓ) ≡ lives l ℓ
list_length l ℓ = length-map (span 0 (lives l ℓ)) (λ j. live l ℓ j) ∙ span_length 0 (lives l ℓ)

-- the line has that many more
pub added_lives : {n ℓ : ℕ} {l l' ids : List ℕ} → Added n ℓ l l' ids → lives l' ℓ ≡ lives l ℓ + length ids
added_lives {n} {ℓ} {l} {l'} {ids} a =
    sym (list_length l' ℓ) ∙ ap length a.list ∙ length-append (list_of l ℓ) ids ∙ ap (λ x. x + length ids) (list_length l ℓ)

added_none : (n ℓ : ℕ) (l : List ℕ) → Added n ℓ l l []
unfolding tally.sum
added_none n ℓ l = record { size = refl; list = sym (append-nil (list_of l ℓ)); supports = λ p v h k. omega arith; rest = λ q h. refl }

-- some, then others
pub added_both : {n ℓ : ℕ} {a b c x y : List ℕ} → Added n ℓ a b x → Added n ℓ b c y → Added n ℓ a c (x ++ y)
added_both {n} {ℓ} {a} {b} {c} {x} {y} r s =
    record {
      size = s.size ∙ r.size;
      list = s.list ∙ ap (λ z. z ++ y) r.list ∙ append_assoc (list_of a ℓ) x y;
      supports = λ p v h k.
          omega (
            arith,
            r.supports p v h k,
            s.supports p v h k,
            ap tally.sum (map-append (λ id. part (black_at ℓ) (word_of n id) p v) x y)
                ∙ sum_append (map (λ id. part (black_at ℓ) (word_of n id) p v) x) (map (λ id. part (black_at ℓ) (word_of n id) p v) y),
          );
      rest = λ q h. s.rest q h ∙ r.rest q h;
    }

-- where there is room for all, there is room for the first of them, and for the others after those
pub addable_first : {lane : Lane} {l : List ℕ} (x y : List ℕ) → AddAsk lane l (x ++ y) → AddAsk lane l x
addable_first x y a =
    record {
      long = a.long;
      room = omega (arith, a.room, length-append x y);
      low = a.low;
    }

pub addable_after : {lane : Lane} {l l' : List ℕ} (x y : List ℕ) → AddAsk lane l (x ++ y) → Added lane.len lane.number l l' x → AddAsk lane l' y
addable_after {lane} x y a d =
    record {
      long = d.size ∙ a.long;
      room = omega (arith, a.room, length-append x y, added_lives d);
      low = λ p v h k. omega (arith, a.low p v h k, d.supports p v h k, added_lives d, parts_le (black_at lane.number) lane.len p v x);
    }

-- none yet; some more; all
pub adding_start : {lane : Lane} {l whole : List ℕ} → AddAsk lane l whole → Adding lane l l whole whole
adding_start {lane} {l = l} a = record { done = []; added = added_none lane.len lane.number l; is = refl; ask = a }

pub adding_next : {lane : Lane} {l₀ l l' whole : List ℕ} (x y : List ℕ) → Adding lane l₀ l (x ++ y) whole → Added lane.len lane.number l l' x →
    Adding lane l₀ l' y whole
adding_next x y a d =
    record { done = a.done ++ x; added = added_both a.added d; is = append_assoc a.done x y ∙ a.is; ask = addable_after x y a.ask d }

pub adding_end : {lane : Lane} {l₀ l whole : List ℕ} → Adding lane l₀ l [] whole → Added lane.len lane.number l₀ l whole
adding_end {lane} {l₀ = l₀} {l = l} a = rw (sym (append-nil a.done) ∙ a.is) at a.added

-- ---- one arrangement, as the code adds it

-- the list is one longer
abbrev pub appended : ℕ → List ℕ → ℕ → ℕ → List ℕ
appended ℓ l len id = set (set l (live_place ℓ len) id) (length_place ℓ) (len + 1)

pub joined_length : (ℓ : ℕ) (l : List ℕ) (len id : ℕ) → length (appended ℓ l len id) ≡ length l
joined_length ℓ l len id = simp length-set

module _ {lane : Lane} (z : Size lane.len) {l : List ℕ} (id : ℕ) (a : AddAsk lane l (id ∷ [])) (y : Known lane.len id) (len : ℕ) (e : len ≡ lives l lane.number) where
  abbrev n : ℕ
  n = lane.len

  abbrev ℓ : ℕ
  ℓ = lane.number

  other : (q : ℕ) → (q ≡ live_place ℓ len → ⊥) → (q ≡ length_place ℓ → ⊥) → get_or (appended ℓ l len id) q 0 ≡ get_or l q 0
  other q x z = get_or-set_other (set l (live_place ℓ len) id) (length_place ℓ) q (len + 1) 0 z ∙ get_or-set_other l (live_place ℓ len) q id 0 x

  room : len < per_line
  room = omega (arith, a.room)

  support_still : (p v : ℕ) → p < 9 → v < 16 → support (appended ℓ l len id) (ℓ * 9 + p) v ≡ support l (ℓ * 9 + p) v
  support_still p v h i = other (support_place (ℓ * 9 + p) v) (λ x. omega (arith, room, lane.within)) (λ x. omega (arith, lane.within))

  pub add_shaped : Shaped n (word_of n id)
  add_shaped = known_shaped n id z y

  -- its pattern can be added to the supports
  pub add_ask : WordAsk lane (word_of n id) (appended ℓ l len id)
  add_ask =
      record {
        long = joined_length ℓ l len id ∙ a.long;
        low = λ p v h i. omega (arith, support_still p v h i, a.low p v h i, a.room);
      }

  module _ {l₃ : List ℕ} (r : Raised ℓ (appended ℓ l len id) l₃ (part lane.first (word_of n id))) where
    lives_now : lives l₃ ℓ ≡ len + 1
    lives_now =
        r.rest (length_place ℓ) (λ p v b c x. omega (arith, lane.within))
        ∙ get_or-set_same (set l (live_place ℓ len) id) (length_place ℓ) (len + 1) 0 (simp length-set (omega (arith, a.long, lane.within)))

    last_now : live l₃ ℓ len ≡ id
    last_now =
        r.rest (live_place ℓ len) (λ p v b c x. omega (arith, room, lane.within))
        ∙ get_or-set_other (set l (live_place ℓ len) id) (length_place ℓ) (live_place ℓ len) (len + 1) 0 (λ x. omega (arith, lane.within))
        ∙ get_or-set_same l (live_place ℓ len) id 0 (omega (arith, a.long, lane.within, room))

    old_now : (j : ℕ) → j < len → live l₃ ℓ j ≡ live l ℓ j
    old_now j h =
        r.rest (live_place ℓ j) (λ p v b c x. omega (arith, room, lane.within)) ∙ other (live_place ℓ j) (λ x. omega arith) (λ x. omega (arith, lane.within))

    old_list : map (λ j. live l₃ ℓ j) (span 0 len) ≡ list_of l ℓ
    old_list = map_same (λ j. live l₃ ℓ j) (λ j. live l ℓ j) 0 len (λ j _ h. old_now j (omega arith)) ∙ ap (λ m. map (λ j. live l ℓ j) (span 0 m)) e

    -- and then it is in the list
    pub add_done : Added n ℓ l l₃ (id ∷ [])
    unfolding tally.sum
    add_done =
        record {
          size = r.size ∙ joined_length ℓ l len id;
          list =
              ap (λ m. map (λ j. live l₃ ℓ j) (span 0 m)) lives_now
              ∙ map_next (λ j. live l₃ ℓ j) len
              ∙ ap₂ (λ x z. x ++ z ∷ []) old_list last_now;
          supports = λ p v h i.
              let x : part lane.first (word_of n id) p v ≡ part (black_at ℓ) (word_of n id) p v = ap (λ b. part b (word_of n id) p v) lane.black in
              omega (arith, r.supports p v h i, support_still p v h i);
          rest = λ q h. r.rest q h.supports ∙ other q (h.list len room) h.count;
        }

-- ---- what a scan lists, one after the other

module _ (f : ℕ → List ℕ) (ok : ℕ → Bool) (a m : ℕ) {lane : Lane} {l₀ l whole : List ℕ} (d : Adding lane l₀ l (scan f ok a m) whole) where
  pub scan_ask : a < m → ok a ≡ true → AddAsk lane l (f a)
  scan_ask h e = addable_first (f a) (scan f ok (a + 1) m) (rw (scan_yes f ok m a h e) at d.ask)

  pub scan_next : a < m → ok a ≡ true → {l' : List ℕ} → Added lane.len lane.number l l' (f a) → Adding lane l₀ l' (scan f ok (a + 1) m) whole
  scan_next h e r = adding_next (f a) (scan f ok (a + 1) m) (rw (scan_yes f ok m a h e) at d) r

  pub scan_skip : a < m → ok a ≡ false → Adding lane l₀ l (scan f ok (a + 1) m) whole
  scan_skip h e = rw (scan_no f ok m a h e) at d

  pub scan_done : m ≤ a → Added lane.len lane.number l₀ l whole
  scan_done h = adding_end (rw (scan_end f ok m a h) at d)

-- the starts of a subset that are on the side
module _ (lane : Lane) {outside : Bool} {len : ℕ} {starts : Range ℕ} {x : Subset} (s : ℕ) (r : StartsAre lane.len len outside starts) (same : x ≡ subset s)
    (long : len ≡ x.size) where
  f : len ≡ size_in s
  f = long ∙ ap (λ y. y.size) same

  on : (i : ℕ) → starts.start ≤ i → i < starts.end → on_side lane.len outside (i + size_in s + 2) ≡ true
  on i g h = rw f at ((r.exact i (omega (arith, r.within))).1 (g, h))

  off : (i : ℕ) → i < lane.len → ((starts.start ≤ i) × (i < starts.end) → ⊥) → on_side lane.len outside (i + size_in s + 2) ≡ false
  off i h d = rw (← f) (go (on_side lane.len outside (i + len + 2)) (r.exact i h).0)
    where
      go : (b : Bool) → (IsTrue b → (starts.start ≤ i) × (i < starts.end)) → b ≡ false
      go true e = absurd (d (e refl))
      go false e = refl

  module _ {l₀ : List ℕ} where
    pub starts_start : AddAsk lane l₀ (starts_from lane.len outside s (size_in s) 0) →
        Adding lane l₀ l₀ (starts_from lane.len outside s (size_in s) starts.start) (starts_from lane.len outside s (size_in s) 0)
    unfolding starts_from
    starts_start a = rw (← scan_after _ _ lane.len starts.start (λ i h j. off i j (λ q. omega (arith, q.0)))) (adding_start a)

    module _ {l whole : List ℕ} {a : ℕ} (d : Adding lane l₀ l (starts_from lane.len outside s (size_in s) a) whole) where
      pub starts_ask : Size lane.len → starts.start ≤ a → a < starts.end → StartsAsk lane.len s (size_in s) → AddAsk lane l ((s * 9 + a) ∷ []) × Known lane.len (s * 9 + a)
      unfolding starts_from
      starts_ask z g h q =
          let i : a < lane.len = omega (arith, r.within) in
          let u : (s * 9 + a) / 9 ≡ s = omega (arith, z.high) in
          let v : (s * 9 + a) % 9 ≡ a = omega (arith, z.high) in
          (scan_ask _ _ a lane.len d i (on a g h), record { within = omega (arith, q.among, z.high); starts = rw v i; digits = rw u q.digits })

      pub starts_next : starts.start ≤ a → a < starts.end → {l' : List ℕ} → Added lane.len lane.number l l' ((s * 9 + a) ∷ []) →
          Adding lane l₀ l' (starts_from lane.len outside s (size_in s) (a + 1)) whole
      unfolding starts_from
      starts_next g h t = scan_next _ _ a lane.len d (omega (arith, r.within)) (on a g h) t

      pub starts_end : starts.end ≤ a → Added lane.len lane.number l₀ l whole
      unfolding starts_from
      starts_end h =
          let z : (i : ℕ) → a ≤ i → i < lane.len → on_side lane.len outside (i + size_in s + 2) ≡ false = λ i j q. off i q (λ o. omega (arith, o.1)) in
          let e = scan_none (λ i. (s * 9 + i) ∷ []) (λ i. on_side lane.len outside (i + size_in s + 2)) lane.len lane.len a (omega arith) z in
          adding_end (rw e at d)

-- those of one sum: the subsets from .. to
pub sum_start : {lane : Lane} {l : List ℕ} (outside : Bool) (want from : ℕ) → from ≡ from_sum want → AddAsk lane l (side_of lane.len outside want) →
    Adding lane l l (side_from lane.len outside from (from_sum (want + 1))) (side_of lane.len outside want)
unfolding side_of
sum_start outside want from e a = rw e (adding_start a)

module _ {lane : Lane} (z : Size lane.len) {l₀ l whole : List ℕ} (outside : Bool) (want s to : ℕ)
    (d : Adding lane l₀ l (side_from lane.len outside s (from_sum (want + 1))) whole) (e : to ≡ from_sum (want + 1)) where
  pub sum_low : s < to → want < 29 → s < 128
  sum_low h b = omega (arith, from_sum_most (want + 1) (omega arith))

  pub sum_ask : s < to → want < 29 → of_size lane.len (subset s) ≡ true →
      AddAsk lane l (starts_from lane.len outside s (size_in s) 0) × StartsAsk lane.len s (size_in s)
  unfolding side_from
  sum_ask h b t =
      let i = sum_low h b in (scan_ask _ _ s _ d (omega arith) t, record { among = i; digits = t; few = subset_fits s i lane.len z t })

  pub sum_next : s < to → of_size lane.len (subset s) ≡ true → {l' : List ℕ} →
      Added lane.len lane.number l l' (starts_from lane.len outside s (size_in s) 0) →
      Adding lane l₀ l' (side_from lane.len outside (s + 1) (from_sum (want + 1))) whole
  unfolding side_from
  sum_next h t r = scan_next _ _ s _ d (omega arith) t r

  pub sum_skip : s < to → of_size lane.len (subset s) ≡ false → Adding lane l₀ l (side_from lane.len outside (s + 1) (from_sum (want + 1))) whole
  unfolding side_from
  sum_skip h t = scan_skip _ _ s _ d (omega arith) t

  pub sum_end : to ≤ s → Added lane.len lane.number l₀ l whole
  unfolding side_from
  sum_end h = scan_done _ _ s _ d (omega arith)
