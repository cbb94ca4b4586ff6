-- What a strike does to the candidates, the queue and every lag. Assumes nothing.
use Prim.Native.Nat.{ℕ, suc, ◌+◌, ◌-◌, ◌*◌, ◌/◌, ◌%◌, ◌^◌, ◌≤◌, ◌<◌}
use mathlib.Core.Path.{◌≡◌, refl, sym, ap, ◌∙◌}
use mathlib.Core.List.{List}
use mathlib.Core.Logic.{⊎_elim}
use native.Mathlib.Omega.{arith}
use native.Mathlib.Decide.{ℕ_discrete, dec_lt}
use lib.ListN.{length, get_or, set, length-set}
use lib.Seq.{get_or-set_same, get_or-set_other}
use borrow.Author.Tests.{lt-ltb, le-ltb}
use Rattle.bits.specs.Bit.{bit}
use Rattle.bits.proofs.BitLaws.{bit_lt, bit_le, bit_taken, bit_kept, shl_one}
use Rattle.bits.specs.Sum.{same}
use Rattle.bits.proofs.SumLaws.{same_yes, same_no, sum_same, sum_has, sum_fall, sum_next}
use Rattle.table.specs.Lines.{cell_at}
use Rattle.lane.proofs.LaneLaws.{cell_by_row, cell_by_column, lines_through, cell_once}
use Rattle.queue_state.specs.Layout.{queue_room, entry_place, tail_at, line_masks_at, line_mask_place, counters_at, slab_size}
use Rattle.queue_state.specs.Slab.{cand, tail, entry, line_mask, Mirrored, waits, lag, candidates_left, Struck, One, unmasked, UnmaskAsk, StrikeAsk}

pub cand_in : (l : List ℕ) (x v : ℕ) → x < 81 → cand l x v ≡ bit v (get_or l x 0)
unfolding cand
cand_in l x v h = rw (lt-ltb x 81 h)

pub cand_out : (l : List ℕ) (x v : ℕ) → 81 ≤ x → cand l x v ≡ 0
unfolding cand
cand_out l x v h = rw (le-ltb x 81 h)

pub cand_lt : (l : List ℕ) (x v : ℕ) → cand l x v < 2
cand_lt l x v = elim (dec_lt x 81) [ yes h ↦ omega (arith, cand_in l x v h, bit_lt v (get_or l x 0)) | no h ↦ omega (arith, cand_out l x v (omega arith)) ]

-- two states with the same cells have the same candidates
pub cand_same : (l l' : List ℕ) → ((p : ℕ) → p < 81 → get_or l' p 0 ≡ get_or l p 0) → (x v : ℕ) → cand l' x v ≡ cand l x v
cand_same l l' e x v =
    elim (dec_lt x 81) [ yes h ↦ cand_in l' x v h ∙ ap (bit v) (e x h) ∙ sym (cand_in l x v h) | no h ↦ cand_out l' x v (omega arith) ∙ sym (cand_out l x v (omega arith)) ]

-- and where they have the same line masks too, these are those of the table in both
pub mirrored_same : (l l' : List ℕ) → ((p : ℕ) → p < 81 → get_or l' p 0 ≡ get_or l p 0) → ((p : ℕ) → line_masks_at ≤ p → p < counters_at → get_or l' p 0 ≡ get_or l p 0) →
    Mirrored l → Mirrored l'
mirrored_same l l' e f m =
    record { bits = λ ℓ p v h k n. ap (bit p) (f (line_mask_place ℓ v) (omega arith) (omega arith)) ∙ m.bits ℓ p v h k n ∙ sym (cand_same l l' e (cell_at ℓ p) v) }

-- a candidate is one of those that are left
pub cand_left : (l : List ℕ) (x v : ℕ) → x < 81 → v < 16 → cand l x v ≤ candidates_left l
unfolding candidates_left
cand_left l x v h k =
    let a : (x * 16 + v) / 16 ≡ x = omega arith in
    let b : (x * 16 + v) % 16 ≡ v = omega arith in
    rw (a, b) at (sum_has 0 1296 (x * 16 + v) (λ (k : ℕ). cand l (k / 16) (k % 16)) (omega arith) (omega arith))

-- what stands where after a strike
pub record Stricken (l l' : List ℕ) (cell v : ℕ) : Type 0 where
  pub size : length l' ≡ length l
  pub cell_is : get_or l' cell 0 ≡ get_or l cell 0 - 2 ^ v
  pub entry_is : entry l' (tail l) ≡ cell * 16 + v
  pub tail_is : tail l' ≡ tail l + 1
  pub row_mask : line_mask l' (cell / 9) v ≡ line_mask l (cell / 9) v - 2 ^ (cell % 9)
  pub column_mask : line_mask l' (9 + cell % 9) v ≡ line_mask l (9 + cell % 9) v - 2 ^ (cell / 9)
  pub other : (p : ℕ) → (p ≡ cell → ⊥) → (p ≡ entry_place (tail l) → ⊥) → (p ≡ tail_at → ⊥) →
      (p ≡ line_mask_place (cell / 9) v → ⊥) → (p ≡ line_mask_place (9 + cell % 9) v → ⊥) → get_or l' p 0 ≡ get_or l p 0

module _ {l : List ℕ} {cell v : ℕ} (a : StrikeAsk l cell v) where
  has : cand l cell v ≡ 1
  has = cand_in l cell v a.place ∙ a.has

  -- there is room for it
  pub free : tail l < queue_room
  free = omega (arith, a.sized.room, cand_left l cell v a.place a.value, has)

module _ {l l' : List ℕ} {cell v : ℕ} (a : StrikeAsk l cell v) (k : Stricken l l' cell v) where
  -- the candidates
  pub strike_gone : cand l' cell v ≡ 0
  strike_gone = cand_in l' cell v a.place ∙ ap (bit v) k.cell_is ∙ bit_taken v (get_or l cell 0) a.has

  pub strike_kept : (x w : ℕ) → (x ≡ cell → w ≡ v → ⊥) → cand l' x w ≡ cand l x w
  strike_kept x w d =
      elim (dec_lt x 81) [
        | yes h ↦
            elim (ℕ_discrete x cell) [
              | yes e ↦
                  cand_in l' x w h
                  ∙ ap (λ y. bit w (get_or l' y 0)) e
                  ∙ ap (bit w) k.cell_is
                  ∙ bit_kept v (get_or l cell 0) w a.has (d e)
                  ∙ ap (λ y. bit w (get_or l y 0)) (sym e)
                  ∙ sym (cand_in l x w h)
              | no e ↦
                  cand_in l' x w h
                  ∙ ap (bit w) (k.other x e (λ q. omega arith) (λ q. omega arith) (λ q. omega arith) (λ q. omega arith))
                  ∙ sym (cand_in l x w h)
            ]
        | no h ↦ cand_out l' x w (omega arith) ∙ sym (cand_out l x w (omega arith))
      ]

  -- the queue
  pub strike_old : (i : ℕ) → i < tail l → entry l' i ≡ entry l i
  strike_old i h = k.other (entry_place i) (λ e. omega (arith, a.place)) (λ e. omega arith) (λ e. omega (arith, free a)) (λ e. omega (arith, free a)) (λ e. omega (arith, free a))

  pub strike_waits : (h e : ℕ) → h ≤ tail l → waits l' h e ≡ waits l h e + same e (cell * 16 + v)
  unfolding waits
  strike_waits h e u =
      let m : tail l' - h ≡ suc (tail l - h) = omega (arith, k.tail_is) in
      let z : h + (tail l - h) ≡ tail l = omega arith in
      let now : ℕ → ℕ = λ i. same e (entry l' i) in
      let last : now (h + (tail l - h)) ≡ same e (cell * 16 + v) = rw z (ap (same e) k.entry_is) in
      let old = sum_same h (tail l - h) now (λ i. same e (entry l i)) (λ i p q. ap (same e) (strike_old i (omega arith))) in
      let next = sum_next h (tail l - h) now in
      rw m (omega arith)

  pub strike_lag : (h x w : ℕ) → h ≤ tail l → w < 16 → lag l' h x w ≡ lag l h x w
  unfolding lag
  strike_lag h x w u n =
      let q = strike_waits h (x * 16 + w) u in
      elim (ℕ_discrete (x * 16 + w) (cell * 16 + v)) [
        | yes e ↦
            let ex : x ≡ cell = omega (arith, a.value) in
            let ew : w ≡ v = omega (arith, a.value) in
            let c₀ : cand l x w ≡ 1 = rw (ex, ew) (has a) in
            let c₁ : cand l' x w ≡ 0 = rw (ex, ew) strike_gone in
            omega (arith, same_yes (x * 16 + w) (cell * 16 + v) e)
        | no e ↦
            let c : cand l' x w ≡ cand l x w = strike_kept x w (λ p q. e (omega arith)) in
            omega (arith, same_no (x * 16 + w) (cell * 16 + v) e)
      ]

  strike_left : candidates_left l ≡ candidates_left l' + 1
  unfolding candidates_left
  strike_left =
      let b : (cell * 16 + v) / 16 ≡ cell = omega (arith, a.value) in
      let d : (cell * 16 + v) % 16 ≡ v = omega (arith, a.value) in
      sum_fall 0 1296 (cell * 16 + v) (λ k. cand l (k / 16) (k % 16)) (λ k. cand l' (k / 16) (k % 16)) (omega arith) (omega (arith, a.place, a.value))
      (rw (b, d) (omega (arith, has a, strike_gone)))
      (λ i p q n. sym (strike_kept (i / 16) (i % 16) (λ e f. n (omega arith))))

  -- the line masks: of a line through the cell the one of the value loses the cell's place, and no other changes
  through : (ℓ q p : ℕ) → ℓ < 18 → q < 9 → cell_at ℓ q ≡ cell → line_mask l' ℓ v ≡ line_mask l ℓ v - 2 ^ q → Mirrored l → p < 9 → bit p (line_mask l' ℓ v) ≡ cand l' (cell_at ℓ p) v
  through ℓ q p i j e c m h = elim (ℕ_discrete p q) [
    | yes f ↦
        rw f (ap (bit q) c ∙ bit_taken q (line_mask l ℓ v) set ∙ sym (ap (λ x. cand l' x v) e ∙ strike_gone))
    | no f ↦
        ap (bit p) c
        ∙ bit_kept q (line_mask l ℓ v) p set f
        ∙ m.bits ℓ p v i h a.value
        ∙ sym (strike_kept (cell_at ℓ p) v (λ x _. f (cell_once ℓ p q (x ∙ sym e))))
  ]
    where
      set : bit q (line_mask l ℓ v) ≡ 1
      set = m.bits ℓ q v i j a.value ∙ ap (λ x. cand l x v) e ∙ has a

  beside : (ℓ p w : ℕ) → ℓ < 18 → p < 9 → w < 16 → (ℓ ≡ cell / 9 → w ≡ v → ⊥) → (ℓ ≡ 9 + cell % 9 → w ≡ v → ⊥) → Mirrored l → bit p (line_mask l' ℓ w) ≡ cand l' (cell_at ℓ p) w
  beside ℓ p w i h n x y m =
      ap (bit p) (k.other (line_mask_place ℓ w) (λ e. omega (arith, a.place)) (λ e. omega (arith, free a)) (λ e. omega arith)
      (λ e. x (omega (arith, a.value)) (omega (arith, a.value))) (λ e. y (omega (arith, a.value)) (omega (arith, a.value))))
      ∙ m.bits ℓ p w i h n
      ∙ sym (strike_kept (cell_at ℓ p) w (λ e f. ⊎_elim (λ u. x u f) (λ u. y u f) (lines_through ℓ p cell i h e)))

  strike_masks : Mirrored l → Mirrored l'
  strike_masks m = record { bits = λ ℓ p w i h n. go ℓ p w i h n (ℕ_discrete w v) (ℕ_discrete ℓ (cell / 9)) (ℕ_discrete ℓ (9 + cell % 9)) }
    where
      go : (ℓ p w : ℕ) → ℓ < 18 → p < 9 → w < 16 → Dec (w ≡ v) → Dec (ℓ ≡ cell / 9) → Dec (ℓ ≡ 9 + cell % 9) → bit p (line_mask l' ℓ w) ≡ cand l' (cell_at ℓ p) w
      go ℓ p w i h n (yes f) (yes e) _ = rw (f, e) (through (cell / 9) (cell % 9) p (omega (arith, a.place)) (omega arith) (cell_by_row cell a.place) k.row_mask m h)
      go ℓ p w i h n (yes f) (no d) (yes e) = rw (f, e) (through (9 + cell % 9) (cell / 9) p (omega arith) (omega (arith, a.place)) (cell_by_column cell) k.column_mask m h)
      go ℓ p w i h n (yes f) (no d) (no e) = beside ℓ p w i h n (λ u _. d u) (λ u _. e u) m
      go ℓ p w i h n (no f) d e = beside ℓ p w i h n (λ _ u. f u) (λ _ u. f u) m

  pub strike_struck : Struck l l' (One cell v)
  unfolding One
  strike_struck =
      record {
        grown =
            record {
              size = k.size;
              balance = omega (arith, strike_left, k.tail_is);
              grows = omega (arith, k.tail_is);
              old = strike_old;
              lags = strike_lag;
              sub = λ x w n.
                  elim (ℕ_discrete x cell) [
                    | yes e ↦
                        elim (ℕ_discrete w v) [
                          | yes f ↦ let c : cand l' x w ≡ 0 = rw (e, f) strike_gone in omega arith
                          | no f ↦ omega (arith, strike_kept x w (λ _ q. f q))
                        ]
                    | no e ↦ omega (arith, strike_kept x w (λ q _. e q))
                  ];
              masks = strike_masks;
            };
        gone = λ x w n q. rw (q.0, q.1) strike_gone;
        only = λ x w n c d. hit x w c d (ℕ_discrete x cell) (ℕ_discrete w v);
        rest = λ p h. k.other p (λ e. omega (arith, a.place)) (λ e. omega (arith, free a)) (λ e. omega arith) (λ e. omega (arith, a.place, a.value)) (λ e. omega (arith, a.place, a.value));
      }
    where
      hit : (x w : ℕ) → cand l x w ≡ 1 → cand l' x w ≡ 0 → Dec (x ≡ cell) → Dec (w ≡ v) → (x ≡ cell) × (w ≡ v)
      hit x w c d (yes e) (yes f) = (e, f)
      hit x w c d (yes e) (no f) = absurd (omega (arith, strike_kept x w (λ _ q. f q)))
      hit x w c d (no e) f = absurd (omega (arith, strike_kept x w (λ q _. e q)))

-- ---- a place leaves a line's mask

module _ {l : List ℕ} {ℓ p v : ℕ} (a : UnmaskAsk ℓ p v l) where
  unmasked_long : length (unmasked l ℓ p v) ≡ slab_size
  unmasked_long = length-set l (line_mask_place ℓ v) (line_mask l ℓ v - 2 ^ p) ∙ a.size

  unmasked_here : line_mask (unmasked l ℓ p v) ℓ v ≡ line_mask l ℓ v - 2 ^ p
  unmasked_here = get_or-set_same l (line_mask_place ℓ v) (line_mask l ℓ v - 2 ^ p) 0 (omega (arith, a.size, a.line, a.value))

  unmasked_other : (q : ℕ) → (q ≡ line_mask_place ℓ v → ⊥) → get_or (unmasked l ℓ p v) q 0 ≡ get_or l q 0
  unmasked_other q d = get_or-set_other l (line_mask_place ℓ v) q (line_mask l ℓ v - 2 ^ p) 0 d

-- ---- a strike as the code writes it

-- the table, the queue and its length
abbrev entered : List ℕ → ℕ → ℕ → List ℕ
entered l cell v = set (set (set l cell (get_or l cell 0 - 2 ^ v)) (entry_place (tail l)) (cell * 16 + v)) tail_at (tail l + 1)

module _ (l : List ℕ) (cell v : ℕ) (a : StrikeAsk l cell v) where
  l₁ : List ℕ
  l₁ = set l cell (get_or l cell 0 - 2 ^ v)

  l₂ : List ℕ
  l₂ = set l₁ (entry_place (tail l)) (cell * 16 + v)

  long₁ : length l₁ ≡ slab_size
  unfolding l₁
  long₁ = length-set l cell (get_or l cell 0 - 2 ^ v) ∙ a.sized.size

  long₂ : length l₂ ≡ slab_size
  unfolding l₂
  long₂ = length-set l₁ (entry_place (tail l)) (cell * 16 + v) ∙ long₁

  long₃ : length (entered l cell v) ≡ slab_size
  unfolding l₁ l₂
  long₃ = length-set l₂ tail_at (tail l + 1) ∙ long₂

  entered_cell : get_or (entered l cell v) cell 0 ≡ get_or l cell 0 - 2 ^ v
  unfolding l₁ l₂
  entered_cell =
      get_or-set_other l₂ tail_at cell (tail l + 1) 0 (λ e. omega (arith, a.place))
      ∙ get_or-set_other l₁ (entry_place (tail l)) cell (cell * 16 + v) 0 (λ e. omega (arith, a.place))
      ∙ get_or-set_same l cell (get_or l cell 0 - 2 ^ v) 0 (omega (arith, a.place, a.sized.size))

  entered_entry : entry (entered l cell v) (tail l) ≡ cell * 16 + v
  unfolding l₁ l₂
  entered_entry =
      get_or-set_other l₂ tail_at (entry_place (tail l)) (tail l + 1) 0 (λ e. omega (arith, free a))
      ∙ get_or-set_same l₁ (entry_place (tail l)) (cell * 16 + v) 0 (omega (arith, free a, long₁))

  entered_tail : tail (entered l cell v) ≡ tail l + 1
  unfolding l₁ l₂
  entered_tail = get_or-set_same l₂ tail_at (tail l + 1) 0 (omega (arith, long₂))

  entered_other : (p : ℕ) → (p ≡ cell → ⊥) → (p ≡ entry_place (tail l) → ⊥) → (p ≡ tail_at → ⊥) → get_or (entered l cell v) p 0 ≡ get_or l p 0
  unfolding l₁ l₂
  entered_other p x y z =
      get_or-set_other l₂ tail_at p (tail l + 1) 0 z
      ∙ get_or-set_other l₁ (entry_place (tail l)) p (cell * 16 + v) 0 y
      ∙ get_or-set_other l cell p (get_or l cell 0 - 2 ^ v) 0 x

  -- the masks of its lines
  mask_kept : (ℓ w : ℕ) → ℓ < 18 → w < 16 → line_mask (entered l cell v) ℓ w ≡ line_mask l ℓ w
  mask_kept ℓ w i n = entered_other (line_mask_place ℓ w) (λ e. omega (arith, a.place)) (λ e. omega (arith, free a)) (λ e. omega arith)

  -- a line through it loses it in a state that still has the line's mask
  line_ask : (m : List ℕ) (ℓ p : ℕ) → length m ≡ slab_size → ℓ < 18 → p < 9 → cell_at ℓ p ≡ cell → line_mask m ℓ v ≡ line_mask l ℓ v → UnmaskAsk ℓ p v m
  line_ask m ℓ p z h k e u =
      record { size = z; line = h; value = a.value; place = k; has = ap (bit p) u ∙ a.sized.masks.bits ℓ p v h k a.value ∙ ap (λ x. cand l x v) e ∙ has a }

  row_ask : UnmaskAsk (cell / 9) (cell % 9) v (entered l cell v)
  row_ask =
      line_ask (entered l cell v) (cell / 9) (cell % 9) long₃ (omega (arith, a.place)) (omega arith) (cell_by_row cell a.place)
      (mask_kept (cell / 9) v (omega (arith, a.place)) a.value)

  l₄ : List ℕ
  l₄ = unmasked (entered l cell v) (cell / 9) (cell % 9) v

  other_kept : line_mask l₄ (9 + cell % 9) v ≡ line_mask l (9 + cell % 9) v
  unfolding l₄
  other_kept = unmasked_other row_ask (line_mask_place (9 + cell % 9) v) (λ e. omega (arith, a.place)) ∙ mask_kept (9 + cell % 9) v (omega arith) a.value

  column_ask : UnmaskAsk (9 + cell % 9) (cell / 9) v l₄
  unfolding l₄
  column_ask =
      line_ask l₄ (9 + cell % 9) (cell / 9) (unmasked_long row_ask) (omega arith) (omega (arith, a.place)) (cell_by_column cell) other_kept

  l₅ : List ℕ
  l₅ = unmasked l₄ (9 + cell % 9) (cell / 9) v

  -- a place in front of the masks
  front : (p : ℕ) → p < line_masks_at → get_or l₅ p 0 ≡ get_or (entered l cell v) p 0
  unfolding l₄ l₅
  front p h = unmasked_other column_ask p (λ e. omega arith) ∙ unmasked_other row_ask p (λ e. omega arith)

  stricken : Stricken l l₅ cell v
  unfolding l₄ l₅
  stricken =
      record {
        size = unmasked_long column_ask ∙ sym a.sized.size;
        cell_is = front cell (omega (arith, a.place)) ∙ entered_cell;
        entry_is = front (entry_place (tail l)) (omega (arith, free a)) ∙ entered_entry;
        tail_is = front tail_at (omega arith) ∙ entered_tail;
        row_mask = unmasked_other column_ask (line_mask_place (cell / 9) v) (λ e. omega (arith, a.place))
            ∙ unmasked_here row_ask
            ∙ ap (λ m. m - 2 ^ (cell % 9)) (mask_kept (cell / 9) v (omega (arith, a.place)) a.value);
        column_mask = unmasked_here column_ask ∙ ap (λ m. m - 2 ^ (cell / 9)) other_kept;
        other = λ p x y z r c. unmasked_other column_ask p c ∙ unmasked_other row_ask p r ∙ entered_other p x y z;
      }

module _ (l : List ℕ) (cell v t : ℕ) (a : StrikeAsk l cell v) (e : t ≡ tail l) where
  pub strike_enough : 1 * 2 ^ v % 65536 ≤ get_or l cell 0
  strike_enough = rw (shl_one v a.value) (bit_le v (get_or l cell 0) a.has)

  pub strike_room : t < queue_room
  strike_room = omega (arith, free a)

  -- the table and the queue as the code writes them
  abbrev pub as_written : List ℕ
  as_written = set (set (set l cell (get_or l cell 0 - 1 * 2 ^ v % 65536)) (entry_place t) (cell * 16 + v)) tail_at (t + 1)

  as_written_is : as_written ≡ entered l cell v
  as_written_is = rw (shl_one v a.value, e) refl

  pub first_ask : UnmaskAsk (cell / 9) (cell % 9) v as_written
  first_ask = rw as_written_is (row_ask l cell v a)

  module _ {m : List ℕ} (f : m ≡ unmasked as_written (cell / 9) (cell % 9) v) where
    first_is : m ≡ l₄ l cell v a
    unfolding l₄
    first_is = f ∙ ap (λ y. unmasked y (cell / 9) (cell % 9) v) as_written_is

    pub second_ask : UnmaskAsk (9 + cell % 9) (cell / 9) v m
    second_ask = rw first_is (column_ask l cell v a)

    pub strike_done : {o : List ℕ} → o ≡ unmasked m (9 + cell % 9) (cell / 9) v → Struck l o (One cell v)
    unfolding l₅
    strike_done g = rw (g, first_is) (strike_struck a (stricken l cell v a))

-- a candidate that the cell has not
pub strike_absent : (l : List ℕ) (cell v : ℕ) → cell < 81 → (get_or l cell 0 / 2 ^ v % 2 ≡ 1 → ⊥) → Struck l l (One cell v)
unfolding One bit
strike_absent l cell v h d =
    record {
      grown = record { size = refl; balance = refl; grows = omega arith; old = λ i h. refl; lags = λ h x v p q. refl; sub = λ x v h. omega arith; masks = λ m. m };
      gone = λ x w n q. rw (q.0, q.1) (omega (arith, cand_in l cell v h, bit_lt v (get_or l cell 0)));
      only = λ x w n c z. absurd (omega arith);
      rest = λ p h. refl;
    }
