-- The lines list their arrangements, one after the other. Assumes nothing.
use Prim.Native.Nat.{ℕ, zero, suc, ◌+◌, ◌-◌, ◌*◌, ◌≤◌, ◌<◌}
use mathlib.Core.Path.{◌≡◌, sym, ap, ◌∙◌, subst}
use mathlib.Core.Logic.{⊎_elim}
use mathlib.Core.Bool.{true, false}
use mathlib.Core.List.{List, [], ◌∷◌, ◌++◌, map, map-map}
use native.Mathlib.Omega.{arith}
use native.Mathlib.Decide.{ℕ_discrete}
use lib.ListN.{length, get_or}
use lib.Dec.{leb}
use borrow.Author.Tests.{lt-ltb, le-ltb, leb-true}
use Rattle.tally.specs.Tally.{all, span}
use Rattle.tally.proofs.TallyLaws.{and_left, and_right}
use Rattle.tally.specs.Tally as tally
use Rattle.bits.specs.Sum.{sum_over}
use Rattle.bits.proofs.SumLaws.{sum_zero, sum_first, sum_same}
use Rattle.rules.specs.Size.{Size}
use Rattle.rules.specs.Check.{max_target}
use Rattle.rules.proofs.SizeLaws.{target_most}
use Rattle.lane.specs.declared.Lane.{Lane}
use Rattle.lane.specs.Rows.{RowLane, ColumnLane}
use Rattle.puzzle.specs.declared.Puzzle.{Puzzle}
use Rattle.words.specs.Word.{arrangement_of, word_of, part}
use Rattle.fresh.specs.Fresh.{Fresh}
use Rattle.arcs.specs.Arc.{lives, live, support}
use Rattle.table.specs.Lines.{black_at, LineOf}
use Rattle.queue_state.specs.Layout.{lengths_at, length_place, per_line, live_place, support_place}
use Rattle.listing.specs.Numbers.{side_of, numbers_for}
use Rattle.listing.proofs.NumberFacts.{numbers_few, numbers_are, numbers_known}
use Rattle.listing.specs.Listing.{list_of, Elsewhere, Added, AddAsk, Unlisted, Lists, target_at, LinesListed}
use Rattle.listing.proofs.AddLaws.{map_same, added_lives, added_both, addable_first, addable_after}

-- each target is in range
within : (m : ℕ) (ts : List ℕ) → all (λ t. leb t m) ts ≡ true → (i : ℕ) → i < length ts → get_or ts i 0 ≤ m
unfolding all
within m [] e i h = absurd (omega arith)
within m (t ∷ ts) e zero h = leb-true t m (and_left (leb t m) _ e)
within m (t ∷ ts) e (suc i) h = within m ts (and_right (leb t m) _ e) i (omega arith)

-- What opening goes by: the fresh state, and a target in range for each row and each column.
pub record Listable (n : ℕ) (rows columns l : List ℕ) : Type 0 where
  pub size : Size n
  pub fresh : Fresh n l
  pub rows_long : length rows ≡ n
  pub columns_long : length columns ≡ n
  pub rows_within : (i : ℕ) → i < n → get_or rows i 0 ≤ max_target n
  pub columns_within : (i : ℕ) → i < n → get_or columns i 0 ≤ max_target n

-- A puzzle that passed the checks has it.
pub listable : (p : Puzzle) {l : List ℕ} → Fresh p.size.n l → Listable p.size.n p.rows.now p.columns.now l
listable p f =
    let g = p.accepted in
    record {
      size = g.size;
      fresh = f;
      rows_long = g.rows_long;
      columns_long = g.columns_long;
      rows_within = λ i h. within (max_target p.size.n) p.rows.now g.rows_within i (subst (λ k. i < k) (sym g.rows_long) h);
      columns_within = λ i h. within (max_target p.size.n) p.columns.now g.columns_within i (subst (λ k. i < k) (sym g.columns_long) h);
    }

-- ---- one line: the inside ones, then the outside ones

module _ {lane : Lane} {n : ℕ} (z : Size lane.len) (same : n ≡ lane.len) {l : List ℕ} (t m : ℕ) (told : m ≡ max_target n) (a : AddAsk lane l (numbers_for lane.len t)) where
  e : m ≡ max_target lane.len
  e = told ∙ ap max_target same

  most : m ≤ 28
  most = omega (arith, e, target_most lane.len z)

  parts : numbers_for lane.len t ≡ side_of lane.len false t ++ side_of lane.len true (m - t)
  unfolding numbers_for
  parts = rw e

  pub inside_ask : t ≤ max_target lane.len → AddAsk lane l (side_of lane.len false t) × (t < 29)
  inside_ask h = (addable_first _ (side_of lane.len true (m - t)) (rw parts at a), omega (arith, most, e))

  pub outside_ask : {l₁ : List ℕ} → Added lane.len lane.number l l₁ (side_of lane.len false t) →
      AddAsk lane l₁ (side_of lane.len true (m - t)) × (m - t < 29)
  outside_ask r = (addable_after (side_of lane.len false t) _ (rw parts at a) r, omega (arith, most))

  pub line_added : {l₁ l₂ : List ℕ} → Added lane.len lane.number l l₁ (side_of lane.len false t) →
      Added lane.len lane.number l₁ l₂ (side_of lane.len true (m - t)) → Added lane.len lane.number l l₂ (numbers_for lane.len t)
  line_added r s = rw parts (added_both r s)

-- ---- a line that lists nothing yet

sum_span : (f : ℕ → ℕ) (a k : ℕ) → tally.sum (map f (span a k)) ≡ sum_over a k f
unfolding tally.sum span
sum_span f a zero = sym (sum_zero a f)
sum_span f a (suc k) = ap (λ x. f a + x) (sum_span f (suc a) k) ∙ sym (sum_first a k f)

module _ {n ℓ : ℕ} {l l' : List ℕ} (t : ℕ) (z : Size n) (h : t ≤ max_target n) (u : Unlisted ℓ l) (a : Added n ℓ l l' (numbers_for n t)) where
  listed : list_of l' ℓ ≡ numbers_for n t
  unfolding span
  listed = a.list ∙ ap (λ m. map (λ j. live l ℓ j) (span 0 m) ++ numbers_for n t) u.none

  -- lists all arrangements of its target afterwards
  pub lists_added : Lists n ℓ t l'
  lists_added =
      record {
        room = omega (arith, added_lives a, u.none, numbers_few n t z h);
        is = ap (map (arrangement_of n)) listed ∙ numbers_are n t z h;
        known = numbers_known n t z h (λ j. live l' ℓ j) (lives l' ℓ) listed;
        supports = λ p v i k.
            let f : ℕ → ℕ = λ id. part (black_at ℓ) (word_of n id) p v in
            let e : tally.sum (map f (numbers_for n t)) ≡ sum_over 0 (lives l' ℓ) (λ j. f (live l' ℓ j)) =
            ap (λ x. tally.sum (map f x)) (sym listed)
            ∙ ap tally.sum (map-map f (λ j. live l' ℓ j) (span 0 (lives l' ℓ)))
            ∙ sum_span (λ j. f (live l' ℓ j)) 0 (lives l' ℓ) in
            omega (arith, a.supports p v i k, u.supports p v i k);
      }

-- ---- what is done elsewhere leaves it

module _ (ℓ : ℕ) (l l' : List ℕ) (h : ℓ < 18) (e : (q : ℕ) → lengths_at ≤ q → ((m : ℕ) → m < 18 → (m ≡ ℓ → ⊥) → Elsewhere m q) → get_or l' q 0 ≡ get_or l q 0) where
  lives_kept : lives l' ℓ ≡ lives l ℓ
  lives_kept = e (length_place ℓ) (omega arith) (λ m i d. record { count = λ x. d (omega arith); list = λ j b x. omega arith; supports = λ p v b c x. omega arith })

  live_kept : (j : ℕ) → j < per_line → live l' ℓ j ≡ live l ℓ j
  live_kept j k =
      e (live_place ℓ j) (omega arith) (λ m i d. record { count = λ x. omega arith; list = λ o b x. d (omega arith); supports = λ p v b c x. omega arith })

  support_kept : (p v : ℕ) → p < 9 → v < 16 → support l' (ℓ * 9 + p) v ≡ support l (ℓ * 9 + p) v
  support_kept p v i k =
      e (support_place (ℓ * 9 + p) v) (omega arith)
      (λ m c d. record { count = λ x. omega arith; list = λ j b x. omega arith; supports = λ q w b f x. d (omega arith) })

  pub unlisted_kept : Unlisted ℓ l → Unlisted ℓ l'
  unlisted_kept u = record { none = lives_kept ∙ u.none; supports = λ p v i k. support_kept p v i k ∙ u.supports p v i k }

  pub lists_kept : {n t : ℕ} → Lists n ℓ t l → Lists n ℓ t l'
  lists_kept {n} {t} a =
      record {
        room = omega (arith, lives_kept, a.room);
        is = ap (map (arrangement_of n)) same_list ∙ a.is;
        known = λ j i. rw (live_kept j (omega (arith, lives_kept, a.room))) (a.known j (omega (arith, lives_kept)));
        supports = λ p v i k.
            support_kept p v i k
            ∙ a.supports p v i k
            ∙ sum_same 0 (lives l ℓ) (λ j. part (black_at ℓ) (word_of n (live l ℓ j)) p v) (λ j. part (black_at ℓ) (word_of n (live l' ℓ j)) p v)
            (λ j x y. ap (λ id. part (black_at ℓ) (word_of n id) p v) (sym (live_kept j (omega (arith, a.room)))))
            ∙ ap (λ m. sum_over 0 m (λ j. part (black_at ℓ) (word_of n (live l' ℓ j)) p v)) (sym lives_kept);
      }
    where
      same_list : list_of l' ℓ ≡ list_of l ℓ
      same_list =
          ap (λ m. map (λ j. live l' ℓ j) (span 0 m)) lives_kept
          ∙ map_same (λ j. live l' ℓ j) (λ j. live l ℓ j) 0 (lives l ℓ) (λ j x y. live_kept j (omega (arith, a.room)))

-- ---- one line after the other: row i, then column i

fresh_unlisted : (n ℓ : ℕ) (l : List ℕ) → Fresh n l → Unlisted ℓ l
fresh_unlisted n ℓ l f = record { none = f.arcs (length_place ℓ) (omega arith); supports = λ p v i k. f.arcs (support_place (ℓ * 9 + p) v) (omega arith) }

-- the first k rows and the first k columns list the arrangements of their targets, and nothing else moved
pub record ListedTo (n k : ℕ) (rows columns l l' : List ℕ) : Type 0 where
  pub size : length l' ≡ length l
  pub row : (i : ℕ) → i < k → Lists n i (get_or rows i 0) l'
  pub column : (i : ℕ) → i < k → Lists n (9 + i) (get_or columns i 0) l'
  pub rest : (q : ℕ) → ((i : ℕ) → i < k → Elsewhere i q × Elsewhere (9 + i) q) → get_or l' q 0 ≡ get_or l q 0

module _ {n : ℕ} {rows columns l : List ℕ} (a : Listable n rows columns l) where
  -- a line that lists nothing can list the arrangements of its target
  addable : {l' : List ℕ} (lane : Lane) (t : ℕ) → lane.len ≡ n → length l' ≡ length l → t ≤ max_target n → Unlisted lane.number l' →
      AddAsk lane l' (numbers_for lane.len t)
  addable lane t e long m u =
      record {
        long = long ∙ a.fresh.size;
        room = rw e (omega (arith, u.none, numbers_few n t a.size m));
        low = λ p v x y. omega (arith, u.supports p v x y);
      }

  module _ (i : ℕ) (h : i < n) {l₁ : List ℕ} (d : ListedTo n i rows columns l l₁) where
    abbrev r : ℕ
    r = get_or rows i 0

    abbrev c : ℕ
    c = get_or columns i 0

    low : i < 9
    low = omega (arith, a.size.high)

    row_unlisted : Unlisted i l₁
    row_unlisted =
        unlisted_kept i l l₁ (omega (arith, low))
        (λ q _ f. d.rest q (λ j x. (f j (omega (arith, low)) (λ y. omega arith), f (9 + j) (omega (arith, low)) (λ y. omega (arith, low)))))
        (fresh_unlisted n i l a.fresh)

    pub row_ask : {lane : Lane} (t : ℕ) → RowLane n i lane → t ≡ r → AddAsk lane l₁ (numbers_for lane.len t) × (t ≤ max_target lane.len)
    row_ask {lane} t e f =
        let m : t ≤ max_target n = omega (arith, a.rows_within i h) in
        (addable lane t e.4 d.size m (rw e.0 row_unlisted), rw e.4 m)

    -- and then the column
    module _ {l₂ : List ℕ} (row : Lane) (t : ℕ) (e : RowLane n i row) (f : t ≡ r) (s : Added row.len row.number l₁ l₂ (numbers_for row.len t)) where
      row_added : Added n i l₁ l₂ (numbers_for n r)
      row_added = rw (e.0, e.4, f) at s

      column_unlisted : Unlisted (9 + i) l₂
      column_unlisted =
          unlisted_kept (9 + i) l l₂ (omega (arith, low))
          (λ q _ f.
          row_added.rest q (f i (omega (arith, low)) (λ y. omega arith))
          ∙ d.rest q (λ j x. (f j (omega (arith, low)) (λ y. omega (arith, low)), f (9 + j) (omega (arith, low)) (λ y. omega arith))))
          (fresh_unlisted n (9 + i) l a.fresh)

      pub column_ask : {lane : Lane} (u : ℕ) → ColumnLane n i lane → u ≡ c → AddAsk lane l₂ (numbers_for lane.len u) × (u ≤ max_target lane.len)
      column_ask {lane} u g k =
          let m : u ≤ max_target n = omega (arith, a.columns_within i h) in
          (addable lane u g.4 (row_added.size ∙ d.size) m (rw g.0 column_unlisted), rw g.4 m)

      pub listed_next : {l₃ : List ℕ} (lane : Lane) (u : ℕ) → ColumnLane n i lane → u ≡ c →
          Added lane.len lane.number l₂ l₃ (numbers_for lane.len u) → ListedTo n (i + 1) rows columns l l₃
      listed_next {l₃} lane u g k z =
          record {
            size = w.size ∙ row_added.size ∙ d.size;
            row = λ j x. rows_now j x (ℕ_discrete j i);
            column = λ j x. columns_now j x (ℕ_discrete j i);
            rest = λ q f. w.rest q (f i (omega arith)).1 ∙ row_added.rest q (f i (omega arith)).0 ∙ d.rest q (λ j x. f j (omega arith));
          }
        where
          w : Added n (9 + i) l₂ l₃ (numbers_for n c)
          w = rw (g.0, g.4, k) at z

          row_kept : (j : ℕ) → j < 9 → {t : ℕ} → Lists n j t l₂ → Lists n j t l₃
          row_kept j x y = lists_kept j l₂ l₃ (omega arith) (λ q _ f. w.rest q (f (9 + i) (omega (arith, low)) (λ v. omega arith))) y

          rows_now : (j : ℕ) → j < i + 1 → Dec (j ≡ i) → Lists n j (get_or rows j 0) l₃
          rows_now j x (yes y) =
              rw y (row_kept i low (lists_added (get_or rows i 0) a.size (a.rows_within i h) row_unlisted row_added))
          rows_now j x (no y) =
              row_kept j (omega (arith, low))
              (lists_kept j l₁ l₂ (omega (arith, low)) (λ q _ f. row_added.rest q (f i (omega (arith, low)) (λ v. y (omega arith)))) (d.row j (omega arith)))

          columns_now : (j : ℕ) → j < i + 1 → Dec (j ≡ i) → Lists n (9 + j) (get_or columns j 0) l₃
          columns_now j x (yes y) = rw y (lists_added (get_or columns i 0) a.size (a.columns_within i h) column_unlisted w)
          columns_now j x (no y) =
              lists_kept (9 + j) l₁ l₃ (omega (arith, low))
              (λ q _ f.
              w.rest q (f (9 + i) (omega (arith, low)) (λ v. y (omega arith)))
              ∙ row_added.rest q (f i (omega (arith, low)) (λ v. omega (arith, low))))
              (d.column j (omega arith))

  -- then every line lists its arrangements
  pub all_listed : {l' : List ℕ} → ListedTo n n rows columns l l' → LinesListed n rows columns l l'
  unfolding LineOf target_at
  all_listed {l'} d =
      record {
        size = d.size;
        each = λ ℓ. ⊎_elim (λ h. row ℓ h) (λ h. column ℓ h.0 h.1);
        rest = λ q h. d.rest q (λ i x. (
          record { count = λ y. omega arith; list = λ j b y. omega arith; supports = λ p v b c y. omega arith },
          record { count = λ y. omega arith; list = λ j b y. omega arith; supports = λ p v b c y. omega arith },
        ));
      }
    where
      row : (ℓ : ℕ) → ℓ < n → Lists n ℓ (target_at rows columns ℓ) l'
      row ℓ h = rw (lt-ltb ℓ 9 (omega (arith, a.size.high))) (d.row ℓ h)

      column : (ℓ : ℕ) → 9 ≤ ℓ → ℓ < 9 + n → Lists n ℓ (target_at rows columns ℓ) l'
      column ℓ g h =
          let e : 9 + (ℓ - 9) ≡ ℓ = omega arith in
          rw (le-ltb ℓ 9 g) (rw e at (d.column (ℓ - 9) (omega arith)))
