-- The grids that are left of a table, in order: how many, which, and that a branch shares them out, those of the taken branch first. Assumes nothing.
use Prim.Native.Nat.{ℕ, ◌*◌, ◌≤◌, ◌<◌}
use mathlib.Core.Path.{◌≡◌, refl, sym, ap, ap₂, ◌∙◌}
use mathlib.Core.Bool.{Bool, true, false, not, ◌&&◌, true≢false, and_assoc}
use mathlib.Core.List.Memᴰ
use mathlib.Core.List.{List, [], ◌∷◌, ◌++◌, Memᴰ}
use native.Mathlib.Omega.{arith}
use native.Mathlib.Decide.{dec_lt}
use lib.ListN.{length}
use Rattle.std.proofs.lemmas.List.{nil_from_length}
use Rattle.tally.specs.Tally.{keep}
use Rattle.tally.specs.Way.{Way}
use Rattle.tally.proofs.TallyLaws.{and_left, and_right, and_both}
use Rattle.tally.proofs.WayLaws.{way_in, in_way}
use Rattle.tally.proofs.ListLaws.{mem_keep, of_keep, keep_ext, keep_keep, length_keep, sort_length, mem_sort, sort_split}
use Rattle.rules.specs.Grid.{across, index, Puzzle, keeps}
use Rattle.rules.specs.Mark.{has}
use Rattle.rules.specs.Number.{grids}
use Rattle.rules.specs.Order.{RowValue, row_value, sequence, precedes, in_order}
use Rattle.rules.specs.Short.{symbols}
use Rattle.rules.proofs.GridLaws.{line_in}
use Rattle.table.specs.Table.{Table, places, first_black, half, fits, left}
use Rattle.table.specs.Closed.{Closed}
use Rattle.table.specs.Steps.{struck, taken}
use Rattle.table.specs.Stable.{Only}
use Rattle.line_laws.specs.Grids.{GridOf}
use Rattle.line_laws.proofs.CellValues.{half_every}
use Rattle.soundness.specs.SameGrids.{SameGrids}
use Rattle.soundness.proofs.Taken.{taken_fits, struck_fits}
use Rattle.grid_order.specs.Remaining.{remaining}
use Rattle.grid_order.specs.Split.{Split}
use Rattle.grid_order.proofs.PrecedesLaws.{precedes_first}
use Rattle.grid_order.proofs.PlaceLaws.{Alone, place_is, place_has, same_place}

module _ (p : Puzzle) where
  -- Tests that agree on the grids of the puzzle keep the same of them.
  pub keep_grids : (q r : List ℕ → Bool) → ((g : List ℕ) → GridOf p g → q g ≡ r g) →
      keep (λ g. keeps p g && q g) (grids p.size) ≡ keep (λ g. keeps p g && r g) (grids p.size)
  unfolding grids
  keep_grids q r h = keep_ext (grids p.size) (λ g m. go g (in_way (symbols p.size) (p.size * p.size) m) (keeps p g) refl)
    where
      go : (g : List ℕ) → Way (symbols p.size) (p.size * p.size) g → (b : Bool) → keeps p g ≡ b → (keeps p g && q g) ≡ (keeps p g && r g)
      go g w true e = ap (λ x. keeps p g && x) (h g (record { filled = w; kept = e }))
      go g w false e = rw e

  pub remaining_length : (t : Table) → length (remaining p t) ≡ left p t
  unfolding remaining in_order left
  remaining_length t =
      sort_length (precedes p.size (sequence p.size)) (keep (λ g. keeps p g && fits p.size t g) (grids p.size))
      ∙ length_keep (λ g. keeps p g && fits p.size t g) (grids p.size)

  pub remaining_same : {t u : Table} → SameGrids p t u → remaining p t ≡ remaining p u
  unfolding remaining
  remaining_same {t} {u} a = ap (in_order p.size) (keep_grids (fits p.size t) (fits p.size u) a.same)

  pub remaining_none : (t : Table) → left p t ≡ 0 → remaining p t ≡ []
  remaining_none t e = nil_from_length (remaining p t) (remaining_length t ∙ e)

  in_remaining : (t : Table) {g : List ℕ} → GridOf p g → fits p.size t g ≡ true → Memᴰ g (remaining p t)
  unfolding remaining in_order grids
  in_remaining t d f = mem_sort (precedes p.size (sequence p.size)) (mem_keep _ (way_in d.filled) (and_both d.kept f))

  pub remaining_one : (t : Table) (g : List ℕ) → left p t ≡ 1 → GridOf p g → fits p.size t g ≡ true → remaining p t ≡ g ∷ []
  remaining_one t g e d f = go (remaining p t) (remaining_length t ∙ e) (in_remaining t d f)
    where
      go : (l : List (List ℕ)) → length l ≡ 1 → Memᴰ g l → l ≡ g ∷ []
      go [] q m = absurd (omega arith)
      go (h ∷ []) q m = ap (λ x. x ∷ []) (sym (Memᴰ.eq_of_singleton m))
      go (h ∷ k ∷ l) q m = absurd (omega arith)

-- What a branch on the value v of row r and column c asks of the table: it is closed, the values before it in the sequence are alone where they stand, and so
-- is this one further right in the row.
pub record OrderedBranch (p : Puzzle) (t : Table) (r c v : ℕ) : Type 0 where
  pub closed : Closed p t
  pub row_in : r < p.size
  pub column_in : c < p.size
  pub in_half : Memᴰ v (half p.size 8)
  pub here : t r c v ≡ true
  pub split : Split (row_value r v) (sequence p.size) (Alone p.size t)
  pub rightmost : (j : ℕ) → c < j → j < p.size → t r j v ≡ true → Only p.size t (across r) j v

module _ (p : Puzzle) (small : p.size ≤ 9) (t : Table) (r c v : ℕ) (b : OrderedBranch p t r c v) where
  -- the value stands no further right in the table
  at_most : (j : ℕ) → j < p.size → t r j v ≡ true → j ≤ c
  unfolding first_black places index
  at_most j k e =
      elim (dec_lt c j) [
        | yes h ↦
            absurd (true≢false (sym b.here ∙ (b.closed.lines (across r) (line_in p.size (across r) b.row_in)).lone j c v k b.column_in (λ q. omega arith) b.in_half e (b.rightmost j h k e)))
        | no h ↦ omega arith
      ]

  has_it : List ℕ → Bool
  has_it g = has p.size g r c v

  stays : List ℕ → Bool
  stays g = keeps p g && fits p.size t g

  -- a grid with the value there precedes one without
  apart : (g h : List ℕ) → GridOf p g → GridOf p h → fits p.size t g ≡ true → fits p.size t h ≡ true → has p.size g r c v ≡ true → has p.size h r c v ≡ false →
      (precedes p.size (sequence p.size) g h ≡ true) × (precedes p.size (sequence p.size) h g ≡ false)
  apart g h dg dh fg fh e f =
      let s : RowValue = row_value r v in
      let in_g = place_is p small g dg s b.row_in b.in_half c b.column_in e in
      let o = place_has p small h dh s b.row_in b.in_half t fh in
      let other : o.0 ≡ c → ⊥ = λ q. true≢false (sym o.2 ∙ ap (λ j. has p.size h r j v) q ∙ f) in
      let nearer = at_most o.0 o.1 o.4 in
      rw b.split.whole
      (precedes_first p.size b.split.before b.split.behind s g h (λ x m. same_place p small t b.closed x (b.split.each x m) g h dg dh fg fh) (omega (arith, in_g, o.3, other, nearer)))

  both_apart : (x y : List ℕ) → Memᴰ x (keep stays (grids p.size)) → Memᴰ y (keep stays (grids p.size)) → has_it x ≡ true → has_it y ≡ false →
      (precedes p.size (sequence p.size) x y ≡ true) × (precedes p.size (sequence p.size) y x ≡ false)
  unfolding has_it stays grids
  both_apart x y mx my e f =
      let a = of_keep stays (grids p.size) mx in
      let b = of_keep stays (grids p.size) my in
      apart x y (grid_of a) (grid_of b) (and_right (keeps p x) _ a.1) (and_right (keeps p y) _ b.1) e f
    where
      grid_of : {g : List ℕ} → Memᴰ g (grids p.size) × (stays g ≡ true) → GridOf p g
      grid_of {g} a = record { filled = in_way (symbols p.size) (p.size * p.size) a.0; kept = and_left (keeps p g) _ a.1 }

  part : (q : List ℕ → Bool) (u : Table) → ((g : List ℕ) → GridOf p g → fits p.size u g ≡ (fits p.size t g && q g)) →
      keep q (keep stays (grids p.size)) ≡ keep (λ g. keeps p g && fits p.size u g) (grids p.size)
  unfolding stays
  part q u h =
      keep_keep stays q (grids p.size)
      ∙ keep_ext (grids p.size) (λ g _. and_assoc (keeps p g) (fits p.size t g) (q g))
      ∙ keep_grids p (λ g. fits p.size t g && q g) (fits p.size u) (λ g d. sym (h g d))

  -- The grids of the branch that takes the value come first, then those of the branch that rejects it.
  pub branch_order : remaining p t ≡ remaining p (taken t r c v) ++ remaining p (struck t r c v)
  unfolding remaining in_order stays has_it first_black
  branch_order =
      let value = half_every p.size (across r) v b.in_half in
      sort_split (precedes p.size (sequence p.size)) has_it (keep stays (grids p.size)) both_apart
      ∙ ap₂ ◌++◌ (ap (in_order p.size) (part has_it (taken t r c v) (taken_fits p small t r c v b.row_in b.column_in value)))
      (ap (in_order p.size) (part (λ g. not (has_it g)) (struck t r c v) (struck_fits p small t r c v b.row_in b.column_in value)))
