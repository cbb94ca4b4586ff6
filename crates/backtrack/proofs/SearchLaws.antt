-- The search, turn by turn. Assumes nothing.
use Prim.Native.Nat.{ℕ, zero, suc, ◌+◌, ◌-◌, ◌*◌, ◌≤◌, ◌<◌}
use mathlib.Core.Path.{◌≡◌, refl, sym, ap, ◌∙◌, subst}
use mathlib.Core.Bool.{Bool, true, false, ◌&&◌}
use mathlib.Core.List.{List, [], ◌∷◌, ◌++◌, append-nil, append_assoc}
use native.Mathlib.Omega.{arith}
use lib.Dec.{eqb}
use lib.ListN.{length, take}
use lib.Seq.{take-nil}
use borrow.Author.Tests.{eqb-true, ne_eqb}
use Rattle.std.proofs.lemmas.List.{length-take, length-append}
use Rattle.tally.proofs.TallyLaws.{and_left, and_right}
use Rattle.rules.specs.Grid.{Puzzle}
use Rattle.rules.specs.Order.{first_or}
use Rattle.table.specs.Reading.{read_off, open_cells, total}
use Rattle.soundness.proofs.SameLaws.{within_trans, within_refl}
use Rattle.soundness.specs.SameGrids.{Within}
use Rattle.soundness.proofs.Measures.{open_le, total_le}
use Rattle.grid_order.specs.Remaining.{remaining}
use Rattle.grid_order.proofs.RemainingLaws.{remaining_same}
use Rattle.queue_state.specs.Slab.{table_in, Struck, One}
use Rattle.queue_state.specs.Ready.{Ready}
use Rattle.invariants.specs.State.{Kept, Lagging}
use Rattle.invariants.proofs.StateLaws.{within_sub, kept_struck, lagging_struck}
use Rattle.set_cell.specs.Setting.{SetHit, SetAsk}
use Rattle.pick.specs.Choice.{Branch}
use Rattle.backtrack.specs.Search.{NoneLeft, OneLeft, Branching, first_if, SearchAsk, Given, Searched}
use Rattle.backtrack.proofs.BranchLaws.{branch_value, branch_open, branch_total, branch_shared}

-- ---- the grids that are out so far, and those that are left

-- Of all grids, those that are out are the first; the cap has so many left for the rest.
pub record SoFar (all rest : List (List ℕ)) (max found : ℕ) (wanted : Bool) (cells₀ cells : List ℕ) : Type 0 where
  pub out : List (List ℕ)
  pub many : length out ≡ found
  pub front : take max all ≡ out ++ take (max - found) rest
  pub cells_hold : cells ≡ first_if wanted cells₀ out

abbrev Grids : Type 0
Grids = List (List ℕ)

pub so_start : (gs : Grids) (max : ℕ) (wanted : Bool) (cells : List ℕ) → SoFar gs gs max 0 wanted cells cells
unfolding first_or
so_start gs max wanted cells =
    record { out = []; many = refl; front = (let z : max - 0 ≡ max = omega arith in rw z); cells_hold = nothing wanted }
  where
    nothing : (b : Bool) → cells ≡ first_if b cells []
    nothing true = refl
    nothing false = refl

-- nothing more is given: the cap is reached, or nothing is left
pub so_done : {all rest : Grids} {max found : ℕ} {wanted : Bool} {cells₀ cells : List ℕ} → SoFar all rest max found wanted cells₀ cells →
    take (max - found) rest ≡ [] → Given all max wanted found cells₀ cells
so_done {wanted = wanted} {cells₀ = cells₀} s e =
    let f = s.front ∙ ap (λ gs. s.out ++ gs) e ∙ append-nil s.out in
    record { count = sym s.many ∙ ap length (sym f); cells_hold = s.cells_hold ∙ ap (first_if wanted cells₀) (sym f) }

take_append : (k : ℕ) (gs hs : Grids) → take k (gs ++ hs) ≡ take k gs ++ take (k - length gs) hs
take_append zero gs hs = let e : 0 - length gs ≡ 0 = omega arith in rw e
take_append (suc k) [] hs = let e : suc k - 0 ≡ suc k = omega arith in rw e
take_append (suc k) (g ∷ gs) hs = let e : suc k - suc (length gs) ≡ k - length gs = omega arith in rw e (ap (λ l. g ∷ l) (take_append k gs hs))

-- the first of all is shown when the first is given
first_next : (wanted first : Bool) (cells₀ : List ℕ) (out more : Grids) {cells : List ℕ} → first ≡ (wanted && eqb (length out) 0) → cells ≡ first_if wanted cells₀ out →
    first_if first cells more ≡ first_if wanted cells₀ (out ++ more)
unfolding first_or
first_next false first cells₀ out more f e = rw f e
first_next true first cells₀ [] more f e = rw (f, e)
first_next true first cells₀ (g ∷ out) more f e = let d = f ∙ ne_eqb (suc (length out)) 0 (λ q. omega (arith, q)) in rw d e

-- the first part of what is left is given, and the cap has so many left for the second
pub so_more : {all rest part others : Grids} {max found k : ℕ} {wanted first : Bool} {cells₀ cells cells' : List ℕ} → SoFar all rest max found wanted cells₀ cells →
    rest ≡ part ++ others → first ≡ (wanted && eqb found 0) → Given part (max - found) first k cells cells' → SoFar all others max (found + k) wanted cells₀ cells'
so_more {all} {rest} {part} {others} {max} {found} {k} {wanted} {first} {cells₀} s e f g =
    record {
      out = s.out ++ take (max - found) part;
      many = length-append s.out (take (max - found) part) ∙ omega (arith, s.many, g.count);
      front =
          s.front
          ∙ ap (λ gs. s.out ++ take (max - found) gs) e
          ∙ ap (λ gs. s.out ++ gs) (take_append (max - found) part others ∙ ap (λ j. take (max - found) part ++ take j others) room)
          ∙ sym (append_assoc s.out (take (max - found) part) (take (max - (found + k)) others));
      cells_hold = g.cells_hold ∙ first_next wanted first cells₀ s.out (take (max - found) part) (f ∙ ap (λ j. wanted && eqb j 0) (sym s.many)) s.cells_hold;
    }
  where
    room : max - found - length part ≡ max - (found + k)
    room = omega (arith, g.count, length-take (max - found) part)

-- ---- the loop

-- after some turns: the table of the present state, and what is out so far
pub record Turn (n : ℕ) (l₀ : List ℕ) (max : ℕ) (wanted : Bool) (cells₀ l : List ℕ) (found : ℕ) (cells : List ℕ) : Type 0 where
  pub lagging : Lagging n l 0
  pub small : n ≤ 9
  pub size : length l ≡ length l₀
  pub room : length cells ≡ length cells₀
  pub most : found ≤ max
  pub within : Within n (table_in l) (table_in l₀)
  pub kept : (p : Puzzle) → p.size ≡ n → Kept p l₀ → Kept p l
  pub so_far : (p : Puzzle) → p.size ≡ n → Kept p l₀ → SoFar (remaining p (table_in l₀)) (remaining p (table_in l)) max found wanted cells₀ cells

pub turn_start : {n : ℕ} {l : List ℕ} {wanted : Bool} {cells : List ℕ} (max : ℕ) → SearchAsk n l wanted (length cells) → Turn n l max wanted cells l 0 cells
turn_start {n} {l} {wanted} {cells} max s =
    record {
      lagging = s.lagging;
      small = s.lagging.ready.size.high;
      size = refl;
      room = refl;
      most = omega arith;
      within = within_refl n (table_in l);
      kept = λ p q k. k;
      so_far = λ p q k. so_start (remaining p (table_in l)) max wanted cells;
    }

wanted_first : (wanted : Bool) (found : ℕ) → (wanted && eqb found 0) ≡ true → (wanted ≡ true) × (found ≡ 0)
wanted_first wanted found e = (and_left wanted _ e, eqb-true found 0 (and_right wanted _ e))

module _ {n : ℕ} {l₀ : List ℕ} {max : ℕ} {wanted : Bool} {cells₀ l : List ℕ} {found : ℕ} {cells : List ℕ} (t : Turn n l₀ max wanted cells₀ l found cells) where
  -- the cap is reached
  pub turn_capped : max ≤ found → Searched n l₀ max wanted found cells₀ cells
  turn_capped h = record { most = t.most; gives = λ p q k. so_done (t.so_far p q k) (let z : max - found ≡ 0 = omega arith in rw z) }

  module _ (under : found < max) {l' : List ℕ} where
    -- no grid is left
    pub turn_none : NoneLeft n l l' → Searched n l₀ max wanted found cells₀ cells
    turn_none a = record { most = t.most; gives = λ p q k. so_done (t.so_far p q k) (rw (a.none p q (t.kept p q k)) (take-nil (max - found))) }

    -- one grid is left
    pub turn_one : OneLeft n l l' → {first : Bool} → first ≡ (wanted && eqb found 0) → {cells' : List ℕ} →
        cells' ≡ first_if first cells (read_off n (table_in l') ∷ []) → Searched n l₀ max wanted (found + 1) cells₀ cells'
    turn_one a {first} e {cells'} s =
        record {
          most = omega arith;
          gives = λ p q k.
              so_done (so_more (t.so_far p q k) (a.one p q (t.kept p q k)) e (record { count = ap length one; cells_hold = s ∙ ap (first_if first cells) one }))
              (take-nil (max - (found + 1)));
        }
      where
        one : read_off n (table_in l') ∷ [] ≡ take (max - found) (read_off n (table_in l') ∷ [])
        one =
            let z : max - found ≡ suc (max - found - 1) = omega arith in
            rw z (ap (λ gs. read_off n (table_in l') ∷ gs) (sym (take-nil (max - found - 1))))

-- ---- a branch

cap_left : (max found k : ℕ) → found < max → k ≤ max - found → found + k ≤ max
cap_left max found k u h = omega arith

module _ {n : ℕ} {l₀ : List ℕ} {max : ℕ} {wanted : Bool} {cells₀ l : List ℕ} {found : ℕ} {cells : List ℕ} (t : Turn n l₀ max wanted cells₀ l found cells)
    (fits₀ : wanted ≡ true → length cells₀ ≡ n * n) (under : found < max) {l' : List ℕ} {r c v : ℕ} (a : Branching n l l' r c v) where
  ready' : Ready n l'
  ready' = a.lagging.ready

  pub turn_ask : {l₁ : List ℕ} → l₁ ≡ l' → SetAsk n l₁ r c v
  turn_ask e =
      subst (λ y. SetAsk n y r c v) (sym e) (record {
        ready = ready';
        row = a.branch.row_in;
        column = a.branch.column_in;
        value = branch_value ready' a.branch;
      })

  module _ {l₁ l₂ : List ℕ} (e : l₁ ≡ l') (s₁ : Struck l₁ l₂ (SetHit r c v)) where
    s : Struck l' l₂ (SetHit r c v)
    s = subst (λ y. Struck y l₂ (SetHit r c v)) e s₁

    pub turn_searchable : {first : Bool} → first ≡ (wanted && eqb found 0) → SearchAsk n l₂ first (length cells)
    turn_searchable f =
        record {
          lagging = lagging_struck s a.lagging;
          fits = λ y. t.room ∙ fits₀ (wanted_first wanted found (sym f ∙ y)).0;
        }

    -- the search is called with fewer open cells
    pub turn_fewer : open_cells n (table_in l₂) < open_cells n (table_in l₀)
    turn_fewer = omega (arith, branch_open ready' a.branch s, open_le n a.within, open_le n t.within)

    module _ {first : Bool} (f : first ≡ (wanted && eqb found 0)) {k : ℕ} {cells' : List ℕ} (g : Searched n l₂ (max - found) first k cells cells')
        (long : length cells' ≡ length cells) {l₃ : List ℕ} (d : Struck l' l₃ (One (r * 9 + c) v)) where
      pub turn_less : total n (table_in l₃) < total n (table_in l)
      turn_less = omega (arith, branch_total ready' a.branch d, total_le n a.within)

      pub turn_again : Turn n l₀ max wanted cells₀ l₃ (found + k) cells'
      turn_again =
          record {
            lagging = lagging_struck d a.lagging;
            small = t.small;
            size = d.grown.size ∙ a.size ∙ t.size;
            room = long ∙ t.room;
            most = cap_left max found k under g.most;
            within = within_trans (within_trans (within_sub n l' l₃ t.small d.grown.sub) a.within) t.within;
            kept = λ p q y. kept_struck (subst (λ m. m ≤ 9) (sym q) t.small) d (a.kept p q (t.kept p q y));
            so_far = so_far;
          }
        where
          so_far : (p : Puzzle) → p.size ≡ n → Kept p l₀ → SoFar (remaining p (table_in l₀)) (remaining p (table_in l₃)) max (found + k) wanted cells₀ cells'
          so_far p q y =
              let k₁ = t.kept p q y in
              let parts = remaining_same p (a.same p q k₁)
              ∙ branch_shared p (subst (λ m. Ready m l') (sym q) ready') (subst (λ m. Branch m l' r c v) (sym q) a.branch) (a.closed p q k₁) s d in
              so_more (t.so_far p q y) parts f (g.gives p q (kept_struck (subst (λ m. m ≤ 9) (sym q) t.small) s (a.kept p q k₁)))
