-- A table that has the same candidates as a closed one is closed, and what is alone in a half is set in both. Assumes nothing.
use Prim.Native.Nat.{ℕ, ◌<◌, ◌≤◌}
use mathlib.Core.Path.{◌≡◌, sym, ap₂, ◌∙◌}
use mathlib.Core.Bool.{true, ◌||◌}
use mathlib.Core.List.{Memᴰ}
use Rattle.rules.specs.Grid.{digits, Line, across, down, index, Puzzle, target}
use Rattle.rules.specs.Mark.{left_black, right_black, upper_black, lower_black}
use Rattle.table.specs.Closed.{Arrangement, Closed, ClosedLine, Supported, Live, place}
use Rattle.rules.proofs.GridLaws.{in_line}
use Rattle.table.specs.Table.{Table, places, first_black, half}
use Rattle.table.specs.Lines.{Places, row_of, column_of}
use Rattle.line_laws.proofs.Half.{digit_in, first_in, second_in}
use Rattle.line_laws.proofs.Arranged.{IsArrangement, arranged, allows_half, step_lt, live_mono}
use Rattle.line_laws.proofs.GridLines.{place_in, places_cell}
use Rattle.line_laws.proofs.CellValues.{half_every}
use Rattle.table.specs.Value.{IsValue, InHalf}
use Rattle.table.specs.Stable.{LoneSet}

-- ---- one line

module _ (n k t : ℕ) (low : 2 ≤ n) (x y : Places) (same : (i v : ℕ) → i < n → Memᴰ v (half n k) → y i v ≡ x i v) where
  live_same : (a : Arrangement) → IsArrangement n t a → Live n k x a → Live n k y a
  live_same a w alive = live_mono n k a x y (λ j v h b e. same (place n a j) v (step_lt n t a w j h) (allows_half n t a w k j v h b) ∙ e) alive

  supported_same : (i v : ℕ) → Supported n k t x i v → Supported n k t y i v
  supported_same i v s =
      record {
        arrangement = s.arrangement;
        listed = s.listed;
        alive = live_same s.arrangement (arranged n t s.arrangement low s.listed) s.alive;
        covers = s.covers;
      }

  line_same : ClosedLine n k t x → ClosedLine n k t y
  line_same l =
      record {
        lone = λ i j v hi hj ne m e only. same j v hj m ∙ l.lone i j v hi hj ne m (sym (same i v hi m) ∙ e) (λ w q f. only w q (same i w hi q ∙ f));
        single = λ i v w hi m q e only f. l.single i v w hi m q (sym (same i v hi m) ∙ e) (λ j hj f. only j hj (same j v hj m ∙ f)) (sym (same i w hi q) ∙ f);
        supported = λ i v hi m e. supported_same i v (l.supported i v hi m (sym (same i v hi m) ∙ e));
      }

-- ---- the table

module _ (p : Puzzle) (t u : Table) (same : (r c v : ℕ) → r < p.size → c < p.size → IsValue p.size v → u r c v ≡ t r c v) where
  at : (ℓ : Line) → index ℓ < p.size → (i v : ℕ) → i < p.size → Memᴰ v (half p.size (first_black ℓ)) → places u ℓ i v ≡ places t ℓ i v
  at ℓ h i v k m =
      let q = place_in p.size ℓ i h k in
      places_cell u ℓ i v ∙ same (row_of ℓ i) (column_of ℓ i) v q.0 q.1 (half_every p.size ℓ v m) ∙ sym (places_cell t ℓ i v)

  along_row : (v : ℕ) → Memᴰ v (half p.size left_black) → IsValue p.size v
  unfolding first_black
  along_row v m = half_every p.size (across 0) v m

  along_column : (v : ℕ) → Memᴰ v (half p.size upper_black) → IsValue p.size v
  unfolding first_black
  along_column v m = half_every p.size (down 0) v m

  same_place : (ℓ : Line) → index ℓ < p.size → (i v : ℕ) → i < p.size → InHalf p.size ℓ v → places u ℓ i v ≡ true → places t ℓ i v ≡ true
  same_place ℓ h i v k m e = sym (at ℓ h i v k m) ∙ e

  pub lone_set_same : LoneSet p.size t → LoneSet p.size u
  lone_set_same l =
      record {
        set = λ ℓ i v h k m e only r c w hr hc q x.
            l.set ℓ i v h k m (same_place ℓ h i v k m e) (λ y o z. only y o (at ℓ h i y k o ∙ z)) r c w hr hc q (sym (same r c w hr hc q) ∙ x);
      }

  pub closed_same : 2 ≤ p.size → Closed p t → Closed p u
  closed_same low c =
      let n = p.size in
      let d : (v : ℕ) → Memᴰ v (digits n) → IsValue n v = λ v m. along_row v (digit_in n left_black m) in
      record {
        lines = λ ℓ h. line_same n (first_black ℓ) (target p ℓ) low (places t ℓ) (places u ℓ) (at ℓ (in_line n ℓ h)) (c.lines ℓ h);
        crossed = λ r k i v hr hk hi m e only ne. same i k v hi hk (d v m)
            ∙ c.crossed r k i v hr hk hi m (sym (same r k v hr hk (d v m)) ∙ e) (λ w q f. only w q (same r k w hr hk (along_row w q) ∙ f)) ne;
        crossed_back = λ r k j v hr hk hj m e only ne. same r j v hr hj (d v m)
            ∙ c.crossed_back r k j v hr hk hj m (sym (same r k v hr hk (d v m)) ∙ e) (λ w q f. only w q (same r k w hr hk (along_column w q) ∙ f)) ne;
        blacks = λ r k hr hk.
            ap₂ ◌||◌ (same r k left_black hr hk (along_row _ (first_in n left_black))) (same r k right_black hr hk (along_row _ (second_in n left_black)))
            ∙ c.blacks r k hr hk
            ∙ sym (ap₂ ◌||◌ (same r k upper_black hr hk (along_column _ (first_in n upper_black))) (same r k lower_black hr hk (along_column _ (second_in n upper_black))));
      }
