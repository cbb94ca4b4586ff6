-- Reading a cell: the one candidate of a settled half, and the cell that either half tells. Assumes nothing.
use Prim.Native.Nat.{ℕ, ◌+◌, ◌*◌, ◌/◌, ◌%◌, ◌≤◌, ◌<◌}
use mathlib.Core.Path.{◌≡◌, sym, ap, ◌∙◌, subst, fun_ext}
use mathlib.Core.Bool.{Bool, true}
use mathlib.Core.Logic.{⊎_elim}
use mathlib.Core.List.{map, Memᴰ}
use native.Mathlib.Omega.{arith}
use native.Mathlib.Nat.{add-zero, mul-add-div_right, mul-add-mod_self_right, div-eq_of_lt, mod-eq_of_lt}
use Rattle.tally.specs.Tally.{span, first}
use Rattle.tally.specs.Way.{Way}
use Rattle.tally.proofs.TallyLaws.{span_in, span_length, map_at, Once}
use Rattle.tally.proofs.WayLaws.{way_map}
use Rattle.rules.specs.Grid.{black, digits, Line, index, line, cell}
use Rattle.rules.proofs.GridLaws.{place_lt}
use Rattle.rules.specs.Short.{symbols}
use Rattle.table.specs.Table.{Table, places, half}
use Rattle.table.specs.Reading.{choices, read_cell, read_off}
use Rattle.tally.proofs.ListLaws.{first_cases, first_passes, first_none}
use Rattle.line_laws.proofs.Lists.{count_pos, count_sole, once_same, map_on}
use Rattle.line_laws.proofs.Half.{digit_range, HalfValue, a_digit, a_first, a_second, half_value, digit_in, half_once}
use Rattle.line_laws.proofs.SettledLine.{Settled, symbol_of, cell_digit, cell_black}
use Rattle.line_laws.proofs.GridLines.{place_in, line_map, places_cell}
use Rattle.table.specs.Lines.{row_of, column_of}

-- ---- a settled half

-- The value of a settled half.
unfoldable pub value_of : ℕ → ℕ → (ℕ → Bool) → ℕ
value_of n k cands = first cands 0 (half n k)

module _ (n k : ℕ) (cands : ℕ → Bool) where
  pub settle : choices n k cands ≡ 1 → Settled n k cands (value_of n k cands)
  unfolding choices value_of
  settle e =
      let w = first_passes cands 0 (half n k) (omega arith) in
      record { known = w.0; kept = w.1; only = λ v m t. once_same cands (half n k) (omega arith) m w.0 t w.1 }

  pub settled_choices : n ≤ 9 → 8 ≤ k → (v : ℕ) → Settled n k cands v → choices n k cands ≡ 1
  unfolding choices Once
  settled_choices z high v s = count_sole cands v (half n k) s.kept s.only ∙ half_once n k z high v s.known

  -- Either half of a settled cell tells the cell.
  pub read_value : n ≤ 9 → 8 ≤ k → (v : ℕ) → Settled n k cands v → read_cell n cands ≡ symbol_of v
  unfolding read_cell
  read_value z high v s = go (half_value n k v s.known)
    where
      none : 8 ≤ v → (x : ℕ) → Memᴰ x (digits n) → cands x ≡ true → ⊥
      none h x m t = omega (arith, s.only x (digit_in n k m) t, (digit_range n x m).1)

      go : HalfValue n k v → first cands black (digits n) ≡ symbol_of v
      go (a_digit m _ h) =
          let w = first_passes cands black (digits n) (count_pos cands m s.kept) in
          s.only (first cands black (digits n)) (digit_in n k w.0) w.1 ∙ sym (cell_digit v (omega arith))
      go (a_first e) = first_none cands black (digits n) (none (omega arith)) ∙ sym (cell_black v (omega arith))
      go (a_second e) = first_none cands black (digits n) (none (omega arith)) ∙ sym (cell_black v (omega arith))

read_symbol : (n : ℕ) (cands : ℕ → Bool) → Memᴰ (read_cell n cands) (symbols n)
unfolding read_cell
read_symbol n cands = ⊎_elim (λ w. Memᴰ.tail w.0) (λ w. Memᴰ.head w.1) (first_cases cands black (digits n))

-- ---- the grid that is read off

module _ (n : ℕ) (t : Table) where
  pub read_way : Way (symbols n) (n * n) (read_off n t)
  unfolding read_off
  read_way =
      subst (λ k. Way (symbols n) k (map (λ i. read_cell n (t (i / n) (i % n))) (span 0 (n * n)))) (span_length 0 (n * n))
      (way_map (λ i. read_cell n (t (i / n) (i % n))) (span 0 (n * n)) (λ i _. read_symbol n (t (i / n) (i % n))))

  pub cell_read : (r c : ℕ) → r < n → c < n → cell n (read_off n t) r c ≡ read_cell n (t r c)
  unfolding cell read_off
  cell_read r c h k =
      let z : 0 < n = omega arith in
      let row : (r * n + c) / n ≡ r = mul-add-div_right z r c ∙ ap (λ x. r + x) (div-eq_of_lt k) ∙ add-zero r in
      let column : (r * n + c) % n ≡ c = mul-add-mod_self_right r n c ∙ mod-eq_of_lt k in
      map_at (λ i. read_cell n (t (i / n) (i % n))) 0 (n * n) (r * n + c) (place_lt n r c h k)
      ∙ ap (λ i. read_cell n (t (i / n) (i % n))) (omega arith)
      ∙ ap (λ x. read_cell n (t x ((r * n + c) % n))) row
      ∙ ap (λ x. read_cell n (t r x)) column

  pub line_read : (ℓ : Line) → index ℓ < n → line n (read_off n t) ℓ ≡ map (λ i. read_cell n (places t ℓ i)) (span 0 n)
  line_read ℓ h =
      line_map n (read_off n t) ℓ
      ∙ map_on (span 0 n) (λ i m. let b = span_in 0 n i m in
      let w = place_in n ℓ i h (omega arith) in
      cell_read (row_of ℓ i) (column_of ℓ i) w.0 w.1 ∙ ap (read_cell n) (sym (fun_ext (places_cell t ℓ i))))
