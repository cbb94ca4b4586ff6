-- A closed and settled table has exactly one grid left, the one that is read off. Assumes nothing.
use Prim.Native.Nat.{ℕ, ◌<◌}
use mathlib.Core.Path.{◌≡◌, ◌∙◌}
use mathlib.Core.Bool.{true}
use mathlib.Core.List.{List}
use native.Mathlib.Omega.{arith}
use Rattle.tally.proofs.TallyLaws.{span_in}
use Rattle.tally.specs.Tally.{span}
use Rattle.rules.specs.Size.{Size}
use Rattle.rules.specs.Grid.{keeps_line, Puzzle, Line, across, down, index, line, target, keeps}
use Rattle.rules.specs.Mark.{left_black}
use Rattle.rules.proofs.GridLaws.{line_in}
use Rattle.table.specs.Table.{Table, places, first_black, half, fits, left}
use Rattle.table.specs.Closed.{Closed}
use Rattle.table.specs.Reading.{choices, read_off, AllSettled}
use Rattle.line_laws.proofs.Lists.{map_on, once_same}
use Rattle.line_laws.proofs.Half.{first_high}
use Rattle.line_laws.proofs.Parts.{LawfulLine}
use Rattle.line_laws.proofs.SettledLine.{Settled, line_of, closed_lawful, closed_own, closed_keeps}
use Rattle.line_laws.proofs.GridLines.{FitsLine, each_line, fits_all, fits_one}
use Rattle.line_laws.specs.Grids.{GridOf}
use Rattle.settled.proofs.LeftLaws.{left_one}
use Rattle.settled.proofs.ReadLaws.{value_of, settle, read_value, read_way, line_read}

-- ---- a line of a closed table with one candidate at each place

-- The value of a place of a line.
unfoldable pub settled_value : ℕ → Table → Line → ℕ → ℕ
settled_value n t ℓ i = value_of n (first_black ℓ) (places t ℓ i)

module _ (p : Puzzle) (t : Table) (z : Size p.size) (cl : Closed p t) (ℓ : Line) (h : index ℓ < p.size)
    (one : (i : ℕ) → i < p.size → choices p.size (first_black ℓ) (places t ℓ i) ≡ 1) where
  pub place_settled : (i : ℕ) → i < p.size → Settled p.size (first_black ℓ) (places t ℓ i) (settled_value p.size t ℓ i)
  unfolding settled_value
  place_settled i k = settle p.size (first_black ℓ) (places t ℓ i) (one i k)

  read_line : line p.size (read_off p.size t) ℓ ≡ line_of p.size (settled_value p.size t ℓ)
  unfolding line_of
  read_line =
      line_read p.size t ℓ h
      ∙ map_on (span 0 p.size) (λ i m. let b = span_in 0 p.size i m in
      read_value p.size (first_black ℓ) (places t ℓ i) z.high (first_high ℓ) (settled_value p.size t ℓ i) (place_settled i (omega arith)))

  -- It reads off as a lawful line that keeps its target, with the values of its places.
  pub read_lawful : LawfulLine p.size (line p.size (read_off p.size t) ℓ)
  read_lawful =
      rw read_line (closed_lawful p.size (first_black ℓ) (target p ℓ) (places t ℓ) z.high z.low (first_high ℓ) (cl.lines ℓ (line_in p.size ℓ h))
      (settled_value p.size t ℓ) place_settled)

  pub read_keeps_line : keeps_line p.size (target p ℓ) (line p.size (read_off p.size t) ℓ) ≡ true
  read_keeps_line =
      rw read_line (closed_keeps p.size (first_black ℓ) (target p ℓ) (places t ℓ) z.high z.low (first_high ℓ) (cl.lines ℓ (line_in p.size ℓ h))
      (settled_value p.size t ℓ) place_settled)

  pub read_fits_line : FitsLine p.size (first_black ℓ) (places t ℓ) (line p.size (read_off p.size t) ℓ)
  read_fits_line i k =
      rw (
        read_line,
        closed_own p.size (first_black ℓ) (target p ℓ) (places t ℓ) z.high z.low (first_high ℓ) (cl.lines ℓ (line_in p.size ℓ h)) (settled_value p.size t ℓ) place_settled i k,
      )
      (place_settled i k).kept

-- ---- a closed and settled table

module _ (p : Puzzle) (t : Table) (z : Size p.size) (cl : Closed p t) (s : AllSettled p.size t) where
  ones : (ℓ : Line) → index ℓ < p.size → (i : ℕ) → i < p.size → choices p.size (first_black ℓ) (places t ℓ i) ≡ 1
  unfolding places first_black index
  ones (across r) h i k = s.rows r i h k
  ones (down c) h i k = s.columns i c k h

  -- The grid that is read off keeps the puzzle.
  pub read_keeps : keeps p (read_off p.size t) ≡ true
  unfolding keeps
  read_keeps = each_line _ p.size (λ ℓ h. read_keeps_line p t z cl ℓ h (ones ℓ h))

  read_grid : GridOf p (read_off p.size t)
  read_grid = record { filled = read_way p.size t; kept = read_keeps }

  -- It fits the table.
  pub read_fits : fits p.size t (read_off p.size t) ≡ true
  read_fits = fits_all p.size t (read_off p.size t) (λ ℓ h. read_fits_line p t z cl ℓ h (ones ℓ h))

  -- It is the only one.
  pub read_only : (x : List ℕ) → GridOf p x → fits p.size t x ≡ true → x ≡ read_off p.size t
  unfolding choices
  read_only x d f =
      fits_one p t z.high (λ r c h k v w mv mw tv tw. let e = s.rows r c h k in once_same (t r c) (half p.size left_black) (omega arith) mv mw tv tw) x
      (read_off p.size t) d read_grid f
      read_fits

  -- ONE IS LEFT
  pub settled_left : left p t ≡ 1
  settled_left = left_one p z.high t (read_off p.size t) read_grid read_fits read_only
