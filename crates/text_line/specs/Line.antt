-- What the answer to a line gives, and what its steps ask and give. Assumes nothing.
use Rattle.std.specs.Prelude.{ℕ, ◌*◌, ◌≤◌, ◌<◌, ◌≡◌, Bool, true, false, List, [], ◌++◌, length, Result, Ok, Err, IsOk, IsErr, decimal}
use Rattle.tally.specs.Tally.{all}
use Rattle.refusal.specs.declared.Refusal.{Refusal}
use Rattle.refusal.specs.Number.{refusal_number}
use Rattle.units.specs.Limits.{hall}
use Rattle.rules.specs.Grid.{Puzzle}
use Rattle.rules.specs.Check.{checked, refusal, puzzle_checks}
use Rattle.rules.specs.Number.{number, verdict_of}
use Rattle.rules.specs.Order.{found, first_or}
use Rattle.engine.specs.declared.Verdict.{Verdict}
use Rattle.engine.specs.declared.Verdict.TheVariants.{Unsolvable, Unique, Multiple}
use Rattle.text_rules.specs.Fields.{line_checks}
use Rattle.text_rules.specs.Text.{refused_word, unsolvable_word, unique_word, multiple_word, grid_text, answer_text}
use Rattle.text_rules.specs.Answered.{Answered}
use Rattle.text_answer.specs.Shown.{shown}

-- A text that answers the line is appended.
pub record LineText (line out out' : List ℕ) : Type 0 where
  pub text : List ℕ
  pub answers : Answered line text
  pub put : out' ≡ out ++ text

-- A buffer with room for 100 bytes gets the text that answers the line; one with less stays as it was, and this is told.
pub record LineGiven {T E : Type 0} (line : List ℕ) (room : ℕ) (told : Result T E) (out out' : List ℕ) : Type 0 where
  pub short : room < 100 → IsErr told × (out' ≡ out)
  pub answered : 100 ≤ room → IsOk told × LineText line out out'

-- ---- the steps

-- The text of an answer of Solve.
abbrev pub solved_text : Result Verdict Refusal → ℕ → List ℕ → List ℕ
solved_text (Ok Unsolvable) n g = unsolvable_word
solved_text (Ok Unique) n g = unique_word ++ grid_text n g
solved_text (Ok Multiple) n g = multiple_word ++ grid_text n g
solved_text (Err k) n g = refused_word ++ decimal (refusal_number k)

-- The answer shows a grid.
abbrev pub shows_grid : Result Verdict Refusal → Bool
shows_grid (Ok Unsolvable) = false
shows_grid (Ok Unique) = true
shows_grid (Ok Multiple) = true
shows_grid (Err k) = false

-- An answer, whose grid has a text if it shows one, and room for it.
pub record AnswerAsk (answer : Result Verdict Refusal) (g : List ℕ) (room : ℕ) : Type 0 where
  pub cells : shows_grid answer ≡ true → all shown g ≡ true
  pub fits : 99 ≤ room

-- The targets of a size, as many cells as it has, and room.
pub record SolveTargetsAsk (n : ℕ) (targets : List ℕ) (cells room : ℕ) : Type 0 where
  pub long : length targets ≡ 2 * n
  pub square : cells ≡ n * n
  pub fits : 99 ≤ room

-- The targets of a size, and room.
pub record TargetsAsk (n : ℕ) (targets : List ℕ) (room : ℕ) : Type 0 where
  pub long : length targets ≡ 2 * n
  pub fits : 99 ≤ room

-- A text that answers the puzzle is appended.
pub record PuzzleText (p : Puzzle) (out out' : List ℕ) : Type 0 where
  pub put : out' ≡ out ++ answer_text (refusal (puzzle_checks hall p)) (verdict_of (number p [])) p.size (first_or [] (found p []))

-- A text that answers the line is appended, or the line is refused and nothing is appended.
abbrev pub LineChecked : {T : Type 0} → (line out out' : List ℕ) → Result T Refusal → Type 0
LineChecked line out out' (Ok _) = LineText line out out'
LineChecked line out out' (Err k) = (checked (line_checks line) ≡ Err k) × (out' ≡ out)
