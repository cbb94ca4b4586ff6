-- The answer to a line. Assumes nothing.
use Rattle.std.specs.Prelude.{ℕ, ◌≡◌, List, []}
use Rattle.rules.specs.Check.{refusal}
use Rattle.rules.specs.Number.{number, verdict_of}
use Rattle.rules.specs.Order.{found, first_or}
use Rattle.text_rules.specs.Fields.{line_puzzle, line_checks}
use Rattle.text_rules.specs.Text.{answer_text}

-- The text of the line's refusal, or of the verdict on its puzzle and the first of the grids in order.
unfoldable pub line_answer : List ℕ → List ℕ
line_answer line =
    answer_text (refusal (line_checks line)) (verdict_of (number (line_puzzle line) [])) (line_puzzle line).size (first_or [] (found (line_puzzle line) []))

-- The text answers the line.
abbrev pub Answered : List ℕ → List ℕ → Type 0
Answered line text = text ≡ line_answer line
