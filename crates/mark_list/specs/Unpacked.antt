-- A mark as the code has it: a record of its fields, and its word in the bytes. Assumes nothing.
use Rattle.std.specs.Prelude.{ℕ, ◌+◌, ◌*◌, List, get_or}
use Rattle.rules.specs.Mark.{rejects, mark_row, mark_column, mark_value}
use Rattle.mark_list.specs.declared.Mark.{Mark}

-- The fields of a word.
abbrev pub unpacked : ℕ → Mark
unpacked m = record { rejects = rejects m; candidate = record { row = mark_row m; column = mark_column m; value = mark_value m } }

-- The word of mark i: its two bytes, the missing half of half a mark read as 7.
abbrev pub word_at : List ℕ → ℕ → ℕ
word_at bytes i = get_or bytes (2 * i) 0 * 256 + get_or bytes (2 * i + 1) 7
