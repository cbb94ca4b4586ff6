-- A table of candidates in bytes, two an entry, the more significant first. Assumes nothing.
use Rattle.std.specs.Prelude.{ℕ, ◌/◌, ◌%◌, cond, eqb}

-- How many entries a number of bytes has: with a byte left over, none.
abbrev pub entry_count : ℕ → ℕ
entry_count len = cond (eqb (len % 2) 0) (len / 2) 0

-- How many entries are lent at most: one more than the largest table has.
abbrev pub most_lent : ℕ
most_lent = 82
