-- Units: the hall, the classrooms, and what each takes. Assumes nothing.
use Rattle.std.specs.Prelude.{ℕ, Bool, true, leb, Option, None, Some}
use Rattle.units.specs.declared.Unit.{Unit}

-- The hall takes sizes up to 9 and any list.
abbrev pub hall : Unit
hall = record { greatest = 9; longest = None }

-- Classrooms take sizes up to 6 and lists of at most 40 marks.
abbrev pub classroom : Unit
classroom = record { greatest = 6; longest = Some 40 }

-- A unit takes a size: it is not above its limit.
abbrev pub takes_size : Unit → ℕ → Bool
takes_size u n = leb n u.greatest

-- A limit lets a list of this many marks pass.
abbrev pub within : Option ℕ → ℕ → Bool
within None marks = true
within (Some most) marks = leb marks most

-- A unit takes a list of this many marks.
abbrev pub takes_list : Unit → ℕ → Bool
takes_list u marks = within u.longest marks

-- A limit as a number: where there is none, the greatest of 64 bits, which no list reaches.
abbrev pub limit_number : Option ℕ → ℕ
limit_number None = 18446744073709551615
limit_number (Some most) = most

-- The limit of a unit for lists, as a number.
abbrev pub list_limit : Unit → ℕ
list_limit u = limit_number u.longest
