-- The numbers of the refusals. Those up to 21 that are missing are kept for what docs/INTERFACE.md says; answers begin at 100. Assumes nothing.
use Rattle.std.specs.Prelude.{ℕ, ⊤, Result, Ok, Err}
use Rattle.refusal.specs.declared.Refusal.{Refusal}
use Rattle.refusal.specs.declared.Refusal.TheVariants.{Size, TargetLengths, Target, MarkSpare, MarkPlace, MarkValue, CellsLength, Blacks, EmptyCell, Sum, TextLine, SizeLimit, ListLimit}

-- The number of each refusal: 1 size, 2 lengths of the target slices, 3 targets; of a mark 4 spare bits, 5 cell, 6 value; 7 length of the buffer;
-- of a line 8 blacks, 9 numbers between them, 10 sum; 11 the line of a text (crates/text_rules); 18 the unit's greatest size, 19 its longest list.
abbrev pub refusal_number : Refusal → ℕ
refusal_number Size = 1
refusal_number TargetLengths = 2
refusal_number Target = 3
refusal_number MarkSpare = 4
refusal_number MarkPlace = 5
refusal_number MarkValue = 6
refusal_number CellsLength = 7
refusal_number Blacks = 8
refusal_number EmptyCell = 9
refusal_number Sum = 10
refusal_number TextLine = 11
refusal_number SizeLimit = 18
refusal_number ListLimit = 19

-- The number of an answer: that of the refusal, or 0.
abbrev pub number_of : Result ⊤ Refusal → ℕ
number_of (Ok _) = 0
number_of (Err k) = refusal_number k
