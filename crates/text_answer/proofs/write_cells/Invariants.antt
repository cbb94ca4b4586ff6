-- What holds in the loop of `text_answer::write_cells`.
use Rattle.std.proofs.Common.{◌≡◌, ◌++◌, map, take}
use Rattle.text_rules.specs.Text.{cell_text}
use Rattle.text_answer.proofs.write_cells.Given as goal

abbrev pub invariant-loop-c : goal.invariant-loop-c
invariant-loop-c g l = l.out.items ≡ l.initial.out.items ++ map cell_text (take l.c-index l.row)
