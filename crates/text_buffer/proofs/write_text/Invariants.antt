-- What holds in the loop of `text_buffer::write_text`.
use Rattle.std.proofs.Common.{◌≡◌, ◌++◌, take}
use Rattle.text_buffer.proofs.write_text.Given as goal

abbrev pub invariant-loop-b : goal.invariant-loop-b
invariant-loop-b g l = l.out.items ≡ l.initial.out.items ++ take l.b-index l.text
