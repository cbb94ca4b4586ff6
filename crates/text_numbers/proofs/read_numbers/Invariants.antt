-- What holds in the loop of `text_numbers::read_numbers`.
use Rattle.text_numbers.proofs.FieldLaws.{Reading}
use Rattle.text_numbers.proofs.read_numbers.Given as goal

abbrev pub invariant-loop-field : goal.invariant-loop-field
invariant-loop-field l = Reading l.line l.field-iterator.rest.now l.field-iterator.done l.room.items
