-- `host::candidates_by_entries` meets its contract. Assumes nothing.
use mathlib.Core.Path.{refl, ap}
use Rattle.std.specs.Prelude.{Ok}
use borrow.Author.Rules.{rules}
use Rattle.host.proofs.LentLaws.{numbered_refused, numbered_none, written_room, numbered_written}
use Rattle.host.proofs.candidates_by_entries.Goals as goal

pub write_entries-requires : goal.write_entries-requires
write_entries-requires c = written_room _ c.requires c.in-Ok-Written.ensures (ap Ok c.in-Ok-Written.field-0-is) (search rules)

pub returns-in-Ok-Written : goal.returns-in-Ok-Written
returns-in-Ok-Written c = numbered_written _ c.requires c.in-Ok-Written.ensures (ap Ok c.in-Ok-Written.field-0-is) c.write_entries.ensures

pub returns-in-Ok-Contradicted : goal.returns-in-Ok-Contradicted
returns-in-Ok-Contradicted c = numbered_none _ c.requires c.in-Ok-Contradicted.ensures (ap Ok c.in-Ok-Contradicted.field-0-is)

pub returns-in-Err : goal.returns-in-Err
returns-in-Err c = rw c.number.ensures (numbered_refused _ c.requires c.in-Err.ensures refl)
