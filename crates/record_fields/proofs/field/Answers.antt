-- `record_fields::field` meets its contract. Assumes nothing.
use Rattle.std.proofs.Common.{refl}
use Rattle.record_fields.proofs.FieldLaws.{field_got}
use Rattle.record_fields.proofs.field.Goals as goal

pub returns : goal.returns
returns c = rw c.unwrap_or.ensures (field_got _ _ _ _ _ _ c.field_start-start.ensures.0 c.field_start-end.ensures.0 c.get.ensures.lookup refl)
