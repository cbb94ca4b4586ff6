-- `record_fields::field_start` meets its contract: at is where the field begins. Assumes nothing.
use Rattle.std.proofs.Common.{refl, rules, arith}
use Rattle.record_fields.specs.Fields.{field_start}
use Rattle.record_fields.proofs.FieldLaws.{start_next}
use Rattle.record_fields.proofs.field_start.Goals as goal

pub loop-init : goal.loop-init
unfolding field_start
loop-init c = (omega arith, refl)

pub loop-preserved : goal.loop-preserved
loop-preserved c =
    (search rules, rw (c.from.ensures, c.from_be_bytes.ensures) (start_next _ _ _ _ _ c.loop.invariant.1 c.byte.ensures c.byte-in-loop.ensures))
