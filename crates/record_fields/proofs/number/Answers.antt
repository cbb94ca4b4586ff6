-- `record_fields::number` meets its contract. Assumes nothing.
use Rattle.std.proofs.Common.{arith}
use Rattle.std.proofs.lemmas.Grind.{common_steps}
use Rattle.record_fields.proofs.FieldLaws.{number_of_eight}
use Rattle.record_fields.proofs.number.Goals as goal

pub returns : goal.returns
returns c = grind (arith, common_steps, number_of_eight)
