-- `value::Value::is_named` meets its contract. Assumes nothing.
use Rattle.std.proofs.Common.{arith}
use Rattle.std.proofs.lemmas.Grind.{common_steps}
use Rattle.rules.specs.Check.{named}
use Rattle.value.proofs.Value.is_named.Goals as goal

pub returns-then-contains : goal.returns-then-contains
unfolding named
returns-then-contains c = grind (arith, common_steps)

pub returns-else-contains : goal.returns-else-contains
unfolding named
returns-else-contains c = grind (arith, common_steps)
