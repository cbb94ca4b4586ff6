-- What holds in the loop of `record_fields::field_start`.
use Prim.Native.Nat.{◌+◌, ◌*◌, ◌≤◌}
use mathlib.Core.Path.{◌≡◌}
use Rattle.record_fields.specs.Fields.{field_start}
use Rattle.record_fields.proofs.field_start.Given as goal

abbrev pub invariant-loop : goal.invariant-loop
invariant-loop l = (l.at ≤ 1 + 65537 * l.counter) × (l.at ≡ field_start l.list l.counter)
