-- `sheet::read_some` meets its contract. Assumes nothing.
use Rattle.std.proofs.Common.{[]}
use Rattle.std.proofs.KnownBytes.{Consumes-kept}
use Rattle.sheet.proofs.RunLaws.{read_failed}
use Rattle.sheet.proofs.read_some.Goals as goal

pub returns-in-Some-clause-kept : goal.returns-in-Some-clause-kept
returns-in-Some-clause-kept g c = Consumes-kept _ _ _ [] c.loop.invariant c.in-Err.ensures.bytes

pub returns-in-Some-clause-told : goal.returns-in-Some-clause-told
returns-in-Some-clause-told g c = read_failed _ _ c.failed_read.ensures.again c.failed_read.ensures.stops c.in-Some.is
