-- `replay_records::replay` meets its contract. Assumes nothing.
use Rattle.replay_records.proofs.ReplayLaws.{replayed_one}
use Rattle.replay_records.proofs.replay.Goals as goal

pub returns-in-Some : goal.returns-in-Some
returns-in-Some c =
    let call = c.in-Some.ensures in replayed_one _ _ _ _ _ call.0 call.1 c.field_count.ensures.is c.field_start.ensures.0 c.agrees.ensures
