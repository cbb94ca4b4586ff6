-- `replay_records::replay_list` meets its contract: what is wanted are the kinds from first to last. Assumes nothing.
use Rattle.std.proofs.Common.{rules}
use Rattle.replay_records.proofs.KindLaws.{kinds_tallied}
use Rattle.replay_records.proofs.replay_list.Goals as goal

pub returns : goal.returns
returns c = kinds_tallied (λ call b w. search rules) c.replay_wanted.ensures
