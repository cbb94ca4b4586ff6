-- What holds in the loop of `replay_records::first_difference`.
use Rattle.std.proofs.Common.{◌≡◌}
use Rattle.replay_records.proofs.ReplayLaws.{Leads}
use Rattle.replay_records.proofs.first_difference.Given as goal

abbrev pub invariant-loop-at : goal.invariant-loop-at
invariant-loop-at l = (l.at-iterator.list.now ≡ l.list) × Leads l.list l.at-iterator.at
