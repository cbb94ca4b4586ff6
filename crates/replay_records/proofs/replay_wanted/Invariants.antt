-- What holds in the loop of `replay_records::replay_wanted`.
use Rattle.std.proofs.Common.{◌≡◌, drop}
use Rattle.replay_records.proofs.ReplayLaws.{Completes}
use Rattle.replay_records.proofs.replay_wanted.Given as goal

abbrev pub invariant-loop-outcome : goal.invariant-loop-outcome
invariant-loop-outcome g l =
    (l.outcome-iterator.list.now ≡ l.list) × Completes (goal.F-post g l.wanted) l.list (drop l.outcome-iterator.at l.list) l.tally
