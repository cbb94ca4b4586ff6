-- Going over the records of a list. Assumes nothing.
use Rattle.std.specs.Prelude.{ℕ, ◌+◌, ◌≤◌, ◌<◌, ◌≡◌, length, drop, Option, MatchOption}
use Rattle.replay_records.specs.declared.Outcome.{Outcome}
use Rattle.replay_records.specs.declared.Records.{Records}
use Rattle.replay_records.specs.Replay.{Replayed}

-- A step gives where the next record begins and what replaying it found, and goes on behind it.
abbrev pub GivesRecord : Records → ℕ × Outcome → Records → Type 0
GivesRecord s x t =
    (x.0 ≡ s.at) × (s.at < length s.list.now) × Replayed (drop s.at s.list.now) x.1 × (t.list ≡ s.list) × (t.at ≡ s.at + x.1.length)

-- Or it gives nothing, at the end of the list.
abbrev pub NextRecord : Records → Option (ℕ × Outcome) → Records → Type 0
NextRecord s r t = MatchOption r ((length s.list.now ≤ s.at) × (t ≡ s)) (λ x. GivesRecord s x t)
