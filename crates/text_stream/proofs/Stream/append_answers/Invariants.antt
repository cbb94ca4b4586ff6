-- What holds in the loop of `text_stream::Stream::append_answers`, and why it ends: what is passed of the block is fed.
use Rattle.std.proofs.Common.{length}
use Rattle.text_stream.specs.Stream.{kept_bytes}
use Rattle.text_stream.proofs.FedLaws.{Feeding}
use Rattle.text_stream.proofs.Stream.append_answers.Given as goal

abbrev pub invariant-loop-end : goal.invariant-loop-end
invariant-loop-end g l = Feeding l.block (kept_bytes l.initial.self) l.initial.out.items l.rest (kept_bytes l.self) l.out.items

abbrev pub decreases-loop-end : goal.decreases-loop-end
decreases-loop-end g l = length l.rest
