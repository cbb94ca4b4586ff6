-- What holds in the loop of `text_stream::Stream::feed`, and why it ends: what is passed of the block is fed, and its texts stand at the front.
use Rattle.std.proofs.Common.{length}
use Rattle.text_stream.specs.Stream.{kept_bytes}
use Rattle.text_stream.proofs.FedLaws.{FeedingPut}
use Rattle.text_stream.proofs.Stream.feed.Given as goal

abbrev pub invariant-loop-end : goal.invariant-loop-end
invariant-loop-end l = FeedingPut l.block (kept_bytes l.initial.stream) l.initial.out l.ahead (kept_bytes l.stream) l.written l.out

abbrev pub decreases-loop-end : goal.decreases-loop-end
decreases-loop-end l = length l.ahead
