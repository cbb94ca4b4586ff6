-- `text_stream::Stream::feed` meets its contract. Assumes nothing.
use Rattle.std.proofs.Common.{refl}
use Rattle.text_stream.proofs.FedLaws.{none_kept, feeding_put_start, feeding_put_next, feeding_put_end}
use Rattle.text_stream.proofs.Stream.feed.Goals as goal

pub loop-end-init : goal.loop-end-init
loop-end-init c = feeding_put_start _ _ _

pub loop-end-preserved : goal.loop-end-preserved
loop-end-preserved c =
    feeding_put_next c.loop-end.invariant c.in-Some.end c.in-Some.ensures c.new-text.ensures c.close_line.ensures.text (none_kept _ c.close_line.ensures.empty)
    (rw c.deref.ensures.0 at c.put_front-written.ensures)

pub returns : goal.returns
returns c = feeding_put_end c.loop-end.invariant refl c.in_default.ensures c.keep.ensures
