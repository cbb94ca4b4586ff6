-- `text_stream::Stream::append_answers` meets its contract. Assumes nothing.
use Rattle.std.proofs.Common.{refl}
use Rattle.text_stream.proofs.FedLaws.{none_kept, feeding_start, feeding_next, feeding_end}
use Rattle.text_stream.proofs.Stream.append_answers.Goals as goal

pub loop-end-init : goal.loop-end-init
loop-end-init g c = feeding_start _ _ _

pub loop-end-preserved : goal.loop-end-preserved
loop-end-preserved g c = feeding_next c.loop-end.invariant c.in-Some.end c.in-Some.ensures c.close_line.ensures.text (none_kept _ c.close_line.ensures.empty)

pub returns : goal.returns
returns g c = feeding_end c.loop-end.invariant refl c.in_default.ensures c.keep.ensures
