-- `text_stream::Stream::end` meets its contract. Assumes nothing.
use Rattle.text_stream.proofs.FedLaws.{last_put}
use Rattle.text_stream.proofs.Stream.end.Goals as goal

pub returns : goal.returns
returns c = last_put c.new-text.ensures c.append_last.ensures (rw c.deref.ensures.0 at c.put_front.ensures)
