-- `text_stream::Stream::close_line` meets its contract. Assumes nothing.
use Rattle.text_stream.proofs.FedLaws.{closed_kept}
use Rattle.text_stream.proofs.Stream.close_line.Goals as goal

pub returns-then-self-gt0-clause-text : goal.returns-then-self-gt0-clause-text
returns-then-self-gt0-clause-text g c = closed_kept c.keep.ensures c.end_line.ensures
