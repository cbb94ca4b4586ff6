-- `text_stream::Stream::append_last` meets its contract. Assumes nothing.
use Rattle.std.proofs.Common.{rules}
use Rattle.text_stream.proofs.FedLaws.{last_none, last_line}
use Rattle.text_stream.proofs.Stream.append_last.Goals as goal

pub returns-then-self-eq0 : goal.returns-then-self-eq0
returns-then-self-eq0 g c = last_none _ c.if-self-eq0.true

pub returns : goal.returns
returns g c = last_line (search rules) c.if-self-eq0.false c.end_line.ensures
