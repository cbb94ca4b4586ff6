-- `text_stream::Stream::new` meets its contract. Assumes nothing.
use Rattle.std.proofs.Common.{refl}
use Rattle.text_stream.proofs.FedLaws.{begun}
use Rattle.text_stream.proofs.Stream.new.Goals as goal

pub returns : goal.returns
returns c = begun _ refl
