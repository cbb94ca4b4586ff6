-- `text_stream::Stream::keep` meets its contract. Assumes nothing.
use Rattle.std.proofs.Common.{rules}
use Rattle.text_stream.proofs.FedLaws.{kept_next}
use Rattle.text_stream.proofs.Stream.keep.Goals as goal

pub returns : goal.returns
returns c = kept_next _ _ (search rules) c.args.self.now.within c.min-room.ensures c.put_front.ensures
