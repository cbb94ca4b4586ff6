-- `opening::open` meets its contract. Assumes nothing.
use Rattle.listing.proofs.LineLaws.{listable}
use Rattle.opening.proofs.OpenLaws.{seed_ask, opened}
use Rattle.opening.proofs.open.Goals as goal

pub seed_queue-requires : goal.seed_queue-requires
seed_queue-requires c =
    seed_ask (listable c.args.p c.requires.0) c.list_arrangements.ensures

pub returns : goal.returns
returns c =
    opened (listable c.args.p c.requires.0) c.list_arrangements.ensures c.seed_queue.ensures
