-- `listing::raise_support` meets its contract. Assumes nothing.
use Rattle.listing.proofs.RaiseLaws.{raise_done}
use Rattle.listing.proofs.raise_support.Goals as goal

pub returns : goal.returns
returns c = raise_done _ _ _ _ c.args.lane.within c.requires
