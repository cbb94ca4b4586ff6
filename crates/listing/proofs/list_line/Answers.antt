-- `listing::list_line` meets its contract. Assumes nothing.
use Rattle.listing.proofs.LineLaws.{inside_ask, outside_ask, line_added}
use Rattle.listing.proofs.list_line.Goals as goal

pub list_side-requires : goal.list_side-requires
list_side-requires c =
    inside_ask c.args.arranged.fits c.size.ensures _ _ c.max_target.ensures c.requires.0 c.requires.1

pub list_side-requires-2 : goal.list_side-requires-2
list_side-requires-2 c =
    outside_ask c.args.arranged.fits c.size.ensures _ _ c.max_target.ensures c.requires.0 c.list_side.ensures

pub returns : goal.returns
returns c =
    line_added c.args.arranged.fits c.size.ensures _ _ c.max_target.ensures c.requires.0 c.list_side.ensures c.list_side-2.ensures
