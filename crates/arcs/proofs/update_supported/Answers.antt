-- `arcs::update_supported` meets its contract. Assumes nothing.
use Rattle.arcs.proofs.SweepLaws.{line_asked, line_skipped}
use Rattle.arcs.proofs.update_supported.Goals as goal

pub update_line-requires : goal.update_line-requires
update_line-requires c = line_asked c.requires c.if-st-arranged-ne0.true

pub returns-else-st-arranged-ne0 : goal.returns-else-st-arranged-ne0
returns-else-st-arranged-ne0 c = line_skipped c.requires c.if-st-arranged-ne0.false
