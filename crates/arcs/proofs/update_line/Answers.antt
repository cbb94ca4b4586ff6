-- `arcs::update_line` meets its contract. Assumes nothing.
use Rattle.arcs.proofs.SweepLaws.{line_swept}
use Rattle.arcs.proofs.update_line.Goals as goal

pub returns : goal.returns
returns c = line_swept c.args.arranged c.requires c.sweep-len.ensures
