-- `arcs::having` meets its contract. Assumes nothing.
use Rattle.arcs.proofs.DeathLaws.{having_mask}
use Rattle.arcs.proofs.having.Goals as goal

pub returns : goal.returns
returns c = having_mask c.args.lane c.args.st.now c.args.v c.requires
