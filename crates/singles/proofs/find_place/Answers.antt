-- `singles::find_place` meets its contract. Assumes nothing.
use Rattle.singles.proofs.FindLaws.{found}
use Rattle.singles.proofs.find_place.Goals as goal

pub returns : goal.returns
returns c = found c.args.lane c.requires c.next.result _ c.next.ensures.steps
