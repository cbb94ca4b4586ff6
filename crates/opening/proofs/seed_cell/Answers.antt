-- `opening::seed_cell` meets its contract. Assumes nothing.
use Rattle.opening.proofs.SeedLaws.{cell_struck}
use Rattle.opening.proofs.seed_cell.Goals as goal

pub returns : goal.returns
returns c =
    cell_struck _ _ _ _ _ c.unsupported-a.ensures c.unsupported-b.ensures c.requires.2 c.clear_mask.ensures
