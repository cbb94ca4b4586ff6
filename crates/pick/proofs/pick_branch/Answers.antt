-- `pick::pick_branch` meets its contract. Assumes nothing.
use Rattle.pick.proofs.LeadLaws.{picked_none}
use Rattle.pick.proofs.pick_branch.Goals as goal

pub returns-in_err-at : goal.returns-in_err-at
returns-in_err-at c = rw c.from_residual.ensures (picked_none c.in_err-at.ensures)
