-- `pick::open_values` meets its contract. Assumes nothing.
use Rattle.pick.proofs.OpenLaws.{values_none, values_more}
use Rattle.pick.proofs.open_values.Goals as goal

pub loop-c-init : goal.loop-c-init
loop-c-init c = values_none c.args.view.st.now c.args.r

pub loop-c-preserved : goal.loop-c-preserved
loop-c-preserved c = values_more c.loop-c.invariant c.open_half-values.ensures
