-- `propagate::update` meets its contract. Assumes nothing.
use Rattle.propagate.proofs.UpdateLaws.{update_first, update_second, update_third, update_fourth, update_done}
use Rattle.propagate.proofs.update.Goals as goal

pub update_singleton-requires : goal.update_singleton-requires
update_singleton-requires c = update_first c.requires

pub update_hidden_singles-requires : goal.update_hidden_singles-requires
update_hidden_singles-requires c = update_second c.requires c.update_singleton.ensures

pub update_black_consistency-requires : goal.update_black_consistency-requires
update_black_consistency-requires c = update_third c.requires c.update_singleton.ensures c.update_hidden_singles.ensures

pub update_arc-requires : goal.update_arc-requires
update_arc-requires c =
    update_fourth c.requires
    c.update_singleton.ensures
    c.update_hidden_singles.ensures
    c.update_black_consistency.ensures

pub returns : goal.returns
returns c =
    update_done c.requires
    c.update_singleton.ensures
    c.update_hidden_singles.ensures
    c.update_black_consistency.ensures
    c.update_arc.ensures
