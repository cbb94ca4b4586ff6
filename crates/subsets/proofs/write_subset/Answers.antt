-- `subsets::write_subset` meets its contract. Assumes nothing.
use Rattle.subsets.proofs.TextLaws.{line_put}
use Rattle.subsets.proofs.write_subset.Goals as goal

pub returns-clause-text : goal.returns-clause-text
returns-clause-text g c =
    line_put _ c.args.subset c.write_number.ensures.text c.push.ensures.items c.write_number-2.ensures.text c.push-2.ensures.items c.write_number-3.ensures.text
    c.push-3.ensures.items
