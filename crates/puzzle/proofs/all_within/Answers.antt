-- `puzzle::all_within` meets its contract: the test of the closure is that of the definition. Assumes nothing.
use Rattle.std.proofs.Common.{◌∙◌, leb, rules, tests}
use Rattle.std.proofs.lemmas.Iterator.{YieldsList-from_slice}
use Rattle.std.proofs.lemmas.Iterator.Search.{all_from_yields_List}
use Rattle.tally.proofs.TallyLaws.{all_listed}
use Rattle.puzzle.proofs.all_within.Goals as goal

pub returns : goal.returns
returns c =
    all_from_yields_List (λ t. leb t c.args.limit) _ _ c.all.result c.all.ensures.ran (YieldsList-from_slice c.args.targets.now cc) (λ x b q k. search (rules, tests))
    ∙ all_listed (λ t. leb t c.args.limit) c.args.targets.now
