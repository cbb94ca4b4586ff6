-- `subsets::write_subsets` meets its contract. Assumes nothing.
use Rattle.std.proofs.Common.{◌++◌, sym, ap, ◌∙◌, append-nil, arith}
use Rattle.subsets.proofs.TextLaws.{lines_put, lines_all}
use Rattle.subsets.proofs.write_subsets.Goals as goal

pub loop-subset-init : goal.loop-subset-init
loop-subset-init g c = (sym (append-nil c.args.out.now.items), omega arith)

pub loop-subset-preserved : goal.loop-subset-preserved
loop-subset-preserved g c =
    let v = c.loop-subset.invariant in
    (lines_put c.loop-subset.subset-index c.loop-subset-test.true _ v.0 c.write_subset.ensures.text, omega (arith, v.1, c.write_subset.ensures.short))

pub returns : goal.returns
returns g c = c.loop-subset.invariant.0 ∙ ap (λ l. c.args.out.now.items ++ l) (lines_all c.loop-subset.subset-index c.loop-subset-test.false)
