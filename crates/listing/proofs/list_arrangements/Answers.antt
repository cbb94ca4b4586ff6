-- `listing::list_arrangements` meets its contract. Assumes nothing.
use mathlib.Core.Path.{◌≡◌}
use native.Mathlib.Omega.{arith}
use Rattle.listing.proofs.LineLaws.{listable, row_ask, column_ask, listed_next, all_listed}
use Rattle.listing.proofs.list_arrangements.Goals as goal

pub list_line-requires : goal.list_line-requires
list_line-requires c = row_ask (listable c.args.p c.requires.0) _ c.loop-i-test.true c.loop-i.invariant _ (rw c.requires.1 at c.row.ensures) c.from.ensures

pub list_line-requires-in-loop-i : goal.list_line-requires-in-loop-i
list_line-requires-in-loop-i c =
    let r = rw c.requires.1 at c.row.ensures in
    column_ask (listable c.args.p c.requires.0) _ c.loop-i-test.true c.loop-i.invariant c.row.result.lane _ r c.from.ensures c.list_line.ensures _
    (rw c.requires.1 at c.column.ensures) c.from-in-loop-i.ensures

pub loop-i-preserved : goal.loop-i-preserved
loop-i-preserved c =
    let r = rw c.requires.1 at c.row.ensures in
    listed_next (listable c.args.p c.requires.0) _ c.loop-i-test.true c.loop-i.invariant c.row.result.lane _ r c.from.ensures c.list_line.ensures
    c.column.result.lane _ (rw c.requires.1 at c.column.ensures) c.from-in-loop-i.ensures c.list_line-in-loop-i.ensures

pub returns : goal.returns
returns c = let e : c.loop-i.i ≡ c.args.p.size.n = omega arith in all_listed (listable c.args.p c.requires.0) (rw e at c.loop-i.invariant)
