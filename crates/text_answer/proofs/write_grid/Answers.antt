-- `text_answer::write_grid` meets its contract: the first r rows are written. Assumes nothing.
use Rattle.std.proofs.Common.{◌≡◌, refl, rules, arith}
use Rattle.text_answer.proofs.RowLaws.{rows_start, row_within, row_ask, rows_next, rows_end}
use Rattle.text_answer.proofs.write_grid.Goals as goal

pub loop-r-init : goal.loop-r-init
loop-r-init g c = rows_start _ _ _

pub overflow_mul-start : goal.overflow_mul-start
overflow_mul-start g c = omega (arith, row_within c.args.grid c.loop-r-test.true)

pub write_row-requires : goal.write_row-requires
write_row-requires g c = (search rules, row_ask c.args.grid c.requires c.loop-r.invariant c.loop-r-test.true _ refl)

pub loop-r-preserved : goal.loop-r-preserved
loop-r-preserved g c = rows_next c.args.grid c.requires c.loop-r.invariant c.loop-r-test.true c.write_row.ensures

pub returns : goal.returns
returns g c = let e : c.loop-r.r ≡ c.args.grid.n = omega arith in rows_end (rw e at c.loop-r.invariant)
