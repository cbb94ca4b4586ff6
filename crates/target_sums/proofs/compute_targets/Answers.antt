-- `target_sums::compute_targets` meets its contract. Assumes nothing.
use mathlib.Core.Path.{ap, sym, ◌∙◌}
use native.Mathlib.Omega.{arith}
use borrow.Author.Rules.{rules}
use Rattle.std.proofs.lemmas.Result.{err_from_is_err_and}
use Rattle.std.proofs.lemmas.List.{get_or-replicate}
use Rattle.tally.specs.Tally.{join}
use Rattle.rules.specs.Check.{checked, check_line}
use Rattle.grid_lines.proofs.LinesLaws.{each_of}
use Rattle.target_sums.specs.Tallies.{TalliesAsk, tallied_sums}
use Rattle.target_sums.proofs.LineLaws.{written, tallies_of}
use Rattle.target_sums.proofs.SumsLaws.{front_fits, sums_front, sums_rows, sums_columns, refused, done}
use Rattle.target_sums.proofs.compute_targets.Goals as goal

pub returns-in_err-size : goal.returns-in_err-size
returns-in_err-size c =
    let p = err_from_is_err_and c.from_residual.result c.from_residual.ensures.1 in
    rw (p.1, p.2) (refused _ _ _ _ _ _ (sums_front _ _ _ _ _ _ c.in_err-size.ensures))

pub rows-row_lines-requires : goal.rows-row_lines-requires
rows-row_lines-requires c = let e = c.in_ok-size.ensures in rw e.1 (front_fits _ _ _ _ _ e.0).cells_fit

pub columns-column_lines-requires : goal.columns-column_lines-requires
columns-column_lines-requires c = let e = c.in_ok-size.ensures in rw e.1 (front_fits _ _ _ _ _ e.0).cells_fit

pub tally_grid-requires : goal.tally_grid-requires
tally_grid-requires c =
    record { room_across = omega arith; room_down = omega arith; clear = λ j h. get_or-replicate 9 j 0 0 (omega (arith, h)) }

pub returns-in_err-tally_grid : goal.returns-in_err-tally_grid
returns-in_err-tally_grid c =
    let e = c.in_ok-size.ensures in
    let a = rw e.1 at c.rows-row_lines.ensures in
    let d = c.in_err-tally_grid.ensures ∙ ap (λ l. checked (join l)) (each_of check_line c.rows-row_lines.result a) in
    let p = err_from_is_err_and c.from_residual-in_err-tally_grid.result c.from_residual-in_err-tally_grid.ensures.1 in
    rw (p.1, p.2) (refused _ _ _ _ _ _ (sums_rows _ _ _ _ _ e.0 _ d))

-- The rows are listed beside the columns, so that a call on the wrong lines is refused for its answer.
pub check_tallies-requires : goal.check_tallies-requires
check_tallies-requires c =
    let e = c.in_ok-size.ensures in
    let a = rw e.1 at c.rows-row_lines.ensures in
    let b = rw e.1 at c.columns-column_lines.ensures in
    let g = c.in_ok-tally_grid.ensures.1.0 in
    let n = c.rows-row_lines.result.short in
    let rows : TalliesAsk c.rows-row_lines.result c.tally_grid.new.across = record { room = omega (arith, n, c.tally_grid.auto.across); seen = g.rows_seen } in
    let columns = tallies_of c.columns-column_lines.result b (omega (arith, a.3, n, c.tally_grid.auto.down)) (rw (a.0, a.1, a.2, a.3) at g.columns_seen) in
    search rules

pub returns-in_err-check_tallies : goal.returns-in_err-check_tallies
returns-in_err-check_tallies c =
    let e = c.in_ok-size.ensures in
    let a = rw e.1 at c.rows-row_lines.ensures in
    let b = rw e.1 at c.columns-column_lines.ensures in
    let d = c.in_ok-tally_grid.ensures.0 ∙ ap (λ l. checked (join l)) (each_of check_line c.rows-row_lines.result a) in
    let f = c.in_err-check_tallies.ensures ∙ ap (λ l. checked (join l)) (each_of check_line c.columns-column_lines.result b) in
    let p = err_from_is_err_and c.from_residual-in_err-check_tallies.result c.from_residual-in_err-check_tallies.ensures.1 in
    rw (p.1, p.2) (refused _ _ _ _ _ _ (sums_columns _ _ _ _ _ e.0 d f))

pub write_sums-requires : goal.write_sums-requires
write_sums-requires c =
    let e = c.in_ok-size.ensures in
    let f = front_fits _ _ _ _ _ e.0 in
    let n = c.rows-row_lines.ensures.3 in
    let s = c.rows-row_lines.result.short in
    record {
      equal = f.columns_long ∙ sym f.rows_long;
      enough_across = omega (arith, c.tally_grid.auto.across, s, n, e.1, f.rows_long);
      enough_down = omega (arith, c.tally_grid.auto.down, s, n, e.1, f.rows_long);
    }

pub returns : goal.returns
returns c =
    let e = c.in_ok-size.ensures in
    let f = front_fits _ _ _ _ _ e.0 in
    let a = rw e.1 at c.rows-row_lines.ensures in
    let b = rw e.1 at c.columns-column_lines.ensures in
    let r = c.in_ok-tally_grid.ensures in
    let s = c.in_ok-check_tallies.ensures in
    let d = r.0 ∙ ap (λ l. checked (join l)) (each_of check_line c.rows-row_lines.result a) in
    let g = s.0 ∙ ap (λ l. checked (join l)) (each_of check_line c.columns-column_lines.result b) in
    done _ _ _ _ _ _ _ (sums_columns _ _ _ _ _ e.0 d g)
    (c.write_sums.ensures.0 ∙ written c.rows-row_lines.result (λ k. tallied_sums c.tally_grid.new.across k) a f.rows_long r.1.1)
    (c.write_sums.ensures.1 ∙ written c.columns-column_lines.result (λ k. tallied_sums c.tally_grid.new.down k) b f.rows_long s.1)
