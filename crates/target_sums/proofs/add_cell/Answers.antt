-- `target_sums::add_cell` meets its contract. Assumes nothing.
use Prim.Native.Nat.{◌≤◌}
use mathlib.Core.Path.{refl}
use borrow.Author.Rules.{rules}
use Rattle.target_sums.proofs.CellLaws.{next_black, next_other}
use Rattle.target_sums.proofs.add_cell.Goals as goal

pub returns-then-c-eq255 : goal.returns-then-c-eq255
returns-then-c-eq255 c = (next_black _ _ _ c.if-c-eq255.true refl, next_black _ _ _ c.if-c-eq255.true refl)

pub returns : goal.returns
returns c =
    let z : c.args.c ≤ 255 = search rules in
    (next_other _ _ _ _ z c.if-c-eq255.false c.weight-v.ensures c.add_between.ensures, next_other _ _ _ _ z c.if-c-eq255.false c.weight-v.ensures c.add_between-2.ensures)
