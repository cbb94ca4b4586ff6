-- `sheet_marking::two_blacks` meets its contract. Assumes nothing.
use borrow.Author.Rules.{rules}
use Rattle.sheet_marking.proofs.CountLaws.{blacks_told}
use Rattle.sheet_marking.proofs.two_blacks.Goals as goal

pub returns : goal.returns
returns c = search (rules, blacks_told)
