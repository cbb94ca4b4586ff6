-- `mark_list::check_mark` meets its contract. Assumes nothing.
use borrow.Author.Rules.{rules}
use Rattle.mark_list.proofs.MarkLaws.{mark_4, mark_5_row, mark_5_column, mark_0, mark_6}
use Rattle.mark_list.proofs.check_mark.Goals as goal

pub returns-then-word-ne0 : goal.returns-then-word-ne0
returns-then-word-ne0 c = search (rules, mark_4)

pub returns-then-size-x : goal.returns-then-size-x
returns-then-size-x c = search (rules, mark_5_row)

pub returns-then-size-x-2 : goal.returns-then-size-x-2
returns-then-size-x-2 c = search (rules, mark_5_column)

pub returns-then-is_named : goal.returns-then-is_named
returns-then-is_named c = search (rules, mark_0)

pub returns-else-is_named : goal.returns-else-is_named
returns-else-is_named c = search (rules, mark_6)
