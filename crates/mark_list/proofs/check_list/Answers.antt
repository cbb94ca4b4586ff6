-- `mark_list::check_list` meets its contract. Assumes nothing.
use borrow.Author.Rules.{rules}
use Rattle.rules.proofs.CheckLaws.{said_yes, said_no}
use Rattle.mark_list.proofs.MarkLaws.{list_19, list_marks}
use Rattle.mark_list.proofs.check_list.Goals as goal

pub returns-then-not-takes_list : goal.returns-then-not-takes_list
returns-then-not-takes_list c = search (rules, list_19, said_no)

pub returns : goal.returns
returns c = search (rules, list_marks, said_yes)
