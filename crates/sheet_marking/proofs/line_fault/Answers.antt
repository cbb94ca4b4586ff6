-- `sheet_marking::line_fault` meets its contract: what each step has answered. Assumes nothing.
use borrow.Author.Rules.{rules}
use Rattle.sheet_marking.proofs.FaultLaws.{fault_digits, fault_blacks, fault_sum, fault_none, steps_lawful}
use Rattle.sheet_marking.proofs.line_fault.Goals as goal

pub returns-then-not-digits_once : goal.returns-then-not-digits_once
returns-then-not-digits_once c = search (rules, fault_digits)

pub returns-then-not-two_blacks : goal.returns-then-not-two_blacks
returns-then-not-two_blacks c = search (rules, fault_blacks)

pub sum_meets-requires : goal.sum_meets-requires
sum_meets-requires c = search (rules, steps_lawful)

pub returns-then-not-sum_meets : goal.returns-then-not-sum_meets
returns-then-not-sum_meets c = search (rules, fault_sum)

pub returns : goal.returns
returns c = search (rules, fault_none)
