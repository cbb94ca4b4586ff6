-- `replay_records::calls::line_check_agrees` meets its contract: the step that the check answers is compared with the recorded one. Assumes nothing.
use borrow.Author.Rules.{rules}
use Rattle.replay_records.proofs.AgreementLaws.{line_called}
use Rattle.replay_records.proofs.calls.line_check_agrees.Goals as goal

pub returns : goal.returns
returns c = search (rules, line_called)
