use Rattle.block_machine.proofs.Turns as turns
use Rattle.block_machine.proofs.laws.law_issue_removes_only_that_request_from_due.Goals as goal

pub returns : goal.returns
returns c = turns.law_issue_removes_only_that_request_from_due
