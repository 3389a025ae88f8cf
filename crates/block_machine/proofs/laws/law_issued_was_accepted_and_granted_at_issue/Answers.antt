use Rattle.block_machine.proofs.Ruled.{law_issued_was_accepted_and_granted_at_issue}
use Rattle.block_machine.proofs.laws.law_issued_was_accepted_and_granted_at_issue.Goals as goal

pub returns : goal.returns
returns c = law_issued_was_accepted_and_granted_at_issue
