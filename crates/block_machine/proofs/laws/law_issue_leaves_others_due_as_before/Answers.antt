use Rattle.block_machine.proofs.Dues.{law_issue_leaves_others_due_as_before}
use Rattle.block_machine.proofs.laws.law_issue_leaves_others_due_as_before.Goals as goal

pub returns : goal.returns
returns c = law_issue_leaves_others_due_as_before
