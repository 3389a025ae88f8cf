use Rattle.block_machine.proofs.Turns.{gone_elsewhere, issued_elsewhere, waiting_elsewhere}
use Rattle.block_machine.proofs.laws.law_issue_requeue_answer_keep_other_ports.Goals as goal

pub returns-clause-issued : goal.returns-clause-issued
returns-clause-issued c = issued_elsewhere

pub returns-clause-waiting : goal.returns-clause-waiting
returns-clause-waiting c = waiting_elsewhere

pub returns-clause-answered : goal.returns-clause-answered
returns-clause-answered c = gone_elsewhere
