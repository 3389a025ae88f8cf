use Rattle.server_history.proofs.healthy_turn.AnswersAndIssues.{answers_settle}
use Rattle.server_history.proofs.laws.law_answer_and_issue_leave_none_due.Goals as goal

pub returns : goal.returns
returns c s new port done replies settled ready over answers = answers_settle c.law_history_prerequisites.ensures port done replies s new settled ready over answers
