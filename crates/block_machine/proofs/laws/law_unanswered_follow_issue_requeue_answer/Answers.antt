use Rattle.block_machine.proofs.Stepping.{asks_issued, asks_waiting, asks_gone, asks_older, asks_touched, asks_ended}
use Rattle.block_machine.proofs.laws.law_unanswered_follow_issue_requeue_answer.Goals as goal

pub returns-clause-issue : goal.returns-clause-issue
returns-clause-issue c m mode e = asks_issued m.book e.request.id

pub returns-clause-wait_again : goal.returns-clause-wait_again
returns-clause-wait_again c m e = asks_waiting m.book e.request.id

pub returns-clause-answer : goal.returns-clause-answer
returns-clause-answer c m e outcome = asks_gone m.book e.request.id

pub returns-clause-age : goal.returns-clause-age
returns-clause-age c m ports = asks_older m.book ports

pub returns-clause-touch : goal.returns-clause-touch
returns-clause-touch c m e i block = asks_touched m.book e.request.id i

pub returns-clause-end : goal.returns-clause-end
returns-clause-end c m e = asks_ended m.book e.request.id
