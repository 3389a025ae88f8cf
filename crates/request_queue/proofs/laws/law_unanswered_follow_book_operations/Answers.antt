use Rattle.request_queue.proofs.Working.{due_waits, after_issue, after_requeue, after_answer, after_tick, after_revoke}
use Rattle.request_queue.proofs.laws.law_unanswered_follow_book_operations.Goals as goal

pub returns-clause-waits : goal.returns-clause-waits
returns-clause-waits c = due_waits

pub returns-clause-issue : goal.returns-clause-issue
returns-clause-issue c = after_issue

pub returns-clause-requeue : goal.returns-clause-requeue
returns-clause-requeue c = after_requeue

pub returns-clause-answer : goal.returns-clause-answer
returns-clause-answer c = after_answer

pub returns-clause-tick : goal.returns-clause-tick
returns-clause-tick c = after_tick

pub returns-clause-revoked : goal.returns-clause-revoked
returns-clause-revoked c = after_revoke
