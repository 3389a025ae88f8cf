use Rattle.block_machine.specs.Steps as steps
use Rattle.request_queue.proofs.Stepping.{goes_last, is_issued, waits_again, is_answered, is_older, is_touched, is_ended_at_age_two, is_revoked}
use Rattle.request_queue.proofs.laws.law_book_changes_match_machine_steps.Goals as goal

pub returns-clause-accept : goal.returns-clause-accept
returns-clause-accept c entries m e r is last = goes_last entries m.book e (steps.newly_accepted r) is last

pub returns-clause-issue : goal.returns-clause-issue
returns-clause-issue c entries m mode p is = is_issued entries m.book p.request.id is

pub returns-clause-again : goal.returns-clause-again
returns-clause-again c entries m p is = waits_again entries m.book p.request.id is

pub returns-clause-answer : goal.returns-clause-answer
returns-clause-answer c entries m p outcome is = is_answered entries m.book p.request.id is

pub returns-clause-age : goal.returns-clause-age
returns-clause-age c entries m ports is = is_older entries m.book ports is

pub returns-clause-touch : goal.returns-clause-touch
returns-clause-touch c entries m p i block is = is_touched entries m.book p.request.id i is

pub returns-clause-end : goal.returns-clause-end
returns-clause-end c entries m p is = is_ended_at_age_two entries m.book p.request.id is

pub returns-clause-revoke : goal.returns-clause-revoke
returns-clause-revoke c entries m client grant is = is_revoked entries m.book client grant is
