use Rattle.request_queue.proofs.AnsweringAll.{one_by_one_is_at_once, at_once_is_one_by_one}
use Rattle.request_queue.proofs.laws.law_answers_of_one_outcome_are_one_change.Goals as goal

pub returns-clause-one_by_one_is_at_once : goal.returns-clause-one_by_one_is_at_once
returns-clause-one_by_one_is_at_once c = one_by_one_is_at_once

pub returns-clause-at_once_is_one_by_one : goal.returns-clause-at_once_is_one_by_one
returns-clause-at_once_is_one_by_one c = at_once_is_one_by_one
