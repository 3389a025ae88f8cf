use Rattle.block_machine.specs.Histories.{joint_state_after}
use Rattle.driver_history.proofs.Resting.{answer_rests}
use Rattle.driver_history.proofs.laws.law_answers_justified.Goals as goal

pub returns : goal.returns
returns c = λ wanted first past h history. answer_rests wanted (joint_state_after first past) h history.1 history.2 c.law_rows_shrink_and_owners_stay.ensures
