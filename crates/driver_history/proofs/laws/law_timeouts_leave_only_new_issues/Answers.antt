use Rattle.block_machine.specs.Events.{abstract_after}
use Rattle.block_machine.specs.Histories.{joint_state_after}
use Rattle.driver_history.proofs.Calm.{restarts_of}
use Rattle.driver_history.proofs.laws.law_timeouts_leave_only_new_issues.Goals as goal

pub returns : goal.returns
returns c = λ wanted first past h port history asks hung.
    (restarts_of h.event.call h.event.result (joint_state_after first past).abstract h.event.evidence h.event.steps (abstract_after (joint_state_after first past).abstract h.event) history.1.result_matches_steps asks).issued_are_issued_in_steps port hung
