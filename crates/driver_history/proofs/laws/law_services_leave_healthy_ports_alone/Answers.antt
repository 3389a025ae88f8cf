use Rattle.driver_history.proofs.Calm.{spared}
use Rattle.block_machine.specs.Histories.{joint_state_after}
use Rattle.driver_history.proofs.laws.law_services_leave_healthy_ports_alone.Goals as goal

pub returns : goal.returns
returns c = λ wanted first past h port history asks ready healthy. spared c.law_plug_events_match_disk_changes.ensures.entry wanted (joint_state_after first past) h history.2 port healthy asks ready
