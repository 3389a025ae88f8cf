use Rattle.refinement.proofs.device.ControlWrites.{command_set, start_sets_cr_and_time, control_set, interrupts_set, list_set, list_upper_set, received_set, received_upper_set}
use Rattle.refinement.proofs.port_facts.law_writes_set_port_controls.Goals as goal

pub returns-clause-command : goal.returns-clause-command
returns-clause-command c = command_set

pub returns-clause-start : goal.returns-clause-start
returns-clause-start c = start_sets_cr_and_time c.law_prerequisites.ensures

pub returns-clause-control : goal.returns-clause-control
returns-clause-control c = control_set

pub returns-clause-interrupts : goal.returns-clause-interrupts
returns-clause-interrupts c = interrupts_set

pub returns-clause-list : goal.returns-clause-list
returns-clause-list c = list_set

pub returns-clause-list_upper : goal.returns-clause-list_upper
returns-clause-list_upper c = list_upper_set

pub returns-clause-received : goal.returns-clause-received
returns-clause-received c = received_set

pub returns-clause-received_upper : goal.returns-clause-received_upper
returns-clause-received_upper c = received_upper_set
