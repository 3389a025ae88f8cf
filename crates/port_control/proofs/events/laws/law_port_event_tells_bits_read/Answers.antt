use Rattle.port_control.proofs.looks.Telling.{answered_lost, answered_broken, answered_failed, answered_undisturbed, told_undisturbed}
use Rattle.port_control.proofs.events.laws.law_port_event_tells_bits_read.Goals as goal

pub returns-clause-link_changed : goal.returns-clause-link_changed
returns-clause-link_changed c = answered_lost

pub returns-clause-fatal_error : goal.returns-clause-fatal_error
returns-clause-fatal_error c = answered_broken

pub returns-clause-task_file_error : goal.returns-clause-task_file_error
returns-clause-task_file_error c = answered_failed

pub returns-clause-no_event : goal.returns-clause-no_event
returns-clause-no_event c = answered_undisturbed

pub returns-clause-no_trouble_gives_no_event : goal.returns-clause-no_trouble_gives_no_event
returns-clause-no_trouble_gives_no_event c = told_undisturbed
