use Rattle.refinement.proofs.device.PortNotes.{command_noted, link_noted, file_noted, issued_noted, active_noted, signature_noted, notes_read, shown_after}
use Rattle.refinement.proofs.port_facts.law_port_register_read_is_noted_as_last.Goals as goal

pub returns-clause-command : goal.returns-clause-command
returns-clause-command c = command_noted

pub returns-clause-link : goal.returns-clause-link
returns-clause-link c = link_noted

pub returns-clause-task_file : goal.returns-clause-task_file
returns-clause-task_file c = file_noted

pub returns-clause-issued : goal.returns-clause-issued
returns-clause-issued c = issued_noted

pub returns-clause-active : goal.returns-clause-active
returns-clause-active c = active_noted

pub returns-clause-signature : goal.returns-clause-signature
returns-clause-signature c = signature_noted

pub returns-clause-counts : goal.returns-clause-counts
returns-clause-counts c = notes_read c.law_prerequisites.ensures

pub returns-clause-shows : goal.returns-clause-shows
returns-clause-shows c = shown_after c.law_prerequisites.ensures
