use Rattle.host_boot.proofs.Leaving.{steps_leave, steps_same}
use Rattle.host_boot.proofs.laws.law_steps_keep_controls_and_notes_unless_hr.Goals as goal

pub returns-clause-only_device_changes_ports : goal.returns-clause-only_device_changes_ports
returns-clause-only_device_changes_ports c = λ old new off steps port. steps_leave c.law_prerequisites.ensures old off port new steps

pub returns-clause-adapter_is_kept : goal.returns-clause-adapter_is_kept
returns-clause-adapter_is_kept c = steps_same c.law_prerequisites.ensures
