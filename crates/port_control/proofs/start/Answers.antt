use Rattle.port_control.proofs.Starting.{start_may, start_followed, start_usable, start_runs, start_same, start_set_at, start_marked, start_well, start_linked, start_recorded, start_calm, start_undue, start_changes}
use Rattle.port_control.proofs.start.Goals as goal

pub write-requires : goal.write-requires
write-requires g c = start_may c.law_prerequisites.ensures c.args.receiving.port _ _ _ _ (record { adapter_is_on = c.requires.may.adapter_is_on; has_port = c.requires.may.has_port; machine_is_related = c.requires.may.machine_is_related }) c.read.ensures.does c.requires.may.receives c.requires.may.link_was_seen c.requires.may.disk_was_idle c.with_start.ensures.set c.with_start.ensures.others_are_kept

pub returns-clause-followed : goal.returns-clause-followed
returns-clause-followed g c = start_followed c.law_prerequisites.ensures c.args.receiving.port _ _ _ _ (record { adapter_is_on = c.requires.may.adapter_is_on; has_port = c.requires.may.has_port; machine_is_related = c.requires.may.machine_is_related }) c.read.ensures.does c.requires.may.receives c.requires.may.link_was_seen c.requires.may.disk_was_idle c.with_start.ensures.set c.with_start.ensures.others_are_kept _ c.write.ensures.does

pub returns-clause-adapter_is_on : goal.returns-clause-adapter_is_on
returns-clause-adapter_is_on g c = (start_usable c.law_prerequisites.ensures c.args.receiving.port _ _ _ _ (record { adapter_is_on = c.requires.may.adapter_is_on; has_port = c.requires.may.has_port; machine_is_related = c.requires.may.machine_is_related }) c.read.ensures.does c.requires.may.receives c.requires.may.link_was_seen c.requires.may.disk_was_idle c.with_start.ensures.set c.with_start.ensures.others_are_kept _ c.write.ensures.does).adapter_is_on

pub returns-clause-starts : goal.returns-clause-starts
returns-clause-starts g c = record {
  runs = start_runs c.law_prerequisites.ensures c.args.receiving.port _ _ _ _ (record { adapter_is_on = c.requires.may.adapter_is_on; has_port = c.requires.may.has_port; machine_is_related = c.requires.may.machine_is_related }) c.read.ensures.does c.requires.may.receives c.requires.may.link_was_seen c.requires.may.disk_was_idle c.with_start.ensures.set c.with_start.ensures.others_are_kept _ c.write.ensures.does;
  other_notes_are_kept = start_same c.law_prerequisites.ensures c.args.receiving.port _ _ _ _ (record { adapter_is_on = c.requires.may.adapter_is_on; has_port = c.requires.may.has_port; machine_is_related = c.requires.may.machine_is_related }) c.read.ensures.does c.requires.may.receives c.requires.may.link_was_seen c.requires.may.disk_was_idle c.with_start.ensures.set c.with_start.ensures.others_are_kept _ c.write.ensures.does;
  tape_is_as_at_st_set = start_set_at c.law_prerequisites.ensures c.args.receiving.port _ _ _ _ (record { adapter_is_on = c.requires.may.adapter_is_on; has_port = c.requires.may.has_port; machine_is_related = c.requires.may.machine_is_related }) c.read.ensures.does c.requires.may.receives c.requires.may.link_was_seen c.requires.may.disk_was_idle c.with_start.ensures.set c.with_start.ensures.others_are_kept _ c.write.ensures.does;
  sctl_time_in_tape = start_marked c.law_prerequisites.ensures c.args.receiving.port _ _ _ _ (record { adapter_is_on = c.requires.may.adapter_is_on; has_port = c.requires.may.has_port; machine_is_related = c.requires.may.machine_is_related }) c.read.ensures.does c.requires.may.receives c.requires.may.link_was_seen c.requires.may.disk_was_idle c.with_start.ensures.set c.with_start.ensures.others_are_kept _ c.write.ensures.does;
  port_is_started = start_well c.law_prerequisites.ensures c.args.receiving.port _ _ _ _ (record { adapter_is_on = c.requires.may.adapter_is_on; has_port = c.requires.may.has_port; machine_is_related = c.requires.may.machine_is_related }) c.read.ensures.does c.requires.may.receives c.requires.may.link_was_seen c.requires.may.disk_was_idle c.with_start.ensures.set c.with_start.ensures.others_are_kept _ c.write.ensures.does;
  link_stays_up_without_plug_events = start_linked c.law_prerequisites.ensures c.args.receiving.port _ _ _ _ (record { adapter_is_on = c.requires.may.adapter_is_on; has_port = c.requires.may.has_port; machine_is_related = c.requires.may.machine_is_related }) c.read.ensures.does c.requires.may.receives c.requires.may.link_was_seen c.requires.may.disk_was_idle c.with_start.ensures.set c.with_start.ensures.others_are_kept _ c.write.ensures.does;
  faults_are_on_record = start_recorded c.law_prerequisites.ensures c.args.receiving.port _ _ _ _ (record { adapter_is_on = c.requires.may.adapter_is_on; has_port = c.requires.may.has_port; machine_is_related = c.requires.may.machine_is_related }) c.read.ensures.does c.requires.may.receives c.requires.may.link_was_seen c.requires.may.disk_was_idle c.with_start.ensures.set c.with_start.ensures.others_are_kept _ c.write.ensures.does;
  no_cause_rises = start_calm c.law_prerequisites.ensures c.args.receiving.port _ _ _ _ (record { adapter_is_on = c.requires.may.adapter_is_on; has_port = c.requires.may.has_port; machine_is_related = c.requires.may.machine_is_related }) c.read.ensures.does c.requires.may.receives c.requires.may.link_was_seen c.requires.may.disk_was_idle c.with_start.ensures.set c.with_start.ensures.others_are_kept _ c.write.ensures.does;
  no_link_gets_due = start_undue c.law_prerequisites.ensures c.args.receiving.port _ _ _ _ (record { adapter_is_on = c.requires.may.adapter_is_on; has_port = c.requires.may.has_port; machine_is_related = c.requires.may.machine_is_related }) c.read.ensures.does c.requires.may.receives c.requires.may.link_was_seen c.requires.may.disk_was_idle c.with_start.ensures.set c.with_start.ensures.others_are_kept _ c.write.ensures.does;
  errors_change_by_disks = start_changes c.law_prerequisites.ensures c.args.receiving.port _ _ _ _ (record { adapter_is_on = c.requires.may.adapter_is_on; has_port = c.requires.may.has_port; machine_is_related = c.requires.may.machine_is_related }) c.read.ensures.does c.requires.may.receives c.requires.may.link_was_seen c.requires.may.disk_was_idle c.with_start.ensures.set c.with_start.ensures.others_are_kept _ c.write.ensures.does;
}
