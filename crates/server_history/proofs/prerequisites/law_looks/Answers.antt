use Rattle.server_history.proofs.prerequisites.law_looks.Goals as goal

pub returns : goal.returns
returns c = record {
  port_register_read = c.law_port_access_is_steps_then_port_effect.ensures.register_read;
  reading_is_noted = c.law_port_register_read_is_noted_as_last.ensures.counts;
  disk_shown_if_in_stays_but_for_sctl_write = c.law_det_3_if_disk_present_stays.ensures.access;
  fragments = c.law_access_kinds_satisfy_fragment_laws.ensures;
  services_spare_other_registers = c.law_service_accesses_write_only_is_ci_sact.ensures.port_register_is_unwritten;
  services_do_not_write_ghc = c.law_service_accesses_write_only_is_ci_sact.ensures.ghc_is_unwritten;
  leaves_port_is_reflexive = c.law_other_ports_are_untouched.ensures.reflexive;
  leaves_port_is_transitive = c.law_other_ports_are_untouched.ensures.transitive;
  look_finds_fault_halted = c.law_task_file_error_means_halted.ensures.look_finds_fault;
  reading_keeps_fault_halted = c.law_task_file_error_means_halted.ensures.reads_keep_fault;
  look_tells_shown_change = c.law_looks_see_errors_and_link_changes.ensures.changed;
  look_tells_missing_device_if_none_comes = c.law_looks_see_errors_and_link_changes.ensures.unlinked;
  tfes_event_bits = c.law_port_event_tells_bits_read.ensures.task_file_error;
  no_event_bits = c.law_port_event_tells_bits_read.ensures.no_event;
  no_event_means_undisturbed = c.law_looks_see_errors_and_link_changes.ensures.no_event_means_no_trouble;
  fatal_event_bits = c.law_port_event_tells_bits_read.ensures.fatal_error;
  look_hides_no_fault = c.law_looks_and_services_hide_no_error.ensures.look_hides_no_fault;
  look_hides_no_fatal = c.law_looks_and_services_hide_no_error.ensures.look_hides_no_fatal;
  look_hides_no_plug_event = c.law_looks_and_services_hide_no_error.ensures.look_hides_no_plug_event;
  pxis_spared_hides_no_fault = c.law_looks_and_services_hide_no_error.ensures.services_hide_no_fault;
  pxis_spared_hides_no_fatal = c.law_looks_and_services_hide_no_error.ensures.services_hide_no_fatal;
  pxis_spared_hides_no_plug_event = c.law_looks_and_services_hide_no_error.ensures.services_hide_no_plug_event;
  link_changed_means_loss = c.law_looks_and_services_hide_no_error.ensures.link_change_is_backed;
  look_access_is_service_access = c.law_looks_make_only_service_accesses.ensures.is_service_access;
  look_access_is_of_port = c.law_looks_spare_other_ports.ensures;
  look_is_driven_by_its_accesses = c.law_looks_make_only_service_accesses.ensures.look_is_driven;
  undisturbed_well_port_shows_no_event = c.law_looks_see_errors_and_link_changes.ensures.healthy_port_has_no_event;
  service_keeps_adapter_on = c.law_services_keep_ports_running.ensures.stays_on;
  service_keeps_adapter = c.law_services_keep_ports_running.ensures.adapter_is_kept;
  services_keep_controls = c.law_services_keep_ports_running.ensures.controls_are_kept;
  service_keeps_faults_on_record = c.law_services_keep_ports_running.ensures.faults_stay_on_record;
  look_keeps_sact_clear = c.law_services_keep_ports_running.ensures.sact_stays_clear;
}
