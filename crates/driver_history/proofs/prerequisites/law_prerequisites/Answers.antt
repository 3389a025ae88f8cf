use Rattle.driver_history.proofs.prerequisites.law_prerequisites.Goals as goal

pub returns : goal.returns
returns c = record {
  other_ports_are_left = c.law_other_ports_are_untouched.ensures.other_port_is_untouched;
  leaves_port_is_reflexive = c.law_other_ports_are_untouched.ensures.reflexive;
  leaves_port_is_transitive = c.law_other_ports_are_untouched.ensures.transitive;
  port_register_written = c.law_port_access_is_steps_then_port_effect.ensures.register_written;
  one_port_spares_registers = c.law_other_ports_are_untouched.ensures.spares;
  one_port_keeps_adapter_on = c.law_other_ports_are_untouched.ensures.adapter_stays_on;
  tape = c.law_tapes_satisfy_tape_laws.ensures;
  access_changes_by_errors = c.law_clear_error_bits_stay_clear.ensures.causes_access;
  link_is_same_or_comes_up_without_plugs = c.law_link_is_same_or_comes_up_without_plugs.ensures.access;
  fall_holds_with_later = c.law_engine_evidence_shows_in_longer_traces.ensures.falls_with_later_accesses;
  fall_holds_with_earlier = c.law_engine_evidence_shows_in_longer_traces.ensures.falls_with_earlier_accesses;
  sticking_holds_with_later = c.law_engine_evidence_shows_in_longer_traces.ensures.sticks_with_later_accesses;
  sticking_holds_with_earlier = c.law_engine_evidence_shows_in_longer_traces.ensures.sticks_with_earlier_accesses;
  does_append = c.law_accesses_compose.ensures.lists_append;
  steps_keep_adapter_and_notes = c.law_step_lists_keep_what_steps_keep.ensures;
  accesses_keep_adapter_on = c.law_adapter_stays_same_and_on_until_ghc_write.ensures.stays_on_over_all;
  one_port_spares_ghc = c.law_other_ports_are_untouched.ensures.spares_host;
  steps_end_tfes_clear_no_fault = c.law_clear_pxis_error_bits_mean_no_error.ensures.fault;
  access_ends_tfes_clear_no_fault = c.law_clear_pxis_error_bits_mean_no_error.ensures.fault_access;
  steps_end_fatal_clear_no_fatal = c.law_clear_pxis_error_bits_mean_no_error.ensures.fatal;
  access_ends_fatal_clear_no_fatal = c.law_clear_pxis_error_bits_mean_no_error.ensures.fatal_access;
  steps_end_n_clear_no_plug_event = c.law_serr_n_clear_means_no_plug_event.ensures.steps;
  access_ends_n_clear_no_plugs = c.law_serr_n_clear_means_no_plug_event.ensures.access;
  steps_keep_errors = c.law_set_pxis_serr_nx_bits_stay_until_written.ensures.steps;
  access_but_serr_write_keeps_set_n_and_x = c.law_set_pxis_serr_nx_bits_stay_until_written.ensures.errors;
  shows_fatal_unless_clear = c.law_fatal_bits_are_all_clear_or_shown.ensures;
  access_leaves_controls = c.law_port_controls_stay_until_written.ensures;
  cmd_write_sets_st_and_fre = c.law_writes_set_port_controls.ensures.command;
  sctl_write_sets_det = c.law_writes_set_port_controls.ensures.control;
  setting_st_is_noted = c.law_writes_set_port_controls.ensures.start;
  vacant_port_stays_vacant_if_no_disk_comes = c.law_vacancy_stays_where_no_disk_comes.ensures.vacant_access;
  first_fis_if_det_3_stays_if_no_disk_comes = c.law_vacancy_stays_where_no_disk_comes.ensures.fresh_access;
  runs_on_after_accesses = c.law_undisturbed_port_runs_on_if_controls_stay.ensures.more_accesses;
  stays_well_if_undisturbed = c.law_undisturbed_port_runs_on_if_controls_stay.ensures.healthy_port_stays_well;
}
