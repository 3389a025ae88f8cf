use Rattle.host_boot.proofs.prerequisites.law_prerequisites.Goals as goal

pub returns : goal.returns
returns c = record {
  probe_results = record { fit_disk_stays = c.law_boot_findings_stay_until_next_port_boot.ensures.disk; ready_port_stays_backed = c.law_boot_findings_stay_until_next_port_boot.ensures.ready; state_stays_backed = c.law_boot_findings_stay_until_next_port_boot.ensures.state_stays_backed };
  steps_keep_adapter_and_notes = c.law_step_lists_keep_what_steps_keep.ensures;
  access_keeps_adapter_on = c.law_adapter_stays_same_and_on_until_ghc_write.ensures.stays_on;
  access_keeps_adapter = c.law_adapter_stays_same_and_on_until_ghc_write.ensures.access_keeps_adapter;
  tape = c.law_tapes_satisfy_tape_laws.ensures;
  ghc_write_switches_on = c.law_writing_ghc_switches_on.ensures;
  ghc_write_sets_hr = c.law_hr_read_clear_means_ports_are_quiescent.ensures.begins;
  ghc_reading_tells_hr_and_ae = c.law_hr_read_clear_means_ports_are_quiescent.ensures.hr_and_ae_are_read;
  ended_reset_is_idle = c.law_hr_read_clear_leaves_adapter_idle.ensures;
  disk_in_stays_shown_over_access = c.law_det_3_if_disk_present_stays.ensures.access;
  shown_disk_stays_in_over_access = c.law_det_3_means_disk_present_is_invariant.ensures.access;
  shown_disk_stays_in = c.law_det_3_means_disk_present_is_invariant.ensures.accesses;
  ready_boot_has_shown_disk_in = c.law_det_3_means_disk_present_is_invariant.ensures.ready_boot_establishes;
  ssts_reading_shows_disk = c.law_vacancy_stays_where_no_disk_comes.ensures.det_3_shows_disk_if_in;
  does_append = c.law_accesses_compose.ensures.lists_append;
  same_adapter_is_reflexive = c.law_adapter_stays_same_and_on_until_ghc_write.ensures.adapter_reflexive;
  same_adapter_is_transitive = c.law_adapter_stays_same_and_on_until_ghc_write.ensures.adapter_transitive;
  accesses_keep_adapter_on = c.law_adapter_stays_same_and_on_until_ghc_write.ensures.stays_on_over_all;
  other_ports_are_left = c.law_other_ports_are_untouched.ensures.other_port_is_untouched;
  leaves_port_is_transitive = c.law_other_ports_are_untouched.ensures.transitive;
  one_port_spares_registers = c.law_other_ports_are_untouched.ensures.spares;
  one_port_spares_ghc = c.law_other_ports_are_untouched.ensures.spares_host;
  accesses_keep_adapter = c.law_other_ports_are_untouched.ensures.adapter_is_same;
  accesses_extend_tape = c.law_other_ports_are_untouched.ensures.tape_grows;
  idle_device_is_related = c.law_some_machine_agrees_after_simulation.ensures.idle_device_agrees;
  set_slot_has_state = c.law_setting_changes_one_slot.ensures.slot_has_new_state;
  setting_slot_keeps_others = c.law_setting_changes_one_slot.ensures.others;
  cmd_access_is_of_port = c.law_port_control_spares_other_ports.ensures.cmd_access_is_of_port;
  placing_access_is_of_port = c.law_port_control_spares_other_ports.ensures.placing;
  failed_stop_sticks = c.law_engine_evidence_shows_in_longer_traces.ensures.failing_sticks;
  fall_holds_with_later = c.law_engine_evidence_shows_in_longer_traces.ensures.falls_with_later_accesses;
  fall_holds_with_earlier = c.law_engine_evidence_shows_in_longer_traces.ensures.falls_with_earlier_accesses;
  sticking_holds_with_later = c.law_engine_evidence_shows_in_longer_traces.ensures.sticks_with_later_accesses;
  sticking_holds_with_earlier = c.law_engine_evidence_shows_in_longer_traces.ensures.sticks_with_earlier_accesses;
  boot_access_is_of_port = c.law_boot_accesses_spare_other_ports.ensures;
  boot_on_way_is_driven = c.law_boots_are_of_boot_accesses.ensures.boots;
  boot_with_stops_is_driven = c.law_boots_are_of_boot_accesses.ensures.stops;
  cmd_access_is_boot_access = c.law_boots_are_of_boot_accesses.ensures.cmd_access_is_boot_access;
  runs_on_after_access = c.law_undisturbed_port_runs_on_if_controls_stay.ensures.one_access;
  runs_on_after_accesses = c.law_undisturbed_port_runs_on_if_controls_stay.ensures.more_accesses;
  stays_well_if_undisturbed = c.law_undisturbed_port_runs_on_if_controls_stay.ensures.healthy_port_stays_well;
  halt_of_taken_stays_over_acts = c.law_halt_fits_taken_until_pxcmd_written.ensures.acts;
  fragments = c.law_access_kinds_satisfy_fragment_laws.ensures;
}
