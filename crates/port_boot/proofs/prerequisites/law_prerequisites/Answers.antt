use Rattle.port_boot.proofs.prerequisites.law_prerequisites.Goals as goal

pub returns : goal.returns
returns c = record {
  write_changes_port_register = c.law_port_access_is_steps_then_port_effect.ensures.register_written;
  access_keeps_on = c.law_adapter_stays_same_and_on_until_ghc_write.ensures.stays_on;
  write_stays = c.law_writes_but_ci_stay_permitted.ensures.rules;
  tape = c.law_tapes_satisfy_tape_laws.ensures;
  access_gains_no_move = c.law_port_without_command_gains_no_move.ensures.access;
  accesses_gain_no_move = c.law_port_without_command_gains_no_move.ensures.port_accesses_gain_no_move;
  access_changes_by_errors = c.law_clear_error_bits_stay_clear.ensures.causes_access;
  access_keeps_up = c.law_det_3_means_up_for_start_if_no_disk_came.ensures.undisturbed_access;
  access_keeps_started = c.law_started_port_without_trouble_runs_well.ensures.access;
  access_keeps_fault_record = c.law_tape_and_tfd_keep_faults_since_st.ensures.access;
  access_keeps_halt_of_taken = c.law_halt_fits_taken_until_pxcmd_written.ensures.access;
  not_halted_is_halt_of_taken = c.law_halt_fits_taken_until_pxcmd_written.ensures.without_halt;
  started_port_is_up = c.law_started_port_without_trouble_runs_well.ensures.started_is_up_for_start;
  started_quiet_port_runs_well = c.law_started_port_without_trouble_runs_well.ensures.started_runs_well;
  runs_well_is_started = c.law_started_port_without_trouble_runs_well.ensures.started;
  undisturbed_has_no_plug_events = c.law_undisturbed_has_no_error_or_plug.ensures.plugs;
  undisturbed_has_no_fatal = c.law_undisturbed_has_no_error_or_plug.ensures.fatal;
  undisturbed_has_no_fault = c.law_undisturbed_has_no_error_or_plug.ensures.fails;
  accesses_of_port_keep_on = c.law_other_ports_are_untouched.ensures.adapter_stays_on;
  accesses_keep_adapter = c.law_other_ports_are_untouched.ensures.adapter_is_same;
  accesses_extend_tape = c.law_other_ports_are_untouched.ensures.tape_grows;
  accesses_of_port_spare_ghc = c.law_other_ports_are_untouched.ensures.spares_host;
  asking_spares_other_ports = c.law_page_request_spares_other_ports.ensures.spares_other_ports;
  asking_leaves_no_command = c.law_page_request_spares_other_ports.ensures.slots_stay_empty;
  failing_sticks = c.law_engine_evidence_shows_in_longer_traces.ensures.failing_sticks;
  failing_receiving_sticks = c.law_engine_evidence_shows_in_longer_traces.ensures.failing_receiving_sticks;
  falls_with_later_accesses = c.law_engine_evidence_shows_in_longer_traces.ensures.falls_with_later_accesses;
  falls_with_earlier_accesses = c.law_engine_evidence_shows_in_longer_traces.ensures.falls_with_earlier_accesses;
  sticks_with_earlier_accesses = c.law_engine_evidence_shows_in_longer_traces.ensures.sticks_with_earlier_accesses;
  control_spares_other_ports = c.law_port_register_accesses_are_of_port.ensures.is_of_port;
  control_spares_other_registers = c.law_port_register_accesses_are_of_port.ensures.spares;
  control_of_larger_set = c.law_port_register_accesses_are_of_port.ensures.wider;
  fragments = c.law_access_kinds_satisfy_fragment_laws.ensures;
}
