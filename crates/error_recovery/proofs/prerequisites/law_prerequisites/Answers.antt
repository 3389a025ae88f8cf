use Rattle.refinement.specs.Slots.{Own}
use Rattle.error_recovery.proofs.prerequisites.law_prerequisites.Goals as goal

pub returns : goal.returns
returns c = record {
  access_keeps_on = c.law_adapter_stays_same_and_on_until_ghc_write.ensures.stays_on;
  read_changes_port_register = c.law_port_access_is_steps_then_port_effect.ensures.register_read;
  tape = c.law_tapes_satisfy_tape_laws.ensures;
  access_controls = c.law_port_controls_stay_until_written.ensures;
  access_notes = c.law_noted_reads_change_only_by_read_or_sctl.ensures.access;
  read_keeps_fault_record = c.law_tape_and_tfd_keep_faults_since_st.ensures.reads;
  access_changes_by_errors = c.law_clear_error_bits_stay_clear.ensures.causes_access;
  access_hides_no_fault = c.law_clear_pxis_error_bits_mean_no_error.ensures.fault_access;
  access_hides_no_fatal = c.law_clear_pxis_error_bits_mean_no_error.ensures.fatal_access;
  access_hides_no_plug_event = c.law_serr_n_clear_means_no_plug_event.ensures.access;
  access_keeps_linked = c.law_link_stays_online.ensures.access;
  access_runs_linked = c.law_port_runs_on_without_fatal_or_plug.ensures.access;
  linked_plain_port_is_up = c.law_port_stays_unqueued_until_sact_written.ensures.link_is_up_for_start;
  started_quiet_port_runs_well = c.law_started_port_without_trouble_runs_well.ensures.started_runs_well;
  runs_well = c.law_unqueued_ci_read_clear_means_tfes_clear.ensures.runs_well;
  fault_shown = c.law_tfes_read_set_means_fault_halts_port.ensures.shown;
  fault_is_of_sole_slot = c.law_issued_taken_or_faulted_is_outstanding.ensures.only_used_slot_has_fault;
  no_moves_compose = c.law_port_without_command_gains_no_move.ensures.transitive;
  accesses_gain_no_move = c.law_port_without_command_gains_no_move.ensures.port_accesses_gain_no_move;
  giving_up_keeps_relation = c.law_giving_up_stopped_port_slots_agrees.ensures.engine_stopped;
  given_up_free = c.law_giving_up_stopped_port_slots_agrees.ensures.given_up_port_is_free;
  given_up_leaves_other_ports = c.law_giving_up_stopped_port_slots_agrees.ensures.others;
  slot_has_state_set = λ uses port slot o. c.law_setting_changes_one_slot.ensures.slot_has_new_state uses port slot (Own o);
  accesses_keep_adapter = c.law_other_ports_are_untouched.ensures.adapter_is_same;
  accesses_of_port_spare_ghc = c.law_other_ports_are_untouched.ensures.spares_host;
  accesses_of_port_spare_others = c.law_other_ports_are_untouched.ensures.spares;
  asking_spares_other_ports = c.law_page_request_spares_other_ports.ensures.spares_other_ports;
  asking_leaves_no_command = c.law_page_request_spares_other_ports.ensures.slots_stay_empty;
  vain_with_later_accesses = c.law_slot_0_wait_in_vain_shows_in_longer_trace.ensures.later;
  vain_with_earlier_accesses = c.law_slot_0_wait_in_vain_shows_in_longer_trace.ensures.earlier;
  failing_sticks = c.law_engine_evidence_shows_in_longer_traces.ensures.failing_sticks;
  falls_with_later_accesses = c.law_engine_evidence_shows_in_longer_traces.ensures.falls_with_later_accesses;
  falls_with_earlier_accesses = c.law_engine_evidence_shows_in_longer_traces.ensures.falls_with_earlier_accesses;
  sticks_with_earlier_accesses = c.law_engine_evidence_shows_in_longer_traces.ensures.sticks_with_earlier_accesses;
  control_spares_other_ports = c.law_port_register_accesses_are_of_port.ensures.is_of_port;
  control_spares_other_registers = c.law_port_register_accesses_are_of_port.ensures.spares;
  control_of_larger_set = c.law_port_register_accesses_are_of_port.ensures.wider;
  fragments = c.law_access_kinds_satisfy_fragment_laws.ensures;
}
