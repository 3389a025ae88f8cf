use Rattle.disk_page.proofs.prerequisites.law_prerequisites.Goals as goal

pub returns : goal.returns
returns c = record {
  read_changes_port_register = c.law_port_access_is_steps_then_port_effect.ensures.register_read;
  write_changes_port_register = c.law_port_access_is_steps_then_port_effect.ensures.register_written;
  law_step_lists_keep_what_steps_keep = c.law_step_lists_keep_what_steps_keep.ensures;
  kept_controls_reflexive = c.law_kept_controls_and_rising_flags_compose.ensures.reflexive;
  kept_controls_compose = c.law_kept_controls_and_rising_flags_compose.ensures.transitive;
  access_keeps_on = c.law_adapter_stays_same_and_on_until_ghc_write.ensures.stays_on;
  access_keeps_adapter = c.law_adapter_stays_same_and_on_until_ghc_write.ensures.access_keeps_adapter;
  access_keeps_slot_clear = c.law_clear_slots_and_ended_requests_stay_so.ensures.clear_access;
  steps_keep_fault_record = c.law_tape_and_tfd_keep_faults_since_st.ensures.steps;
  reads_keep_fault_record = c.law_tape_and_tfd_keep_faults_since_st.ensures.reads;
  issues_keep_fault_record = c.law_tape_and_tfd_keep_faults_since_st.ensures.issues;
  stores_spare_other_ports = c.law_table_stores_touch_no_register.ensures.of_any_port;
  stores_write_no_register = c.law_table_stores_touch_no_register.ensures.writes_no_register;
  other_ports_are_left = c.law_other_ports_are_untouched.ensures.other_port_is_untouched;
  accesses_keep_adapter = c.law_other_ports_are_untouched.ensures.adapter_is_same;
  accesses_extend_tape = c.law_other_ports_are_untouched.ensures.tape_grows;
  accesses_of_port_spare_ghc = c.law_other_ports_are_untouched.ensures.spares_host;
  issuing_page_command_is_permitted = c.law_own_issuing_is_permitted.ensures;
  page_is_issued = c.law_ci_read_clear_means_page_has_come.ensures.issued;
  access_keeps_awaiting = c.law_ci_read_clear_means_page_has_come.ensures.access;
  page_is_found = c.law_ci_read_clear_means_page_has_come.ensures.found;
  awaited_is_loaded = c.law_ci_read_clear_means_page_has_come.ensures.loaded;
  device_owns_no_scratch = c.law_device_owns_no_scratch_page_once_slot_0_over.ensures;
  release_keeps_relation = c.law_some_machine_agrees_after_simulation.ensures.own_command_over_frees_slot;
  fragments = c.law_access_kinds_satisfy_fragment_laws.ensures;
  issued_own_command_is_unended_or_unhalted = c.law_own_command_end_ends_halt.ensures.issued;
  access_keeps_ends_halt = c.law_own_command_end_ends_halt.ensures.access;
  tape = c.law_tapes_satisfy_tape_laws.ensures;
  unused_slot_moves_no_page = c.law_pages_come_only_for_own_commands.ensures.access;
  no_moves_compose = c.law_port_without_command_gains_no_move.ensures.transitive;
  other_slots_are_kept = c.law_setting_changes_one_slot.ensures.others;
}
