use Rattle.server_history.proofs.prerequisites.law_calls.Goals as goal

pub returns : goal.returns
returns c = record {
  turn_evidence_is_calls = c.law_turn_evidence_holds_for_call.ensures.evidence;
  turn_failure_is_calls = c.law_turn_evidence_holds_for_call.ensures.turn_failure_is_calls;
  turn_log_page_is_calls = c.law_turn_evidence_holds_for_call.ensures.turn_log_page_is_calls;
  ordinary_accesses_lose_no_error = c.law_errors_stay_unless_cleared_or_ghc_written.ensures.accesses;
  steps_lose_no_error = c.law_errors_stay_unless_cleared_or_ghc_written.ensures.steps;
  lone_tfes_in_call_is_in_turn = c.law_a_fault_alone_in_a_call_is_alone_in_a_turn.ensures;
  turn_trouble_is_calls = c.law_turn_error_and_boot_duties_hold_for_call.ensures.loses_no_error;
  turn_boots_are_calls = c.law_turn_error_and_boot_duties_hold_for_call.ensures.boots_anew;
  turn_running_well_is_calls = c.law_turn_error_and_boot_duties_hold_for_call.ensures.runs_well_anew;
  turn_probe_is_calls = c.law_turn_disk_probe_holds_for_call.ensures.probes;
  turn_without_due_link_is_calls = c.law_turn_disk_probe_holds_for_call.ensures.ends_no_link_due;
  stopped_port_set_st_since = c.law_st_after_a_stop_was_set_since.ensures;
  fatal_in_part_is_in_whole = c.law_a_fatal_error_of_a_part_is_of_the_whole.ensures;
  untroubled_since_st_is_calm = c.law_no_plug_or_error_since_st_is_undisturbed.ensures;
}
