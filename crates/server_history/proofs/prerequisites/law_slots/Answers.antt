use Rattle.server_history.proofs.prerequisites.law_slots.Goals as goal

pub returns : goal.returns
returns c = record {
  accepted_agrees = c.law_accepting_agrees.ensures;
  revoked_agrees = c.law_revoking_grant_agrees.ensures;
  parked_agrees = c.law_parking_agrees.ensures;
  parked_frees = c.law_parking_request_frees_its_slot.ensures.frees;
  ended_clear = c.law_slot_is_clear_iff_ended_while_st_set.ensures.clears;
  answered_agrees = c.law_answering_slotless_request_agrees.ensures;
  wait_again_agrees = c.law_slotless_request_waiting_again_agrees.ensures;
  kept_agrees = c.law_answering_with_frames_kept_agrees.ensures;
  acts_advance_driver = c.law_acts_advance_driver.ensures.driver_advances;
  acts_gain_no_move_without_own_command = c.law_acts_advance_driver.ensures.gains_no_move;
  page_needs_a_command = c.law_pages_come_only_for_own_commands.ensures.access;
  giving_up_frees_slots = c.law_giving_up_stopped_port_slots_agrees.ensures.given_up_port_is_free;
  giving_up_spares_other_ports = c.law_giving_up_stopped_port_slots_agrees.ensures.others;
  giving_up_parks_ids = c.law_given_up_requests_are_parked.ensures;
  set_slot_has_state = c.law_setting_changes_one_slot.ensures.slot_has_new_state;
  over_stays_over_steps = c.law_clear_slots_and_ended_requests_stay_so.ensures.over;
  over_stays_unless_ci_bit_is_written = c.law_clear_slots_and_ended_requests_stay_so.ensures.over_access;
  ids_in_slots_are_served = c.law_giving_up_stopped_port_slots_agrees.ensures.ids_in_slots_are_served;
  giving_up_frees_id = c.law_giving_up_stopped_port_slots_agrees.ensures.frees;
  setting_slot_keeps_unserved = c.law_setting_changes_one_slot.ensures.unserved;
  waiting_has_no_slot = c.law_waiting_has_no_slot.ensures;
  decoding_is_unique = c.law_slot_decodes_to_at_most_one_command.ensures;
  stored_stays_over_acts_that_leave_it = c.law_stored_command_stays_over_acts_sparing_it.ensures;
  stored_stays_over_access_that_leaves_it = c.law_stored_command_stays_while_st_set.ensures.access;
  shown_fault_is_of_lone_slot = c.law_issued_taken_or_faulted_is_outstanding.ensures.only_used_slot_has_fault;
}
