use Rattle.server_history.proofs.prerequisites.law_basics.Goals as goal

pub returns : goal.returns
returns c = record {
  steps_keep_adapter_and_notes = c.law_step_lists_keep_what_steps_keep.ensures;
  device_steps_are_simulated = c.law_device_steps_are_a_call_part.ensures;
  history_ports_are_well_formed = c.law_driver_invariant_holds.ensures.ports_are_well_formed;
  ready_ports_are_served = c.law_ready_ports_are_served.ensures;
  steps_switch_none_on = c.law_steps_never_switch_adapter_on.ensures;
  after_joins = c.law_step_lists_compose.ensures.after_joins;
  enabled_lists_join = c.law_step_lists_compose.ensures.enabled_steps_join;
  reachable_stays_reachable = c.law_step_lists_compose.ensures.reached;
  history_machine_is_reachable = c.law_histories_reach_their_machines.ensures;
  an_id_is_one_request = λ m reached a b. c.law_one_id_is_in_the_book_once.ensures m a b reached;
  ended_is_issued = c.law_ended_is_issued.ensures;
  device_steps_spare_book = c.law_requests_only_advance_over_device_steps.ensures.spares;
  entry_is_found_in_later_book = c.law_requests_only_advance_over_device_steps.ensures.is_found_later;
  entry_is_found_in_earlier_book = c.law_requests_only_advance_over_device_steps.ensures.was_found_before;
  does_append = c.law_accesses_compose.ensures.lists_append;
}
