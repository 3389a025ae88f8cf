use Rattle.ncq.proofs.Issued.{leads}
use Rattle.ncq.proofs.laws.law_ci_write_issues_armed_batch.Goals as goal

pub returns : goal.returns
returns c = leads (record {
  leaving = record {
    left = c.law_other_ports_are_untouched.ensures.other_port_is_untouched;
    on = c.law_other_ports_are_untouched.ensures.adapter_stays_on;
    adapter = c.law_other_ports_are_untouched.ensures.adapter_is_same;
  };
  acts = record {
    goes = c.law_acts_advance_driver.ensures.driver_advances;
    reached = c.law_driver_advances_compose.ensures.reached;
    more = c.law_acts_compose.ensures.acts_join;
    accesses = c.law_acts_compose.ensures.accesses;
    steps = c.law_acts_compose.ensures.steps;
    device = c.law_device_and_faithful_step_lists_compose.ensures.device_steps_join;
  };
  same = c.law_adapter_stays_same_and_on_until_ghc_write.ensures.access_keeps_adapter;
  on = c.law_adapter_stays_same_and_on_until_ghc_write.ensures.stays_on;
  controls = c.law_port_controls_stay_until_written.ensures;
  ends = c.law_an_access_or_own_step_is_one_act.ensures.access_with_own_steps;
  part = c.law_device_steps_are_a_call_part.ensures;
  access = c.law_driver_advances_compose.ensures.access;
  none = c.law_driver_advances_compose.ensures.reflexive;
  compose = c.law_driver_advances_compose.ensures.transitive;
  due = c.law_enabled_issues_stay.ensures;
  after = c.law_device_and_faithful_step_lists_compose.ensures.machine_after_joins;
  arms = c.law_one_bit_arms_or_issues_slot.ensures.arms;
  issues = c.law_one_bit_arms_or_issues_slot.ensures.issues;
  stays = c.law_stored_command_stays_while_st_set.ensures.access;
  stands = c.law_stored_command_stays_while_st_set.ensures.steps;
  permitted = c.law_readied_may_be_issued.ensures.permitted;
  prepared = c.law_readied_may_be_issued.ensures.prepared;
  follows = c.law_device_steps_are_simulated.ensures;
  leaves = c.law_tables_and_idle_scratch_are_kept.ensures.writes;
  leaves_steps = c.law_tables_and_idle_scratch_are_kept.ensures.steps;
  block = c.law_stored_commands_stay.ensures.block;
  put_here = c.law_setting_changes_one_slot.ensures.slot_has_new_state;
  put_others = c.law_setting_changes_one_slot.ensures.others;
})
