use Rattle.ncq.proofs.ProbeResult.{finds_done}
use Rattle.ncq.proofs.laws_of_done.law_ci_then_sact_reads_find_done_slots.Goals as goal

pub returns : goal.returns
returns c = finds_done (record {
  access = c.law_an_access_or_own_step_is_one_act.ensures.access;
  on = c.law_adapter_stays_same_and_on_until_ghc_write.ensures.stays_on;
  controls = c.law_port_controls_stay_until_written.ensures;
  ends = c.law_slot_is_clear_iff_ended_while_st_set.ensures.ends;
  reached = c.law_driver_advances_compose.ensures.reached;
  device = c.law_device_and_faithful_step_lists_compose.ensures.device_steps_join;
  after_both = c.law_device_and_faithful_step_lists_compose.ensures.machine_after_joins;
  reading = c.law_register_reading_is_simulated.ensures;
  keeps = c.law_step_lists_keep_what_steps_keep.ensures;
  kept = c.law_requests_only_advance_over_device_steps.ensures.none_quarantined_stays;
})
