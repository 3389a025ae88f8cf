use Rattle.driver_history.proofs.prerequisites.law_run_prerequisites.Goals as goal

pub returns : goal.returns
returns c = record {
  run_steps_are_enabled = c.law_run_steps_are_enabled.ensures.steps_are_enabled;
  touches_are_confined = c.law_run_steps_are_enabled.ensures.touches;
  faithful_runs_read_expected = c.law_answered_reads_hold_expected.ensures;
  after_joins = c.law_device_and_faithful_step_lists_compose.ensures.machine_after_joins;
  faithful_lists_join = c.law_device_and_faithful_step_lists_compose.ensures.faithful_steps_join;
  holders_were_accepted = c.law_request_in_book_or_kept_was_accepted.ensures;
}
