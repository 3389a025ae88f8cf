use Rattle.ncq.proofs.Growing.{Laws, grows, may_prepare, none_stored}
use Rattle.ncq.proofs.laws.law_stored_task_extends_batch.Goals as goal

pub returns-clause-empty_batch : goal.returns-clause-empty_batch
returns-clause-empty_batch c = none_stored

pub returns-clause-one_more_task : goal.returns-clause-one_more_task
returns-clause-one_more_task c =
    let laws : Laws = record {
      leaving = record {
        left = c.law_other_ports_are_untouched.ensures.other_port_is_untouched;
        on = c.law_other_ports_are_untouched.ensures.adapter_stays_on;
        adapter = c.law_other_ports_are_untouched.ensures.adapter_is_same;
      };
      acts = record {
        goes = c.law_acts_advance_driver.ensures.driver_advances;
        reached = c.law_driver_advances_compose.ensures.reached;
        more = c.law_acts_compose.ensures.acts_join;
        accesses = c.law_acts_compose.ensures.accesses;
        steps = c.law_acts_compose.ensures.steps;
        device = c.law_device_and_faithful_step_lists_compose.ensures.device_steps_join;
      };
      stays = c.law_stored_command_stays_over_acts_sparing_it.ensures;
      misses = c.law_stored_commands_stay.ensures.misses;
      put_here = c.law_setting_changes_one_slot.ensures.slot_has_new_state;
      put_others = c.law_setting_changes_one_slot.ensures.others;
    } in
    λ port tasks t start mid b agreed apart small usable fit queued. (
      may_prepare laws port tasks t start mid b agreed apart small usable fit queued,
      grows laws port tasks t start mid b agreed apart small usable fit queued,
    )
