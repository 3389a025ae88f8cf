use Rattle.error_recovery.proofs.Witness.{plain_may_be_asked, queued_may_be_asked}
use Rattle.error_recovery.proofs.laws.law_recover_preconditions_can_be_met.Goals as goal

pub returns-clause-plain : goal.returns-clause-plain
returns-clause-plain c =
    plain_may_be_asked c.law_prerequisites.ensures c.law_setting_changes_one_slot.ensures.slot_has_new_state c.law_setting_changes_one_slot.ensures.others c.law_a_command_may_have_failed.ensures.plain c.law_first_read_example_agrees.ensures

pub returns-clause-queued : goal.returns-clause-queued
returns-clause-queued c =
    queued_may_be_asked c.law_prerequisites.ensures c.law_setting_changes_one_slot.ensures.slot_has_new_state c.law_setting_changes_one_slot.ensures.others c.law_a_command_may_have_failed.ensures.queued c.law_two_queued_reads_example_agrees.ensures
