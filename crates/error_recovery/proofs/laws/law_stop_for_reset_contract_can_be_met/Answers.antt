use Rattle.error_recovery.proofs.Breaking.{may_be_given_up}
use Rattle.error_recovery.proofs.laws.law_stop_for_reset_contract_can_be_met.Goals as goal

pub returns : goal.returns
returns c = may_be_given_up c.law_prerequisites.ensures c.law_pxcmd_st_and_fre_writes_are_permitted.ensures.stop c.law_setting_changes_one_slot.ensures.slot_has_new_state c.law_first_read_example_agrees.ensures
