use Rattle.refinement.proofs.driver.PutSlot.{put_same, put_other}
use Rattle.refinement.proofs.driver.ParkedSlot.{put_unserved}
use Rattle.refinement.proofs.laws.law_setting_changes_one_slot.Goals as goal

pub returns-clause-slot_has_new_state : goal.returns-clause-slot_has_new_state
returns-clause-slot_has_new_state c = put_same

pub returns-clause-others : goal.returns-clause-others
returns-clause-others c = put_other

pub returns-clause-unserved : goal.returns-clause-unserved
returns-clause-unserved c = put_unserved
