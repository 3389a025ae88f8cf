use Rattle.refinement.proofs.device.AllowedWrites.{list_may, list_upper_may, received_may, received_upper_may}
use Rattle.refinement.proofs.laws.law_clb_fb_writes_are_permitted_if_stopped.Goals as goal

pub returns-clause-list : goal.returns-clause-list
returns-clause-list c = list_may

pub returns-clause-list_upper : goal.returns-clause-list_upper
returns-clause-list_upper c = list_upper_may

pub returns-clause-received : goal.returns-clause-received
returns-clause-received c = received_may

pub returns-clause-received_upper : goal.returns-clause-received_upper
returns-clause-received_upper c = received_upper_may
