use Rattle.refinement.proofs.driver.IssueWrite.{own_backed}
use Rattle.refinement.proofs.laws.law_steps_not_by_device_need_no_backing.Goals as goal

pub returns : goal.returns
returns c = own_backed
