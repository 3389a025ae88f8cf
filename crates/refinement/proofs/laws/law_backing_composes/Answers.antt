use Rattle.refinement.proofs.driver.AddedSteps.{backed_then, told_then, nothing_backed}
use Rattle.refinement.proofs.laws.law_backing_composes.Goals as goal

pub returns-clause-reflexive : goal.returns-clause-reflexive
returns-clause-reflexive c = nothing_backed

pub returns-clause-device_parts_join : goal.returns-clause-device_parts_join
returns-clause-device_parts_join c = told_then

pub returns-clause-backings_join : goal.returns-clause-backings_join
returns-clause-backings_join c = backed_then
