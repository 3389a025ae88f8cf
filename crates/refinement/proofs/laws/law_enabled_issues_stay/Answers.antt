use Rattle.refinement.proofs.steps.WaitingRequests.{steps_may}
use Rattle.refinement.proofs.laws.law_enabled_issues_stay.Goals as goal

pub returns : goal.returns
returns c = steps_may
