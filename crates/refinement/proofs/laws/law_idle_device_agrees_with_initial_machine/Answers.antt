use Rattle.refinement.proofs.relation.IdleAgreement.{idle_knows}
use Rattle.refinement.proofs.laws.law_idle_device_agrees_with_initial_machine.Goals as goal

pub returns : goal.returns
returns c = idle_knows
