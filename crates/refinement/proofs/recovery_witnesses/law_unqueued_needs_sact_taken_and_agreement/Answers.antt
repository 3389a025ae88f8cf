use Rattle.refinement.proofs.witnesses.PlainNeeds.{needs_unarmed, needs_plain, needs_agreed}
use Rattle.refinement.proofs.recovery_witnesses.law_unqueued_needs_sact_taken_and_agreement.Goals as goal

pub returns-clause-unarmed : goal.returns-clause-unarmed
returns-clause-unarmed c = needs_unarmed c.law_prerequisites.ensures

pub returns-clause-plain : goal.returns-clause-plain
returns-clause-plain c = needs_plain c.law_prerequisites.ensures

pub returns-clause-agreed : goal.returns-clause-agreed
returns-clause-agreed c = needs_agreed
