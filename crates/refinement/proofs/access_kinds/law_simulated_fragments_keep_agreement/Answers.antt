use Rattle.refinement.proofs.driver.PortAccesses.{agreed_to}
use Rattle.refinement.proofs.driver.Stretches.{followed_plain, followed_silent}
use Rattle.refinement.proofs.access_kinds.law_simulated_fragments_keep_agreement.Goals as goal

pub returns-clause-agreed : goal.returns-clause-agreed
returns-clause-agreed g c = λ kind. agreed_to (g.K.AccessKindsWithSlotUses.may kind) (g.K.AccessKindsWithSlotUses.fits kind)

pub returns-clause-gains_no_move : goal.returns-clause-gains_no_move
returns-clause-gains_no_move g c = λ kind next uses port o old new fits issues arms own none followed a.
    (followed_silent c.law_prerequisites.ensures) followed uses a.parked a.machine fits a.reached a.driver_relation port o own issues arms none

pub returns-clause-works_plainly_still : goal.returns-clause-works_plainly_still
returns-clause-works_plainly_still g c = λ kind next uses port old new fits arms followed a.
    (followed_plain c.law_prerequisites.ensures) followed uses a.parked a.machine fits a.reached a.driver_relation port arms
