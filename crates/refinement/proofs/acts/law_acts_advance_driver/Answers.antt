use Rattle.refinement.proofs.driver.ActParts.{done_goes, done_does, done_silent, done_plain}
use Rattle.refinement.proofs.acts.law_acts_advance_driver.Goals as goal

pub returns-clause-driver_advances : goal.returns-clause-driver_advances
returns-clause-driver_advances c = done_goes

pub returns-clause-does : goal.returns-clause-does
returns-clause-does c = done_does

pub returns-clause-gains_no_move : goal.returns-clause-gains_no_move
returns-clause-gains_no_move c = λ acts k later m port o own. done_silent c.law_prerequisites.ensures port o own acts k later m

pub returns-clause-works_plainly_still : goal.returns-clause-works_plainly_still
returns-clause-works_plainly_still c = done_plain c.law_prerequisites.ensures
