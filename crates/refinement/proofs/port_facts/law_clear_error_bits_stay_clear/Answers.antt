use Rattle.refinement.proofs.device.RaisedBits.{steps_raise, access_raises}
use Rattle.refinement.proofs.device.RunningPort.{steps_clear, access_clear, shows_still}
use Rattle.refinement.proofs.port_facts.law_clear_error_bits_stay_clear.Goals as goal

pub returns-clause-steps : goal.returns-clause-steps
returns-clause-steps c = steps_clear c.law_prerequisites.ensures

pub returns-clause-access : goal.returns-clause-access
returns-clause-access c = access_clear c.law_prerequisites.ensures

pub returns-clause-no_trouble_stays : goal.returns-clause-no_trouble_stays
returns-clause-no_trouble_stays c = shows_still

pub returns-clause-causes : goal.returns-clause-causes
returns-clause-causes c = steps_raise c.law_prerequisites.ensures

pub returns-clause-causes_access : goal.returns-clause-causes_access
returns-clause-causes_access c = access_raises c.law_prerequisites.ensures
