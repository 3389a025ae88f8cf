use Rattle.refinement.proofs.device.ErrorBits.{steps_errors, access_causes, access_news}
use Rattle.refinement.proofs.port_facts.law_set_pxis_serr_nx_bits_stay_until_written.Goals as goal

pub returns-clause-steps : goal.returns-clause-steps
returns-clause-steps c = steps_errors c.law_prerequisites.ensures

pub returns-clause-causes : goal.returns-clause-causes
returns-clause-causes c = access_causes c.law_prerequisites.ensures

pub returns-clause-errors : goal.returns-clause-errors
returns-clause-errors c = access_news c.law_prerequisites.ensures
