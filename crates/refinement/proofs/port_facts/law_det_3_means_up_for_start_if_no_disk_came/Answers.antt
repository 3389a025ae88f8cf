use Rattle.refinement.proofs.device.RestartedPort.{steps_stay_up, access_stays_up}
use Rattle.refinement.proofs.device.RisingLink.{comreset_comes, reset_comes, unlinked, steps_coming, access_coming, up_is_found, steps_up, access_up}
use Rattle.refinement.proofs.port_facts.law_det_3_means_up_for_start_if_no_disk_came.Goals as goal

pub returns-clause-comreset : goal.returns-clause-comreset
returns-clause-comreset c = comreset_comes c.law_prerequisites.ensures

pub returns-clause-reset : goal.returns-clause-reset
returns-clause-reset c = reset_comes c.law_prerequisites.ensures

pub returns-clause-unlinked : goal.returns-clause-unlinked
returns-clause-unlinked c = unlinked

pub returns-clause-steps : goal.returns-clause-steps
returns-clause-steps c = steps_coming c.law_prerequisites.ensures

pub returns-clause-access : goal.returns-clause-access
returns-clause-access c = access_coming c.law_prerequisites.ensures

pub returns-clause-found : goal.returns-clause-found
returns-clause-found c = up_is_found c.law_prerequisites.ensures

pub returns-clause-stays : goal.returns-clause-stays
returns-clause-stays c = steps_up c.law_prerequisites.ensures

pub returns-clause-stays_access : goal.returns-clause-stays_access
returns-clause-stays_access c = access_up c.law_prerequisites.ensures

pub returns-clause-undisturbed : goal.returns-clause-undisturbed
returns-clause-undisturbed c = steps_stay_up c.law_prerequisites.ensures

pub returns-clause-undisturbed_access : goal.returns-clause-undisturbed_access
returns-clause-undisturbed_access c = access_stays_up c.law_prerequisites.ensures
