use Rattle.refinement.proofs.device.HealthyPort.{first_healthy}
use Rattle.refinement.proofs.device.RunningPort.{law_running_well_stays_if_undisturbed, healthy_reads, healthy_writes}
use Rattle.refinement.proofs.port_facts.law_running_well_stays_if_undisturbed.Goals as goal

pub returns-clause-steps : goal.returns-clause-steps
returns-clause-steps c = law_running_well_stays_if_undisturbed c.law_prerequisites.ensures

pub returns-clause-reads : goal.returns-clause-reads
returns-clause-reads c = healthy_reads c.law_prerequisites.ensures

pub returns-clause-exists : goal.returns-clause-exists
returns-clause-exists c = first_healthy

pub returns-clause-writes : goal.returns-clause-writes
returns-clause-writes c = healthy_writes c.law_prerequisites.ensures
