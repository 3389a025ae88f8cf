use Rattle.refinement.proofs.device.RestartedPort.{started_up}
use Rattle.refinement.proofs.device.RunningPort.{steps_started, access_started, well_of, started_well}
use Rattle.refinement.proofs.device.BootedPort.{start_of_up_port_is_started, well_is_told, well_is_found}
use Rattle.refinement.proofs.port_facts.law_started_port_without_trouble_runs_well.Goals as goal

pub returns-clause-starts : goal.returns-clause-starts
returns-clause-starts c = start_of_up_port_is_started c.law_prerequisites.ensures

pub returns-clause-steps : goal.returns-clause-steps
returns-clause-steps c = steps_started c.law_prerequisites.ensures

pub returns-clause-access : goal.returns-clause-access
returns-clause-access c = access_started c.law_prerequisites.ensures

pub returns-clause-started_runs_well : goal.returns-clause-started_runs_well
returns-clause-started_runs_well c = well_of

pub returns-clause-started : goal.returns-clause-started
returns-clause-started c = started_well

pub returns-clause-pxis_read_clear_runs_well : goal.returns-clause-pxis_read_clear_runs_well
returns-clause-pxis_read_clear_runs_well c = well_is_told c.law_prerequisites.ensures

pub returns-clause-found : goal.returns-clause-found
returns-clause-found c = well_is_found c.law_prerequisites.ensures

pub returns-clause-started_is_up_for_start : goal.returns-clause-started_is_up_for_start
returns-clause-started_is_up_for_start c = started_up
