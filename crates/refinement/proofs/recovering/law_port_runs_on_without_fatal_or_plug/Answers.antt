use Rattle.refinement.proofs.device.LinkOverFaults.{start_runs, steps_run, access_runs, running_started}
use Rattle.refinement.proofs.recovering.law_port_runs_on_without_fatal_or_plug.Goals as goal

pub returns-clause-starts : goal.returns-clause-starts
returns-clause-starts c = start_runs c.law_prerequisites.ensures

pub returns-clause-steps : goal.returns-clause-steps
returns-clause-steps c = steps_run c.law_prerequisites.ensures

pub returns-clause-access : goal.returns-clause-access
returns-clause-access c = access_runs c.law_prerequisites.ensures

pub returns-clause-started : goal.returns-clause-started
returns-clause-started c = running_started
