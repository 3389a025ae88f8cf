use Rattle.refinement.proofs.device.SilentPort.{steps_silent, access_silent, steps_hold, access_hold}
use Rattle.refinement.proofs.port_facts.law_stopped_engine_records_no_work.Goals as goal

pub returns-clause-steps : goal.returns-clause-steps
returns-clause-steps c = steps_silent c.law_prerequisites.ensures

pub returns-clause-access : goal.returns-clause-access
returns-clause-access c = access_silent c.law_prerequisites.ensures

pub returns-clause-disk : goal.returns-clause-disk
returns-clause-disk c = steps_hold c.law_prerequisites.ensures

pub returns-clause-disk_access : goal.returns-clause-disk_access
returns-clause-disk_access c = access_hold c.law_prerequisites.ensures
