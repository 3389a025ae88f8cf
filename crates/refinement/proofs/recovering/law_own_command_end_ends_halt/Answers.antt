use Rattle.refinement.proofs.driver.EndedHalt.{issued_ends, steps_end, access_ends, halt_ended, ended_well}
use Rattle.refinement.proofs.recovering.law_own_command_end_ends_halt.Goals as goal

pub returns-clause-issued : goal.returns-clause-issued
returns-clause-issued c = issued_ends c.law_prerequisites.ensures

pub returns-clause-steps : goal.returns-clause-steps
returns-clause-steps c = steps_end c.law_prerequisites.ensures

pub returns-clause-access : goal.returns-clause-access
returns-clause-access c = access_ends c.law_prerequisites.ensures

pub returns-clause-no_halt_once_over : goal.returns-clause-no_halt_once_over
returns-clause-no_halt_once_over c = halt_ended c.law_prerequisites.ensures

pub returns-clause-found : goal.returns-clause-found
returns-clause-found c = ended_well c.law_prerequisites.ensures
