use Rattle.refinement.proofs.device.AwaitedLink.{steps_unflagged}
use Rattle.refinement.proofs.device.StartConditions.{clearing_unflags, reads_unflagged, writes_unflagged, law_tfes_and_drq_clear_mean_clean_to_start, steps_quiet, reads_quiet, writes_quiet}
use Rattle.refinement.proofs.witnesses.PortWitnesses.{second_quiet}
use Rattle.refinement.proofs.port_facts.law_tfes_and_drq_clear_mean_clean_to_start.Goals as goal

pub returns-clause-cleared : goal.returns-clause-cleared
returns-clause-cleared c = clearing_unflags c.law_prerequisites.ensures

pub returns-clause-reads : goal.returns-clause-reads
returns-clause-reads c = reads_unflagged

pub returns-clause-writes : goal.returns-clause-writes
returns-clause-writes c = writes_unflagged

pub returns-clause-found : goal.returns-clause-found
returns-clause-found c = law_tfes_and_drq_clear_mean_clean_to_start

pub returns-clause-stays : goal.returns-clause-stays
returns-clause-stays c = steps_quiet

pub returns-clause-exists : goal.returns-clause-exists
returns-clause-exists c = second_quiet

pub returns-clause-stays_read : goal.returns-clause-stays_read
returns-clause-stays_read c = reads_quiet

pub returns-clause-stays_written : goal.returns-clause-stays_written
returns-clause-stays_written c = writes_quiet

pub returns-clause-steps : goal.returns-clause-steps
returns-clause-steps c = steps_unflagged
