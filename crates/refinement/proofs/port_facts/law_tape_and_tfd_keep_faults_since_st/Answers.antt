use Rattle.refinement.proofs.device.AllowedWrites.{record_stays}
use Rattle.refinement.proofs.device.RecordedFaults.{steps_recorded, stopped_recorded}
use Rattle.refinement.proofs.device.FaultsOverAccesses.{issues_recorded, reads_recorded, writes_recorded}
use Rattle.refinement.proofs.witnesses.PortWitnesses.{first_recorded, first_failed}
use Rattle.refinement.proofs.device.OrdinaryAccesses.{access_recorded}
use Rattle.refinement.proofs.port_facts.law_tape_and_tfd_keep_faults_since_st.Goals as goal

pub returns-clause-steps : goal.returns-clause-steps
returns-clause-steps c = steps_recorded

pub returns-clause-reads : goal.returns-clause-reads
returns-clause-reads c = reads_recorded

pub returns-clause-writes : goal.returns-clause-writes
returns-clause-writes c = writes_recorded

pub returns-clause-idle : goal.returns-clause-idle
returns-clause-idle c = stopped_recorded

pub returns-clause-runs : goal.returns-clause-runs
returns-clause-runs c = first_recorded

pub returns-clause-failed : goal.returns-clause-failed
returns-clause-failed c = first_failed

pub returns-clause-asked : goal.returns-clause-asked
returns-clause-asked c = record_stays

pub returns-clause-issues : goal.returns-clause-issues
returns-clause-issues c = issues_recorded

pub returns-clause-access : goal.returns-clause-access
returns-clause-access c = access_recorded
