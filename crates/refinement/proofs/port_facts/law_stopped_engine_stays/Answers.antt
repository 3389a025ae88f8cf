use Rattle.refinement.proofs.device.HaltedPort.{law_stopped_engine_stays, halted_reads, halted_writes, idle_halted}
use Rattle.refinement.proofs.port_facts.law_stopped_engine_stays.Goals as goal

pub returns-clause-steps : goal.returns-clause-steps
returns-clause-steps c = law_stopped_engine_stays c.law_prerequisites.ensures

pub returns-clause-idle : goal.returns-clause-idle
returns-clause-idle c = idle_halted

pub returns-clause-reads : goal.returns-clause-reads
returns-clause-reads c = halted_reads c.law_prerequisites.ensures

pub returns-clause-writes : goal.returns-clause-writes
returns-clause-writes c = halted_writes c.law_prerequisites.ensures
