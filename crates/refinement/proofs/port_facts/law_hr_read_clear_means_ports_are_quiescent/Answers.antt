use Rattle.refinement.proofs.device.AdapterReset.{reset_begins, ghc_told, reset_leaves, reset_clears}
use Rattle.refinement.proofs.device.HaltedPort.{law_hr_read_clear_means_ports_are_quiescent, reset_stays, reset_reads, reset_writes, idle_reset, reset_idle}
use Rattle.refinement.proofs.port_facts.law_hr_read_clear_means_ports_are_quiescent.Goals as goal

pub returns-clause-port_is_quiescent : goal.returns-clause-port_is_quiescent
returns-clause-port_is_quiescent c = law_hr_read_clear_means_ports_are_quiescent c.law_prerequisites.ensures

pub returns-clause-stays : goal.returns-clause-stays
returns-clause-stays c = reset_stays c.law_prerequisites.ensures

pub returns-clause-idle : goal.returns-clause-idle
returns-clause-idle c = idle_reset

pub returns-clause-reads : goal.returns-clause-reads
returns-clause-reads c = reset_reads c.law_prerequisites.ensures

pub returns-clause-writes : goal.returns-clause-writes
returns-clause-writes c = reset_writes c.law_prerequisites.ensures

pub returns-clause-begins : goal.returns-clause-begins
returns-clause-begins c = reset_begins

pub returns-clause-hr_and_ae_are_read : goal.returns-clause-hr_and_ae_are_read
returns-clause-hr_and_ae_are_read c = ghc_told

pub returns-clause-left : goal.returns-clause-left
returns-clause-left c = reset_leaves

pub returns-clause-cleared : goal.returns-clause-cleared
returns-clause-cleared c = reset_clears

pub returns-clause-is_idle : goal.returns-clause-is_idle
returns-clause-is_idle c = reset_idle
