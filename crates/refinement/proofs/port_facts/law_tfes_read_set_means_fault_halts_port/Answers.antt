use Rattle.refinement.proofs.device.FaultedPort.{tfes_tells, steps_faulted, reads_faulted, writes_faulted, fault_is_read, fault_has_a_use}
use Rattle.refinement.proofs.port_facts.law_tfes_read_set_means_fault_halts_port.Goals as goal

pub returns-clause-told : goal.returns-clause-told
returns-clause-told c = tfes_tells c.law_prerequisites.ensures

pub returns-clause-steps : goal.returns-clause-steps
returns-clause-steps c = steps_faulted c.law_prerequisites.ensures

pub returns-clause-reads : goal.returns-clause-reads
returns-clause-reads c = reads_faulted c.law_prerequisites.ensures

pub returns-clause-writes : goal.returns-clause-writes
returns-clause-writes c = writes_faulted c.law_prerequisites.ensures

pub returns-clause-shown : goal.returns-clause-shown
returns-clause-shown c = fault_is_read c.law_prerequisites.ensures

pub returns-clause-slot : goal.returns-clause-slot
returns-clause-slot c = fault_has_a_use
