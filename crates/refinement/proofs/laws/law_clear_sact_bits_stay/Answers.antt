use Rattle.refinement.proofs.device.ClearSactBits.{steps_clear, reads_clear, writes_clear}
use Rattle.refinement.proofs.laws.law_clear_sact_bits_stay.Goals as goal

pub returns-clause-device : goal.returns-clause-device
returns-clause-device c = steps_clear c.law_prerequisites.ensures

pub returns-clause-reads : goal.returns-clause-reads
returns-clause-reads c = reads_clear c.law_prerequisites.ensures

pub returns-clause-writes : goal.returns-clause-writes
returns-clause-writes c = writes_clear c.law_prerequisites.ensures
