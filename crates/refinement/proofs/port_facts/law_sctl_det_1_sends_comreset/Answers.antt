use Rattle.refinement.proofs.device.ErrorWrites.{comreset_shown, release_due, undue_written}
use Rattle.refinement.proofs.port_facts.law_sctl_det_1_sends_comreset.Goals as goal

pub returns-clause-comreset : goal.returns-clause-comreset
returns-clause-comreset c = comreset_shown

pub returns-clause-due : goal.returns-clause-due
returns-clause-due c = release_due c.law_prerequisites.ensures

pub returns-clause-undue : goal.returns-clause-undue
returns-clause-undue c = undue_written c.law_prerequisites.ensures
