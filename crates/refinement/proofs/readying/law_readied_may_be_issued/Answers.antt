use Rattle.refinement.proofs.driver.ReadySlot.{readied_permitted, readied_prepared, prepared_readied}
use Rattle.refinement.proofs.readying.law_readied_may_be_issued.Goals as goal

pub returns-clause-permitted : goal.returns-clause-permitted
returns-clause-permitted c = readied_permitted c.law_prerequisites.ensures

pub returns-clause-prepared : goal.returns-clause-prepared
returns-clause-prepared c = readied_prepared

pub returns-clause-readied : goal.returns-clause-readied
returns-clause-readied c = prepared_readied
