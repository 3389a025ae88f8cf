use Rattle.ncq.proofs.Performed.{issuing_of, finding_of}
use Rattle.ncq.proofs.laws.law_batch_and_mask_access_spares_other_ports.Goals as goal

pub returns-clause-issuing : goal.returns-clause-issuing
returns-clause-issuing c = issuing_of

pub returns-clause-finding : goal.returns-clause-finding
returns-clause-finding c = finding_of
