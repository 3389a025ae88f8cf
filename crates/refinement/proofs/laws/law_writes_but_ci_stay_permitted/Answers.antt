use Rattle.refinement.proofs.device.AllowedWrites.{write_stays, uses_stay}
use Rattle.refinement.proofs.laws.law_writes_but_ci_stay_permitted.Goals as goal

pub returns-clause-rules : goal.returns-clause-rules
returns-clause-rules c = write_stays

pub returns-clause-uses : goal.returns-clause-uses
returns-clause-uses c = uses_stay
