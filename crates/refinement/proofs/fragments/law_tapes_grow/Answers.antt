use Rattle.refinement.proofs.driver.PortAccesses.{access_grows, grows_more, grows_none}
use Rattle.refinement.proofs.fragments.law_tapes_grow.Goals as goal

pub returns-clause-reflexive : goal.returns-clause-reflexive
returns-clause-reflexive c = grows_none

pub returns-clause-access : goal.returns-clause-access
returns-clause-access c = access_grows

pub returns-clause-transitive : goal.returns-clause-transitive
returns-clause-transitive c = grows_more
