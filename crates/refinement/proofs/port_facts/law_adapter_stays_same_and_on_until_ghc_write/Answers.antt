use Rattle.refinement.proofs.device.AdapterOverAccesses.{access_same, access_on, same_more, same_refl}
use Rattle.refinement.proofs.driver.PortAccesses.{on_all}
use Rattle.refinement.proofs.port_facts.law_adapter_stays_same_and_on_until_ghc_write.Goals as goal

pub returns-clause-access_keeps_adapter : goal.returns-clause-access_keeps_adapter
returns-clause-access_keeps_adapter c = access_same

pub returns-clause-stays_on : goal.returns-clause-stays_on
returns-clause-stays_on c = access_on

pub returns-clause-stays_on_over_all : goal.returns-clause-stays_on_over_all
returns-clause-stays_on_over_all c = on_all

pub returns-clause-adapter_reflexive : goal.returns-clause-adapter_reflexive
returns-clause-adapter_reflexive c = same_refl

pub returns-clause-adapter_transitive : goal.returns-clause-adapter_transitive
returns-clause-adapter_transitive c = same_more
