use Rattle.error_recovery.proofs.Going.{loads_inside, recovering_is_of, recovering_spares_host, spares_active, spares_interrupts, spares_link, stores_inside}
use Rattle.error_recovery.proofs.laws.law_recovery_accesses_spare_others.Goals as goal

pub returns-clause-spares_other_ports : goal.returns-clause-spares_other_ports
returns-clause-spares_other_ports c = recovering_is_of c.law_prerequisites.ensures

pub returns-clause-ghc_is_unwritten : goal.returns-clause-ghc_is_unwritten
returns-clause-ghc_is_unwritten c = recovering_spares_host c.law_prerequisites.ensures

pub returns-clause-sctl_is_unwritten : goal.returns-clause-sctl_is_unwritten
returns-clause-sctl_is_unwritten c = spares_link c.law_prerequisites.ensures

pub returns-clause-ie_is_unwritten : goal.returns-clause-ie_is_unwritten
returns-clause-ie_is_unwritten c = spares_interrupts c.law_prerequisites.ensures

pub returns-clause-sact_is_unwritten : goal.returns-clause-sact_is_unwritten
returns-clause-sact_is_unwritten c = spares_active c.law_prerequisites.ensures

pub returns-clause-loads : goal.returns-clause-loads
returns-clause-loads c = loads_inside

pub returns-clause-stores : goal.returns-clause-stores
returns-clause-stores c = stores_inside
