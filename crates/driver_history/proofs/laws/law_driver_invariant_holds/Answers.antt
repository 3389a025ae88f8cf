use Rattle.driver_history.proofs.Instants.{holds_at, fit_at}
use Rattle.driver_history.proofs.laws.law_driver_invariant_holds.Goals as goal

pub returns-clause-invariant_holds : goal.returns-clause-invariant_holds
returns-clause-invariant_holds c = holds_at

pub returns-clause-ports_are_well_formed : goal.returns-clause-ports_are_well_formed
returns-clause-ports_are_well_formed c = fit_at
