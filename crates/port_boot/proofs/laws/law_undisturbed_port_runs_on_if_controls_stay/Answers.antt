use Rattle.port_boot.proofs.Enduring.{lasts, lasts_access, well_on}
use Rattle.port_boot.proofs.laws.law_undisturbed_port_runs_on_if_controls_stay.Goals as goal

pub returns-clause-more_accesses : goal.returns-clause-more_accesses
returns-clause-more_accesses c = λ port accesses old new on all host control command. (lasts c.law_prerequisites.ensures port accesses old new on all host control command).runs

pub returns-clause-healthy_port_stays_well : goal.returns-clause-healthy_port_stays_well
returns-clause-healthy_port_stays_well c = well_on c.law_prerequisites.ensures

pub returns-clause-one_access : goal.returns-clause-one_access
returns-clause-one_access c = λ port access old new on control command does. (lasts_access c.law_prerequisites.ensures port access old new on control does command).runs
