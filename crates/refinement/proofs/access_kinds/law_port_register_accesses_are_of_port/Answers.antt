use Rattle.refinement.proofs.driver.PortAccesses.{control_is_of, control_spares, control_wider, is_control}
use Rattle.refinement.proofs.access_kinds.law_port_register_accesses_are_of_port.Goals as goal

pub returns-clause-is_of_port : goal.returns-clause-is_of_port
returns-clause-is_of_port g c = λ set. control_is_of (g.R.RegisterSets.has set)

pub returns-clause-spares : goal.returns-clause-spares
returns-clause-spares g c = λ set. control_spares (g.R.RegisterSets.has set)

pub returns-clause-wider : goal.returns-clause-wider
returns-clause-wider g c = λ set more port. control_wider (g.R.RegisterSets.has set) port (g.R.RegisterSets.has more)

pub returns-clause-is_reading_or_writing : goal.returns-clause-is_reading_or_writing
returns-clause-is_reading_or_writing g c = λ set. is_control (g.R.RegisterSets.has set)
