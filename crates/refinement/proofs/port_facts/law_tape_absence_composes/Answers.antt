use Rattle.refinement.proofs.device.ErrorBits.{comes_nothing, comes_more, comes_parts}
use Rattle.refinement.proofs.device.FaultlessStretches.{fails_nothing, fails_more, fails_parts}
use Rattle.refinement.proofs.device.FaultlessStretches.{fatal_nothing, fatal_more, fatal_parts}
use Rattle.refinement.proofs.device.HealthyPort.{undisturbed_none, undisturbed_more, undisturbed_parts}
use Rattle.refinement.proofs.device.PortControls.{plugs_nothing, plugs_more, plugs_parts}
use Rattle.refinement.proofs.port_facts.law_tape_absence_composes.Goals as goal

pub returns-clause-undisturbed : goal.returns-clause-undisturbed
returns-clause-undisturbed c = record { reflexive = undisturbed_none; transitive = undisturbed_more; whole_gives_parts = undisturbed_parts }

pub returns-clause-plugs : goal.returns-clause-plugs
returns-clause-plugs c = record { reflexive = plugs_nothing; transitive = plugs_more; whole_gives_parts = plugs_parts }

pub returns-clause-comes : goal.returns-clause-comes
returns-clause-comes c = record { reflexive = comes_nothing; transitive = comes_more; whole_gives_parts = comes_parts }

pub returns-clause-fatal : goal.returns-clause-fatal
returns-clause-fatal c = record { reflexive = fatal_nothing; transitive = fatal_more; whole_gives_parts = fatal_parts }

pub returns-clause-fails : goal.returns-clause-fails
returns-clause-fails c = record { reflexive = fails_nothing; transitive = fails_more; whole_gives_parts = fails_parts }
