use Rattle.refinement.proofs.device.ErrorBits.{plugs_come}
use Rattle.refinement.proofs.device.FaultlessStretches.{undisturbed_fails, undisturbed_fatal}
use Rattle.refinement.proofs.device.PortControls.{undisturbed_plugs}
use Rattle.refinement.proofs.port_facts.law_undisturbed_has_no_error_or_plug.Goals as goal

pub returns-clause-plugs : goal.returns-clause-plugs
returns-clause-plugs c = undisturbed_plugs

pub returns-clause-comes : goal.returns-clause-comes
returns-clause-comes c = plugs_come

pub returns-clause-fatal : goal.returns-clause-fatal
returns-clause-fatal c = undisturbed_fatal

pub returns-clause-fails : goal.returns-clause-fails
returns-clause-fails c = undisturbed_fails
